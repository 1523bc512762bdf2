-- What a contract sees of a session: its abstract state. Assumes nothing.
use Rattle.numbers.specs.declared.term_set.TermSet.{TermSet}
use Rattle.calculus.specs.States.{State}
use Rattle.session.specs.declared.session.Session.TheInside.{Inside}

abbrev pub model : Inside → State TermSet
model s = record {
  term_count = s.vocabulary.terms;
  role_count = s.vocabulary.roles;
  axiom_places = s.axioms.room;
  context_places = s.contexts.room;
  need_places = s.needs.room;
  axioms = s.axioms.rows;
  contexts = s.contexts.rows;
  needs = s.needs.rows;
  rest = s.rest;
}
