use Rattle.std.proofs.Common.{◌≡◌, Some, None, sym, ap, ◌∙◌}
use Rattle.session.specs.Wanting.{set_of, stored_at, want_place, want_stored, want_set_answer, want_set_state}
use Rattle.session.proofs.session.Session.want.Goals as goal

pub returns-in-None-clause-value : goal.returns-in-None-clause-value
returns-in-None-clause-value c =
    let s = c.args.self.now in
    let t = c.in_ok-set.set in
    let wanted : Some t ≡ set_of s.term_count c.args.terms.now = rw (← c.self.view_is) (sym c.in_ok-set.ensures.ok_part ∙ c.set_of.ensures) in
    let none : None ≡ stored_at s t = rw (← c.self.view_is, ← c.all.ensures.rows) c.in-None.ensures.value in
    c.store.ensures.value ∙ ap (want_place s t) none ∙ ap (want_set_answer s) wanted

pub returns-in-None-clause-state : goal.returns-in-None-clause-state
returns-in-None-clause-state c =
    let s = c.args.self.now in
    let t = c.in_ok-set.set in
    let wanted : Some t ≡ set_of s.term_count c.args.terms.now = rw (← c.self.view_is) (sym c.in_ok-set.ensures.ok_part ∙ c.set_of.ensures) in
    let none : None ≡ stored_at s t = rw (← c.self.view_is, ← c.all.ensures.rows) c.in-None.ensures.value in
    c.store.ensures.state ∙ ap (want_stored s t) none ∙ ap (want_set_state s) wanted
