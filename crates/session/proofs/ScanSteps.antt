-- The steps of the scans: what is found at one place of a loop. Assumes nothing.
use Rattle.std.proofs.Common.{ℕ}
use Rattle.numbers.specs.declared.term_set.TermSet.{TermSet}
use Rattle.shelf.specs.Axioms.{Axiom}
use Rattle.calculus.specs.Makes.{words}
use Rattle.calculus.specs.Search.{when, each_axiom, each_need}
use Rattle.calculus.specs.States.{State}
use Rattle.calculus.specs.declared.state.Context.{Context}
use Rattle.session.specs.Scans.{Found, at_axiom, at_need, edge_applies, at_edge}
use Rattle.session.specs.declared.session.rules.AxiomRule.{AxiomRule}
use Rattle.session.specs.declared.session.rules.EdgeRule.{EdgeRule}
use Rattle.session.specs.declared.session.rules.NeedRule.{NeedRule}

module _ (s : State TermSet) where
  abbrev pub axiom_axiom : AxiomRule → ℕ → Context TermSet → ℕ → Axiom → Found
  axiom_axiom rule i c a x = at_axiom rule s i c x

  abbrev pub axiom_context : AxiomRule → ℕ × Context TermSet → Found
  axiom_context rule e = each_axiom words s (axiom_axiom rule e.0 e.1)

  abbrev pub need_place : NeedRule → ℕ → Found
  need_place rule i = each_need words s i (λ j d. at_need rule s i d)

  abbrev pub need_context : NeedRule → ℕ × Context TermSet → Found
  need_context rule e = need_place rule e.0

  abbrev pub edge_place : EdgeRule → ℕ → Axiom → Found
  edge_place rule i x = each_need words s i (λ j d. at_edge rule s i x d)

  abbrev pub edge_axiom : EdgeRule → ℕ → Context TermSet → ℕ → Axiom → Found
  edge_axiom rule i c a x = when (edge_applies rule c x) (λ _. edge_place rule i x)

  abbrev pub edge_context : EdgeRule → ℕ × Context TermSet → Found
  edge_context rule e = each_axiom words s (edge_axiom rule e.0 e.1)
