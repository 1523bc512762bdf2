use Rattle.std.proofs.Common.{ℕ, ◌≤◌, sym, refl, subst}
use Rattle.calculus.specs.Makes.{words}
use Rattle.calculus.specs.Potentials.{potential, step_bound}
use Rattle.calculus.proofs.Growth.{raised, bounded, fresh_kept}
use Rattle.calculus.proofs.Invariants.{reached_regular}
use Rattle.calculus.proofs.LawfulWords.{lawful_words}
use Rattle.calculus.proofs.theorems.step_bound.Goals as goal

pub returns : goal.returns
returns c = record {
  value = c.capacity.ensures;
  bounded = λ s reached n q a d.
      subst (λ (z : ℕ). potential words s ≤ z) (sym c.capacity.ensures)
      (subst (λ (z : ℕ). potential words s ≤ step_bound z c.args.roles c.args.contexts c.args.needs) n
      (subst (λ (z : ℕ). potential words s ≤ step_bound s.term_count z c.args.contexts c.args.needs) q
      (subst (λ (z : ℕ). potential words s ≤ step_bound s.term_count s.role_count z c.args.needs) a
      (subst (λ (z : ℕ). potential words s ≤ step_bound s.term_count s.role_count s.context_places z) d
      (bounded words lawful_words s (reached_regular words lawful_words s reached))))));
  raised = λ s p f reached due miss. raised words lawful_words s (reached_regular words lawful_words s reached) p f due miss;
  fresh = λ s t reached. fresh_kept words lawful_words s (reached_regular words lawful_words s reached) t;
  taken = λ s xs. refl;
  rested = λ s b. refl;
}
