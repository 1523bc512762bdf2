-- Reading a left list from its place i on. Assumes nothing.
use Rattle.std.proofs.Common.{◌≡◌, ℕ, suc, ◌+◌, ◌<◌, true, false, ◌&&◌, ltb, List, length, get_or, drop, Err, ◌∙◌}
use Rattle.std.proofs.lemmas.List.{at_drop_more}
use Rattle.std.proofs.lemmas.Bool.{cond-true, cond-false}
use Rattle.numbers.specs.Bits.{possible}
use Rattle.numbers.specs.TermSets.{term_single, term_joined}
use Rattle.numbers.specs.declared.term_set.TermSet.{TermSet}
use Rattle.catalogue.specs.Bodies.{read_left}
use Rattle.shelf.specs.Faults.{at_byte}
use Rattle.shelf.specs.declared.fault.Cause.TheVariants.{Left}

module _ (at before : ℕ) (s : TermSet) (xs : List ℕ) (i : ℕ) where
  -- a byte that may stand there is taken
  pub left_more : i < length xs → (possible 64 (get_or xs i 0) && ltb before (get_or xs i 0)) ≡ true → read_left at before s (drop i xs) ≡ read_left (suc at) (get_or xs i 0) (term_joined s (term_single (get_or xs i 0))) (drop (i + 1) xs)
  left_more h e = at_drop_more (read_left at before s) xs i 0 h ∙ cond-true (possible 64 (get_or xs i 0) && ltb before (get_or xs i 0)) _ _ e

  -- any other byte is the fault
  pub left_stuck : i < length xs → (possible 64 (get_or xs i 0) && ltb before (get_or xs i 0)) ≡ false → read_left at before s (drop i xs) ≡ Err (at_byte Left at)
  left_stuck h e = at_drop_more (read_left at before s) xs i 0 h ∙ cond-false (possible 64 (get_or xs i 0) && ltb before (get_or xs i 0)) _ _ e
