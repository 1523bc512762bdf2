-- What a catalogue hands out at a place, by cases, and the entry that it makes of it. Assumes nothing.
use Rattle.std.proofs.Common.{◌≡◌, ℕ, zero, suc, ◌-◌, true, false, cond, List, map, length, Err, Result, ap, ◌∙◌, sub-one, arith}
use Rattle.std.specs.List.{range_with_len}
use Rattle.std.proofs.lemmas.List.FromFn.{length-map-range_with_len, get_or-map-range_with_len}
use Rattle.std.proofs.lemmas.List.{get_or_past}
use Rattle.std.proofs.lemmas.Bool.{cond-true, cond-false}
use Rattle.std.proofs.lemmas.Bool.Decides.{nat_tests}
use Rattle.numbers.specs.Bits.{possible}
use Rattle.catalogue.specs.Bodies.{and_then, to_axiom}
use Rattle.catalogue.specs.Catalogues.{entries, readable, start_of, form_of, axiom_of, catalogue_list}
use Rattle.catalogue.specs.Handed.{part_of, body_at, stated}
use Rattle.shelf.specs.Faults.{at_byte, in_shelf, origin}
use Rattle.shelf.specs.Shelves.{Entry, placed, byteless, entry_at}
use Rattle.shelf.specs.declared.fault.ByteFault.{ByteFault}
use Rattle.shelf.specs.declared.fault.Cause.TheVariants.{Outside}
use Rattle.shelf.specs.declared.form.Form.{Form}

-- a catalogue has as many entries as it says, or one where it cannot be read
pub count_listed : (bs : List ℕ) (m : ℕ) → length (catalogue_list bs m) ≡ cond (readable bs) (entries bs) 1
count_listed bs m = grind (arith, length-map-range_with_len (λ i. placed m (suc i) (axiom_of bs i)) 0 (entries bs))

-- what is handed out at a place outside the list, and at one on it
module _ (bs : List ℕ) (m p : ℕ) where
  pub body_outside : readable bs ≡ true → possible (entries bs) p ≡ false → body_at bs m p ≡ Err (in_shelf (at_byte Outside 0) (origin m p))
  body_outside h o = ap (placed m p) (cond-true (readable bs) _ _ h ∙ cond-false (possible (entries bs) p) _ _ o)

  pub body_inside : readable bs ≡ true → possible (entries bs) p ≡ true → body_at bs m p ≡ placed m p (part_of p (start_of bs (p - 1)) (form_of bs (p - 1)))
  body_inside h o = ap (placed m p) (cond-true (readable bs) _ _ h ∙ cond-true (possible (entries bs) p) _ _ o)

-- what a form states, where it was read
stated_part : (m p at : ℕ) (f : Result (Form (List ℕ)) ByteFault) → stated m (placed m p (part_of p at f)) ≡ placed m p (and_then f (to_axiom at))
stated_part m p at f = grind arith

-- the entry at a place is what the body there states
pub entry_stated : (bs : List ℕ) (m p : ℕ) → entry_at (catalogue_list bs m) m p ≡ stated m (body_at bs m p)
entry_stated bs m zero = grind arith
entry_stated bs m (suc k) =
    let all : List Entry = map (λ i. placed m (suc i) (axiom_of bs i)) (range_with_len 0 (entries bs)) in
    let outside : Entry = byteless m (suc k) Outside in
    let len = length-map-range_with_len (λ i. placed m (suc i) (axiom_of bs i)) 0 (entries bs) in
    let inside = get_or-map-range_with_len (λ i. placed m (suc i) (axiom_of bs i)) 0 (entries bs) k k outside in
    grind (arith, nat_tests, len, inside, get_or_past all k outside, stated_part m (suc k) (start_of bs k) (form_of bs k), sub-one (suc k))
