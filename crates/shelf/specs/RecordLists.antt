-- The list of a record shelf. Assumes nothing.
use Rattle.std.specs.Prelude.{◌≡◌, ℕ, zero, suc, ◌+◌, ◌<◌, ◌≤◌, Bool, true, false, List, [], ◌∷◌, length, slice_index_or, refl}
use Rattle.std.proofs.Common.{sym, ap, ◌∙◌, add-zero, arith}
use Rattle.std.proofs.lemmas.Bool.{and_from}
use Rattle.shelf.specs.Axioms.{Axiom, roles_sound, right_sound}
use Rattle.shelf.specs.Records.{read_record, records_from, records_list}
use Rattle.shelf.specs.Shelves.{Entry, placed, byteless, entry_at, all_sound, sound_entry}
use Rattle.shelf.specs.EntryLists.{all_short, at_place, kept_sound}
use Rattle.shelf.specs.declared.fault.Cause.TheVariants.{Outside}

pub length_records : (m p : ℕ) (xs : List Axiom) → length (records_from m p xs) ≡ length xs
length_records m p [] = refl
length_records m p (a ∷ xs) = ap suc (length_records m (suc p) xs)

read_sound : (m p : ℕ) (a : Axiom) → sound_entry (placed m p (read_record a)) ≡ true
read_sound m p a = go (roles_sound a) (right_sound a) refl refl
  where
    go : (x y : Bool) → roles_sound a ≡ x → right_sound a ≡ y → sound_entry (placed m p (read_record a)) ≡ true
    go true true e f = rw (e, f) (and_from _ _ e f)
    go true false e f = rw (e, f) refl
    go false y e f = rw e refl

from_sound : (m p : ℕ) (xs : List Axiom) → all_sound (records_from m p xs) ≡ true
from_sound m p [] = refl
from_sound m p (a ∷ xs) = and_from _ _ (read_sound m p a) (from_sound m (suc p) xs)

pub records_short : (m : ℕ) (xs : List Axiom) → length (records_list m xs) ≤ 65535
records_short m xs = all_short m (records_from m 1 xs)

pub records_sound : (m : ℕ) (xs : List Axiom) → all_sound (records_list m xs) ≡ true
records_sound m xs = kept_sound m (records_from m 1 xs) (from_sound m 1 xs)

-- what stands at a place
pub record_at : (m p : ℕ) (xs : List Axiom) (k : ℕ) (a : Axiom) (d : Entry) → k < length xs → slice_index_or (records_from m p xs) k d ≡ placed m (p + k) (read_record (slice_index_or xs k a))
record_at m p [] k a d h = absurd (omega arith)
record_at m p (b ∷ xs) zero a d h = ap (λ (q : ℕ). placed m q (read_record b)) (sym (add-zero p))
record_at m p (b ∷ xs) (suc k) a d h = record_at m (suc p) xs k a d (omega arith) ∙ ap (λ (q : ℕ). placed m q (read_record (slice_index_or xs k a))) (omega arith)

-- what stands at a place of the shelf, as a record is read there
pub records_at : (m p k : ℕ) (xs : List Axiom) (a : Axiom) → length xs ≤ 65535 → k + 1 ≡ p → k < length xs → a ≡ slice_index_or xs k a → placed m p (read_record a) ≡ entry_at (records_list m xs) m p
records_at m p k xs a short here on row =
    ap (λ (b : Axiom). placed m p (read_record b)) row ∙ ap (λ (q : ℕ). placed m q (read_record (slice_index_or xs k a))) (sym here ∙ omega arith)
    ∙ sym (record_at m 1 xs k a (byteless m (suc k) Outside) on) ∙ sym (at_place m p k (records_from m 1 xs) (omega (arith, length_records m 1 xs)) (sym here ∙ omega arith))
