-- The entries of a list, place by place. Assumes nothing.
use Rattle.std.proofs.Common.{◌≡◌, ℕ, zero, suc, ◌<◌, true, List, [], ◌∷◌, length, get_or, Ok, Err, refl, arith}
use Rattle.std.proofs.lemmas.List.{get_or-map}
use Rattle.std.proofs.lemmas.Bool.{and_parts}
use Rattle.shelf.specs.Shelves.{Entry, sound_entry, all_sound}
use Rattle.writer.specs.Writing.{faultless, entry_bytes, entry_bodies}
use Rattle.shelf.specs.Axioms.{Axiom}

-- an entry of a sound list is sound
pub sound_at : (es : List Entry) (i : ℕ) (d : Entry) → all_sound es ≡ true → i < length es → sound_entry (get_or es i d) ≡ true
sound_at [] i d h l = absurd (omega arith)
sound_at (e ∷ es) zero d h l = (and_parts _ _ h).0
sound_at (e ∷ es) (suc i) d h l = sound_at es i d (and_parts (sound_entry e) (all_sound es) h).1 (omega arith)

-- the body at a place is that of the entry there
pub body_at : (es : List Entry) (i : ℕ) (d : Entry) → i < length es → get_or (entry_bodies es) i [] ≡ entry_bytes (get_or es i d)
body_at es i d h = get_or-map entry_bytes es i d [] h

-- the entries of a faultless list are axioms
pub axiom_at : (es : List Entry) (i : ℕ) (d : Entry) → faultless es ≡ true → i < length es → (a : Axiom) × (get_or es i d ≡ Ok a)
axiom_at [] i d f h = absurd (omega arith)
axiom_at (Ok a ∷ es) zero d f h = (a, refl)
axiom_at (Ok a ∷ es) (suc i) d f h = axiom_at es i d f (omega arith)
axiom_at (Err e ∷ es) i d f h = cc
