-- Appending a packet entry by entry. Assumes nothing.
use Rattle.std.proofs.Common.{◌≡◌, ◌+◌, ◌≤◌, List, [], ◌∷◌, ◌++◌, length, Ok, Err, sym, ap, ◌∙◌, arith}
use Rattle.std.proofs.lemmas.List.{append_assoc}
use Rattle.shelf.specs.Axioms.{Axiom}
use Rattle.shelf.specs.Shelves.{Entry}
use Rattle.calculus.proofs.Places.{length_end}
use Rattle.session.specs.Taking.{with_entry, axioms_of}

-- the axioms of what is left, behind those so far
pub axioms_next : (xs : List Axiom) (e : Entry) (es rest : List Entry) → es ≡ e ∷ rest → with_entry xs e ++ axioms_of rest ≡ xs ++ axioms_of es
axioms_next xs (Ok a) es rest d = append_assoc xs (a ∷ []) (axioms_of rest) ∙ ap (λ (ys : List Entry). xs ++ axioms_of ys) (sym d)
axioms_next xs (Err f) es rest d = ap (λ (ys : List Entry). xs ++ axioms_of ys) (sym d)

pub entry_longer : (xs : List Axiom) (e : Entry) → length (with_entry xs e) ≤ length xs + 1
entry_longer xs (Ok a) = omega (arith, length_end xs a)
entry_longer xs (Err f) = omega arith
