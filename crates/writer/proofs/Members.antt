-- The terms of a set as a rising list of bytes. Assumes nothing.
use Rattle.std.proofs.Common.{◌≡◌, ℕ, ◌≤◌, List, [], map, length, filter, sym, refl, ap, ◌∙◌, subst, arith}
use lib.ListN.{length-map}
use Rattle.std.proofs.lemmas.List.{map-id}
use Rattle.std.proofs.lemmas.Simd.{map-map}
use Rattle.std.proofs.lemmas.List.Sums.{length-filter, count_by-le-length}
use Rattle.std.proofs.lemmas.List.FromFn.{length-range_with_len}
use Rattle.std.specs.List.{range_with_len}
use Rattle.numbers.specs.TermSets.{term_has, term_none, term_number}
use Rattle.numbers.specs.TermLists.{term_of, members, members_from, terms_of}
use Rattle.numbers.specs.declared.term_set.TermSet.{TermSet}
use Rattle.shelf.specs.Axioms.{Axiom}
use Rattle.writer.specs.Writing.{left_bytes, body_bytes}

-- the numbers of terms that were made of numbers
numbers_again : (ns : List ℕ) → map term_number (map term_of ns) ≡ ns
numbers_again ns = map-map term_number term_of ns ∙ map-id ns

-- the left list of a set has the numbers that are members
pub all_members : (s : TermSet) (n : ℕ) → n ≡ 64 → filter (term_has s) (range_with_len 1 n) ≡ left_bytes s
unfolding members
all_members s n e = sym (numbers_again (filter (term_has s) (range_with_len 1 n))) ∙ ap (λ (m : ℕ). map term_number (map term_of (members_from s 1 m))) e

-- the empty set has no members
pub none_bytes : left_bytes term_none ≡ []
unfolding members
none_bytes = refl

members_short : (s : TermSet) (n : ℕ) → n ≡ 64 → length (members s) ≤ n
unfolding members
members_short s n e = subst (λ (m : ℕ). length (members_from s 1 m) ≤ n) e (omega (arith, length-filter (term_has s) (range_with_len 1 n), count_by-le-length (term_has s) (range_with_len 1 n), length-range_with_len 1 n))

-- a set has at most 64 members
pub terms_short : (s : TermSet) → length (terms_of s) ≤ 64
terms_short s = omega (arith, members_short s 64 refl, length-map (members s) term_of)

left_short : (s : TermSet) → length (left_bytes s) ≤ 64
left_short s = omega (arith, terms_short s, length-map (terms_of s) term_number)

-- a body has 3 to 67 bytes
pub length_body : (a : Axiom) → (3 ≤ length (body_bytes a)) × (length (body_bytes a) ≤ 67)
length_body a = (grind (arith, left_short), grind (arith, left_short))
