-- The terms of a set as a list, rising. Assumes nothing.
use Rattle.std.specs.Prelude.{ℕ, ◌-◌, List, map, filter}
use Rattle.std.specs.List.{range_with_len}
use Rattle.numbers.specs.TermSets.{term_has}
use Rattle.numbers.specs.declared.term.Term.{Term}
use Rattle.numbers.specs.declared.term_set.TermSet.{TermSet}
use Rattle.numbers.specs.declared.term_set.terms.Terms.{Terms}

abbrev pub term_of : ℕ → Term
term_of n = record { 0 = n }

-- the members among so many numbers, from one on
abbrev pub members_from : TermSet → ℕ → ℕ → List ℕ
members_from s n k = filter (term_has s) (range_with_len n k)

-- the members of a set, rising
unfoldable pub members : TermSet → List ℕ
members s = members_from s 1 64

abbrev pub terms_of : TermSet → List Term
terms_of s = map term_of (members s)

-- the terms of a set from a number on
abbrev pub terms_from : TermSet → ℕ → List Term
terms_from s n = map term_of (members_from s n (65 - n))

-- the terms that are left to come
abbrev pub terms_left : Terms → List Term
terms_left t = terms_from t.set t.next
