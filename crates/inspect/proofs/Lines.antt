-- The parts of a listing, one part more. Assumes nothing.
use Rattle.std.proofs.Common.{◌≡◌, ℕ, suc, List, [], ◌∷◌, ◌++◌, map, length, codes, decimal, sym, ap, ◌∙◌, append_assoc, arith, ◌==◌}
use Rattle.std.proofs.lemmas.Bool.{cond-false, ne_eqb}
use Rattle.numbers.specs.TermLists.{terms_of}
use Rattle.numbers.specs.TermSets.{term_number}
use Rattle.numbers.specs.declared.term.Term.{Term}
use Rattle.numbers.specs.declared.term_set.TermSet.{TermSet}
use Rattle.inspect.specs.Statements.{spaced, terms_text, left_text}

module _ (said whole : List ℕ) where
  -- the next term comes after what was said, behind a space
  pub next_term : (t : Term) (ts rest : List Term) → ts ≡ t ∷ rest → said ++ spaced (map term_number ts) ≡ whole → (said ++ (codes " " ++ decimal t.0)) ++ spaced (map term_number rest) ≡ whole
  next_term t ts rest next so =
      append_assoc said (codes " " ++ decimal t.0) (spaced (map term_number rest))
      ∙ ap (λ (xs : List ℕ). said ++ xs) (append_assoc (codes " ") (decimal t.0) (spaced (map term_number rest)))
      ∙ ap (λ (xs : List Term). said ++ spaced (map term_number xs)) (sym next) ∙ so

-- a left side without terms, and one with a first term
pub no_terms : (s : TermSet) → terms_of s ≡ [] → codes "all" ≡ left_text s
unfolding left_text
no_terms s e = sym (ap (λ (ts : List Term). terms_text (map term_number ts)) e)

said_first : (n : ℕ) (ns : List ℕ) → terms_text (n ∷ ns) ≡ decimal n ++ spaced ns
said_first n ns = cond-false (suc (length ns) == 0) (codes "all") (decimal n ++ spaced ns) (ne_eqb (suc (length ns)) 0 (omega arith))

pub first_term : (s : TermSet) (t : Term) (rest : List Term) → terms_of s ≡ t ∷ rest → decimal t.0 ++ spaced (map term_number rest) ≡ left_text s
unfolding left_text
first_term s t rest e = sym (ap (λ (ts : List Term). terms_text (map term_number ts)) e ∙ said_first t.0 (map term_number rest))
