-- What the program says of an axiom. Assumes nothing.
use Rattle.std.specs.Prelude.{ℕ, cond, List, [], ◌∷◌, ◌++◌, length, codes, decimal, Option, ◌==◌}
use Rattle.numbers.specs.Roles.{role_text}
use Rattle.numbers.specs.declared.term.Term.{Term}
use Rattle.numbers.specs.declared.term_set.TermSet.{TermSet}
use Rattle.shelf.specs.Axioms.{Axiom}
use Rattle.shelf.specs.Forms.{filler_number}
use Rattle.writer.specs.Writing.{left_bytes}
use Rattle.shelf.specs.declared.form.Form.TheVariants.{Under, Nothing, Exists, Only, AtMostOne, RoleUnder}

-- numbers, a space before each
abbrev pub spaced : List ℕ → List ℕ
spaced [] = []
spaced (n ∷ ns) = codes " " ++ (decimal n ++ spaced ns)

-- numbers with a space between them
abbrev pub so_far : List ℕ → List ℕ
so_far [] = []
so_far (n ∷ ns) = decimal n ++ spaced ns

-- the same, or `all` where there is none
abbrev pub terms_text : List ℕ → List ℕ
terms_text ns = cond (length ns == 0) (codes "all") (so_far ns)

-- a filler's term by its number, or 0 for everything
abbrev pub filler_text : Option Term → List ℕ
filler_text x = decimal (filler_number x)

-- the left side of an axiom
unfoldable pub left_text : TermSet → List ℕ
left_text s = terms_text (left_bytes s)

abbrev pub statement : Axiom → List ℕ
statement (Under l t) = left_text l ++ (codes " under " ++ decimal t.0)
statement (Nothing l) = left_text l ++ codes " under nothing"
statement (Exists l r x) = left_text l ++ (codes " some " ++ (role_text r ++ (codes " " ++ filler_text x)))
statement (Only l r t) = left_text l ++ (codes " only " ++ (role_text r ++ (codes " " ++ decimal t.0)))
statement (AtMostOne l r x) = left_text l ++ (codes " at most one " ++ (role_text r ++ (codes " " ++ filler_text x)))
statement (RoleUnder r q) = role_text r ++ (codes " under " ++ role_text q)
