-- The parts of a form: its left side, and the number of a filler. Assumes nothing.
use Rattle.std.specs.Prelude.{ℕ, Some, None, Option}
use Rattle.numbers.specs.declared.term.Term.{Term}
use Rattle.shelf.specs.declared.form.Form.{Form}
use Rattle.shelf.specs.declared.form.Form.TheVariants.{Under, Nothing, Exists, Only, AtMostOne, RoleUnder}

-- a filler's term by its number, or 0 for everything
abbrev pub filler_number : Option Term → ℕ
filler_number None = 0
filler_number (Some t) = t.0

-- the left side, of which the inclusion of a role has none
abbrev pub left_of : {L : Type 0} → Form L → Option L
left_of (Under l t) = Some l
left_of (Nothing l) = Some l
left_of (Exists l r x) = Some l
left_of (Only l r t) = Some l
left_of (AtMostOne l r x) = Some l
left_of (RoleUnder r q) = None

-- the same form over another kind of left side
abbrev pub map_left : {L M : Type 0} → (L → M) → Form L → Form M
map_left f (Under l t) = Under (f l) t
map_left f (Nothing l) = Nothing (f l)
map_left f (Exists l r x) = Exists (f l) r x
map_left f (Only l r t) = Only (f l) r t
map_left f (AtMostOne l r x) = AtMostOne (f l) r x
map_left f (RoleUnder r q) = RoleUnder r q
