-- Axioms, and which of them are well formed. Assumes nothing.
use Rattle.std.specs.Prelude.{Bool, true, ◌&&◌, Some, None, Option}
use Rattle.numbers.specs.Roles.{is_role}
use Rattle.numbers.specs.Terms.{is_term}
use Rattle.numbers.specs.declared.term.Term.{Term}
use Rattle.numbers.specs.declared.term_set.TermSet.{TermSet}
use Rattle.shelf.specs.declared.form.Form.{Form}
use Rattle.shelf.specs.declared.form.Form.TheVariants.{Under, Nothing, Exists, Only, AtMostOne, RoleUnder}

abbrev pub Axiom : Type 0
Axiom = Form TermSet

-- everything, or a term that means something
abbrev pub is_filler : Option Term → Bool
is_filler None = true
is_filler (Some t) = is_term t

-- the roles of a form mean something
abbrev pub roles_sound : {L : Type 0} → Form L → Bool
roles_sound (Under l t) = true
roles_sound (Nothing l) = true
roles_sound (Exists l r f) = is_role r
roles_sound (Only l r t) = is_role r
roles_sound (AtMostOne l r f) = is_role r
roles_sound (RoleUnder r q) = is_role r && is_role q

-- so does its right side
abbrev pub right_sound : {L : Type 0} → Form L → Bool
right_sound (Under l t) = is_term t
right_sound (Nothing l) = true
right_sound (Exists l r f) = is_filler f
right_sound (Only l r t) = is_term t
right_sound (AtMostOne l r f) = is_filler f
right_sound (RoleUnder r q) = true

-- well formed: all terms and roles mean something
abbrev pub sound : {L : Type 0} → Form L → Bool
sound a = roles_sound a && right_sound a
