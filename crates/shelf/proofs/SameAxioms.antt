-- The derived `==` of axioms, part by part: two axioms are equal exactly if they are the same. Assumes nothing.
use Rattle.std.proofs.Common.{◌≡◌, Bool, true, ◌&&◌, Option, Some, None, refl}
use Rattle.std.proofs.lemmas.Bool.{and_from, and_parts, eqb-true, eq-eqb, false≢true}
use Rattle.std.specs.contracts.prelude.OptionPartialEq.TheImpl as options
use Rattle.numbers.specs.contracts.role.DirectedRolePartialEq.TheImpl as roles
use Rattle.numbers.specs.contracts.term.Term as term_row
use Rattle.numbers.specs.contracts.term.TermPartialEq.TheImpl as terms
use Rattle.numbers.specs.contracts.term_set.TermSet as set_row
use Rattle.numbers.specs.contracts.term_set.TermSetPartialEq.TheImpl as sets
use Rattle.numbers.specs.declared.role.DirectedRole.{DirectedRole}
use Rattle.numbers.specs.declared.role.DirectedRole.TheVariants.{Forward, Backward}
use Rattle.numbers.specs.declared.term.Term.{Term}
use Rattle.numbers.specs.declared.term_set.TermSet.{TermSet}
use Rattle.numbers.specs.SetsLawful.{same_terms}
use Rattle.shelf.specs.Axioms.{Axiom}
use Rattle.shelf.specs.declared.form.Form.TheVariants.{Under, Nothing, Exists, Only, AtMostOne, RoleUnder}
use Rattle.shelf.specs.contracts.form.FormPartialEq.TheImpl as forms

-- what the derived comparisons answer
abbrev term_eq : Term → Term → Bool
term_eq = (terms.ghosts).eq

abbrev role_eq : DirectedRole → DirectedRole → Bool
role_eq = (roles.ghosts).eq

abbrev filler_eq : Option Term → Option Term → Bool
filler_eq = (options.ghosts term_row.the_row terms.ghosts terms.dict).eq

abbrev set_eq : TermSet → TermSet → Bool
set_eq = (sets.ghosts).eq

abbrev pub axiom_eq : Axiom → Axiom → Bool
axiom_eq = (forms.ghosts set_row.the_row sets.ghosts sets.dict).eq

term_itself : (t : Term) → term_eq t t ≡ true
term_itself t = eq-eqb t.0 t.0 refl

term_known : (t u : Term) → term_eq t u ≡ true → t ≡ u
term_known t u e = let n : t.0 ≡ u.0 = eqb-true t.0 u.0 e in λ i. record { 0 = n i }

role_itself : (r : DirectedRole) → role_eq r r ≡ true
role_itself (Forward r) = eq-eqb r.0 r.0 refl
role_itself (Backward r) = eq-eqb r.0 r.0 refl

role_known : (r q : DirectedRole) → role_eq r q ≡ true → r ≡ q
role_known (Forward r) (Forward q) e = let n : r.0 ≡ q.0 = eqb-true r.0 q.0 e in λ i. Forward (record { 0 = n i })
role_known (Backward r) (Backward q) e = let n : r.0 ≡ q.0 = eqb-true r.0 q.0 e in λ i. Backward (record { 0 = n i })
role_known _ _ e = absurd (false≢true e)

filler_itself : (f : Option Term) → filler_eq f f ≡ true
filler_itself None = refl
filler_itself (Some t) = term_itself t

filler_known : (f g : Option Term) → filler_eq f g ≡ true → f ≡ g
filler_known None None e = refl
filler_known (Some t) (Some u) e = let p : t ≡ u = term_known t u e in λ i. Some (p i)
filler_known _ _ e = absurd (false≢true e)

set_itself : (s : TermSet) → set_eq s s ≡ true
set_itself s = eq-eqb s.bits s.bits refl

set_known : (s t : TermSet) → set_eq s t ≡ true → s ≡ t
set_known s t e = same_terms s t (eqb-true s.bits t.bits e)

two : {p q : Bool} → p ≡ true → q ≡ true → (p && q) ≡ true
two {p} {q} d e = and_from p q d e

-- an axiom is equal to itself
pub axiom_itself : (a : Axiom) → axiom_eq a a ≡ true
axiom_itself (Under s t) = two (set_itself s) (term_itself t)
axiom_itself (Nothing s) = set_itself s
axiom_itself (Exists s r f) = two (set_itself s) (two (role_itself r) (filler_itself f))
axiom_itself (Only s r t) = two (set_itself s) (two (role_itself r) (term_itself t))
axiom_itself (AtMostOne s r f) = two (set_itself s) (two (role_itself r) (filler_itself f))
axiom_itself (RoleUnder r q) = two (role_itself r) (role_itself q)

-- and to no other one
pub axiom_known : (a b : Axiom) → axiom_eq a b ≡ true → a ≡ b
axiom_known (Under s t) (Under s' t') e =
    let parts = and_parts (set_eq s s') (term_eq t t') e in
    let left : s ≡ s' = set_known s s' parts.0 in
    let right : t ≡ t' = term_known t t' parts.1 in
    λ i. Under (left i) (right i)
axiom_known (Nothing s) (Nothing s') e = let left : s ≡ s' = set_known s s' e in λ i. Nothing (left i)
axiom_known (Exists s r f) (Exists s' r' f') e =
    let parts = and_parts (set_eq s s') (role_eq r r' && filler_eq f f') e in
    let rest = and_parts (role_eq r r') (filler_eq f f') parts.1 in
    let left : s ≡ s' = set_known s s' parts.0 in
    let role : r ≡ r' = role_known r r' rest.0 in
    let filler : f ≡ f' = filler_known f f' rest.1 in
    λ i. Exists (left i) (role i) (filler i)
axiom_known (Only s r t) (Only s' r' t') e =
    let parts = and_parts (set_eq s s') (role_eq r r' && term_eq t t') e in
    let rest = and_parts (role_eq r r') (term_eq t t') parts.1 in
    let left : s ≡ s' = set_known s s' parts.0 in
    let role : r ≡ r' = role_known r r' rest.0 in
    let right : t ≡ t' = term_known t t' rest.1 in
    λ i. Only (left i) (role i) (right i)
axiom_known (AtMostOne s r f) (AtMostOne s' r' f') e =
    let parts = and_parts (set_eq s s') (role_eq r r' && filler_eq f f') e in
    let rest = and_parts (role_eq r r') (filler_eq f f') parts.1 in
    let left : s ≡ s' = set_known s s' parts.0 in
    let role : r ≡ r' = role_known r r' rest.0 in
    let filler : f ≡ f' = filler_known f f' rest.1 in
    λ i. AtMostOne (left i) (role i) (filler i)
axiom_known (RoleUnder r q) (RoleUnder r' q') e =
    let parts = and_parts (role_eq r r') (role_eq q q') e in
    let lower : r ≡ r' = role_known r r' parts.0 in
    let upper : q ≡ q' = role_known q q' parts.1 in
    λ i. RoleUnder (lower i) (upper i)
axiom_known _ _ e = absurd (false≢true e)
