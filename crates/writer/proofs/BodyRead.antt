-- The body of an axiom reads back as the axiom, and a body that reads as an axiom is written again. Assumes nothing.
use Rattle.std.proofs.Common.{◌≡◌, ℕ, true, ◌&&◌, eqb, List, ◌∷◌, Some, Ok, Err, Option, Result, ◌∙◌, arith}
use Rattle.std.proofs.lemmas.List.{nil_from_length}
use Rattle.std.proofs.lemmas.Bool.Decides.{nat_tests}
use Rattle.std.proofs.lemmas.Bool.{cond_both, and_parts}
use Rattle.numbers.specs.Roles.{is_role}
use Rattle.numbers.specs.Terms.{is_term}
use Rattle.numbers.specs.declared.role.DirectedRole.{DirectedRole}
use Rattle.numbers.specs.declared.term.Term.{Term}
use Rattle.shelf.specs.Axioms.{Axiom, sound, is_filler}
use Rattle.shelf.specs.Forms.{filler_number}
use Rattle.catalogue.specs.Bodies.{and_then, role_of, term_of, filler_of, zero_of, read_fields, read_form, to_axiom}
use Rattle.writer.specs.Writing.{role_byte, form_bytes, body_bytes}
use Rattle.shelf.specs.declared.fault.ByteFault.{ByteFault}
use Rattle.shelf.specs.declared.form.Form.{Form}
use Rattle.shelf.specs.declared.form.Form.TheVariants.{Under, Nothing, Exists, Only, AtMostOne, RoleUnder}
use Rattle.writer.proofs.LeftRead.{left_reads, left_writes}

-- ---- reading what was written

-- a role, a term and a filler read as what was written
role_reads : (r : DirectedRole) → is_role r ≡ true → role_of (role_byte r) ≡ Some r
role_reads r h = grind (arith, nat_tests)

term_reads : (t : Term) → is_term t ≡ true → term_of t.0 ≡ Some t
term_reads t h = grind (arith, nat_tests)

filler_reads : (x : Option Term) → is_filler x ≡ true → filler_of (filler_number x) ≡ Some x
filler_reads x h = grind (arith, nat_tests)

-- the body of an axiom reads as the axiom
pub body_reads : (at : ℕ) (a : Axiom) → sound a ≡ true → and_then (read_form at (body_bytes a)) (to_axiom at) ≡ Ok a
body_reads at (Under l t) h = simp (term_reads t h, left_reads)
body_reads at (Nothing l) h = simp left_reads
body_reads at (Exists l r x) h = let p = and_parts (is_role r) (is_filler x) h in simp (role_reads r p.0, filler_reads x p.1, left_reads)
body_reads at (Only l r t) h = let p = and_parts (is_role r) (is_term t) h in simp (role_reads r p.0, term_reads t p.1, left_reads)
body_reads at (AtMostOne l r x) h = let p = and_parts (is_role r) (is_filler x) h in simp (role_reads r p.0, filler_reads x p.1, left_reads)
body_reads at (RoleUnder r q) h = let p = and_parts (is_role r) (is_role q) (and_parts (is_role r && is_role q) true h).0 in simp (role_reads r p.0, role_reads q p.1)

-- ---- writing what was read

-- a byte that reads as a role, a term, a filler or the 0 of no field is that of it
role_writes : (b : ℕ) (r : DirectedRole) → role_of b ≡ Some r → role_byte r ≡ b
role_writes b r e = grind (arith, nat_tests)

term_writes : (b : ℕ) (t : Term) → term_of b ≡ Some t → t.0 ≡ b
term_writes b t e = grind (arith, nat_tests)

filler_writes : (b : ℕ) (x : Option Term) → filler_of b ≡ Some x → filler_number x ≡ b
filler_writes b x e = grind (arith, nat_tests)

zero_writes : (b : ℕ) (u : Unit {0}) → zero_of b ≡ Some u → 0 ≡ b
zero_writes b u e = grind (arith, nat_tests)

-- a form that reads as an axiom has the bytes of its body
axiom_writes : (at : ℕ) (f : Form (List ℕ)) (a : Axiom) → to_axiom at f ≡ Ok a → body_bytes a ≡ form_bytes (λ l. l) f
axiom_writes at f a h = grind (arith, left_writes)

-- what was read of these bytes, if it is a form, has them
abbrev Writes : ℕ → ℕ → ℕ → List ℕ → Result (Form (List ℕ)) ByteFault → Type 0
Writes k f s l (Ok g) = form_bytes (λ l. l) g ≡ k ∷ f ∷ s ∷ l
Writes k f s l (Err e) = Unit {0}

-- the six kinds
fields_write : (at k f s : ℕ) (l : List ℕ) → Writes k f s l (read_fields at k f s l)
fields_write at k f s l =
    cond_both (eqb k 1) _ _ (Writes k f s l) (λ e. grind (arith, nat_tests)) (λ _.
    cond_both (eqb k 2) _ _ (Writes k f s l) (λ e. grind (arith, nat_tests)) (λ _.
    cond_both (eqb k 3) _ _ (Writes k f s l) (λ e. grind (arith, nat_tests)) (λ _.
    cond_both (eqb k 4) _ _ (Writes k f s l) (λ e. grind (arith, nat_tests)) (λ _.
    cond_both (eqb k 5) _ _ (Writes k f s l) (λ e. grind (arith, nat_tests)) (λ _.
    cond_both (eqb k 6) _ _ (Writes k f s l) (λ e. grind (arith, nat_tests, nil_from_length l)) (λ _. tt))))))

-- a body that reads as an axiom is that axiom's
pub body_writes : (at k f s : ℕ) (l : List ℕ) (a : Axiom) → and_then (read_fields at k f s l) (to_axiom at) ≡ Ok a → body_bytes a ≡ k ∷ f ∷ s ∷ l
body_writes at k f s l a h = go (read_fields at k f s l) (fields_write at k f s l) h
  where
    go : (r : Result (Form (List ℕ)) ByteFault) → Writes k f s l r → and_then r (to_axiom at) ≡ Ok a → body_bytes a ≡ k ∷ f ∷ s ∷ l
    go (Ok g) e h = axiom_writes at g a h ∙ e
    go (Err e) d h = cc
