-- The list of a catalogue: its length, and that its axioms are well formed. Assumes nothing.
use Rattle.std.specs.Prelude.{◌≡◌, ℕ, zero, suc, ◌+◌, ◌*◌, ◌≤◌, Bool, true, cond, List, ◌∷◌, map, length, slice_index, Some, None, Ok, Err, Option, Result, ◌==◌, refl}
use Rattle.std.proofs.Common.{arith}
use Rattle.std.specs.List.{range_with_len}
use Rattle.std.proofs.lemmas.List.FromFn.{length-map-range_with_len}
use Rattle.std.proofs.lemmas.Bool.{and_from, cond_both}
use Rattle.std.proofs.lemmas.Bool.Decides.{nat_tests}
use Rattle.std.specs.Option.{ok_or}
use Rattle.numbers.specs.Roles.{is_role}
use Rattle.numbers.specs.Terms.{is_term}
use Rattle.numbers.specs.declared.role.DirectedRole.{DirectedRole}
use Rattle.numbers.specs.declared.term.Term.{Term}
use Rattle.numbers.specs.declared.term_set.TermSet.{TermSet}
use Rattle.shelf.specs.Axioms.{Axiom, sound, is_filler}
use Rattle.catalogue.specs.Bodies.{and_then, role_of, term_of, filler_of, read_fields, read_form, to_axiom}
use Rattle.shelf.specs.declared.form.Form.{Form}
use Rattle.catalogue.specs.Catalogues.{catalogue_list, readable, entries, line_right, start_of, body_of, form_of, axiom_of}
use Rattle.shelf.specs.Shelves.{placed, all_sound, sound_entry}
use Rattle.shelf.specs.declared.fault.ByteFault.{ByteFault}

-- what can be read has at most 512 entries, and its contents are whole
pub readable-count : (bs : List ℕ) → readable bs ≡ true → entries bs ≤ 512
readable-count bs h = grind (arith, nat_tests)

pub readable_whole : (bs : List ℕ) → readable bs ≡ true → 2 + 4 * entries bs ≤ length bs
readable_whole bs h = grind (arith, nat_tests)

-- an empty catalogue ends after its count
pub readable-empty : (bs : List ℕ) → readable bs ≡ true → entries bs ≡ 0 → length bs ≡ 2
readable-empty bs h e = grind (arith, nat_tests)

-- a catalogue has at most 512 entries
pub catalogue_few : (bs : List ℕ) (m : ℕ) → length (catalogue_list bs m) ≤ 512
catalogue_few bs m = grind (arith, readable-count, length-map-range_with_len (λ i. placed m (suc i) (axiom_of bs i)) 0 (entries bs))

pub catalogue_short : (bs : List ℕ) (m : ℕ) → length (catalogue_list bs m) ≤ 65535
catalogue_short bs m = omega (arith, catalogue_few bs m)

-- what is read is well formed
abbrev sound_read : {L : Type 0} → Result (Form L) ByteFault → Bool
sound_read (Ok f) = sound f
sound_read (Err e) = true

sound_cond : (b : Bool) (x y : Result (Form (List ℕ)) ByteFault) → sound_read x ≡ true → sound_read y ≡ true → sound_read (cond b x y) ≡ true
sound_cond b x y p q = cond_both b x y (λ r. sound_read r ≡ true) (λ _. p) (λ _. q)

-- the form of a body, by its kind: the roles and terms are those that a field may have
read_sound : (at : ℕ) (body : List ℕ) → sound_read (read_form at body) ≡ true
read_sound at body =
    let k = slice_index body 0 in
    sound_cond (k == 1) _ _ (grind (arith, nat_tests))
    (sound_cond (k == 2) _ _ (grind (arith, nat_tests))
    (sound_cond (k == 3) _ _ (grind (arith, nat_tests))
    (sound_cond (k == 4) _ _ (grind (arith, nat_tests))
    (sound_cond (k == 5) _ _ (grind (arith, nat_tests))
    (sound_cond (k == 6) _ _ (grind (arith, nat_tests)) refl)))))

-- a byte that is read as a role, a term or a filler gives one that may stand there
role_sound : (b : ℕ) (r : DirectedRole) → role_of b ≡ Some r → is_role r ≡ true
role_sound b r e = grind (arith, nat_tests)

term_sound : (b : ℕ) (t : Term) → term_of b ≡ Some t → is_term t ≡ true
term_sound b t e = grind (arith, nat_tests)

filler_sound : (b : ℕ) (x : Option Term) → filler_of b ≡ Some x → is_filler x ≡ true
filler_sound b x e = grind (arith, nat_tests)

-- what goes on from a field that may have no value, or from a left list that may be faulty
through : {X L : Type 0} (o : Option X) (e : ByteFault) (g : X → Result (Form L) ByteFault) → ((x : X) → o ≡ Some x → sound_read (g x) ≡ true) → sound_read (and_then (ok_or o e) g) ≡ true
through None e g h = refl
through (Some x) e g h = h x refl

ok : (r : Result TermSet ByteFault) (g : TermSet → Result Axiom ByteFault) → ((s : TermSet) → sound_read (g s) ≡ true) → sound_read (and_then r g) ≡ true
ok (Ok s) g h = h s
ok (Err e) g h = refl

-- the form of a kind byte, two fields and a left list
fields_sound : (at k f s : ℕ) (l : List ℕ) → sound_read (read_fields at k f s l) ≡ true
fields_sound at k f s l = read_sound at (k ∷ f ∷ s ∷ l)

form_sound : (bs : List ℕ) (i : ℕ) → sound_read (form_of bs i) ≡ true
form_sound bs i = sound_cond (line_right bs i) _ _ (read_sound (start_of bs i) (body_of bs i)) refl

-- the axiom of a form keeps its roles and terms
axiom_keeps : (at : ℕ) (r : Result (Form (List ℕ)) ByteFault) → sound_read r ≡ true → sound_read (and_then r (to_axiom at)) ≡ true
axiom_keeps at r h = grind arith

stated_sound : (bs : List ℕ) (i : ℕ) → sound_read (axiom_of bs i) ≡ true
stated_sound bs i = axiom_keeps (start_of bs i) (form_of bs i) (form_sound bs i)

placed_sound : (m p : ℕ) (r : Result Axiom ByteFault) → sound_read r ≡ true → sound_entry (placed m p r) ≡ true
placed_sound m p r h = grind arith

axiom_sound : (bs : List ℕ) (m i : ℕ) → sound_entry (placed m (suc i) (axiom_of bs i)) ≡ true
axiom_sound bs m i = placed_sound m (suc i) (axiom_of bs i) (stated_sound bs i)

all_counted : (bs : List ℕ) (m a n : ℕ) → all_sound (map (λ i. placed m (suc i) (axiom_of bs i)) (range_with_len a n)) ≡ true
all_counted bs m a zero = refl
all_counted bs m a (suc n) = and_from _ _ (axiom_sound bs m a) (all_counted bs m (a + 1) n)

pub catalogue_sound : (bs : List ℕ) (m : ℕ) → all_sound (catalogue_list bs m) ≡ true
catalogue_sound bs m = cond_both (readable bs) _ _ (λ es. all_sound es ≡ true) (λ _. all_counted bs m 0 (entries bs)) (λ _. refl)
