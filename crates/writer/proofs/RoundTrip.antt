-- A written catalogue reads back as the list it was written from. Assumes nothing.
use Rattle.std.proofs.Common.{◌≡◌, ℕ, zero, suc, ◌+◌, ◌*◌, ◌/◌, ◌%◌, ◌<◌, ◌≤◌, true, List, [], ◌++◌, map, length, get_or, take, drop, Ok, Err, Result, sym, refl, ap, ◌∙◌, subst, ap₂, add-zero, add-one, arith}
use lib.ListN.{length-map}
use Rattle.std.specs.List.{range_with_len}
use Rattle.std.proofs.lemmas.List.FromFn.{fill_by_all}
use Rattle.std.proofs.lemmas.List.{get_or-append-add, take_at, drop_at}
use Rattle.std.proofs.lemmas.Bool.Decides.{nat_tests}
use Rattle.std.proofs.lemmas.Bool.{cond-true}
use Rattle.shelf.specs.Axioms.{Axiom, sound}
use Rattle.catalogue.specs.Bodies.{and_then, read_form, to_axiom}
use Rattle.catalogue.specs.Catalogues.{word_at, entries, readable, start_of, size_of, due_start, line_right, body_of, form_of, axiom_of, catalogue_list}
use Rattle.shelf.specs.Faults.{at_byte}
use Rattle.shelf.specs.Shelves.{Entry, placed, sound_entry, all_sound}
use Rattle.writer.specs.Writing.{body_bytes, entry_bytes, entry_bodies, laid_out, catalogue_bytes, faultless}
use Rattle.shelf.specs.declared.fault.ByteFault.{ByteFault}
use Rattle.shelf.specs.declared.fault.Cause.TheVariants.{Contents}
use Rattle.shelf.specs.declared.form.Form.{Form}
use Rattle.writer.proofs.BodyRead.{body_reads}
use Rattle.writer.proofs.Places.{sound_at, body_at, axiom_at}
use Rattle.writer.proofs.LaidOut.{line_front, line_part, line_rest, body_front, body_rest, offset, offset_next, offset_end, offset-within, length_laid, line_split, line_before, body_split, body_before}
use Rattle.writer.proofs.Members.{length_body}

-- a two-byte number behind a front of k bytes
word_behind : (all front rest : List ℕ) (k j : ℕ) → all ≡ front ++ rest → length front ≡ k → word_at all (k + j) ≡ word_at rest j
word_behind all front rest k j e h =
    ap₂ (λ (a b : ℕ). 256 * a + b) (at j) (ap (λ (n : ℕ). get_or all n 0) (omega arith) ∙ at (j + 1))
  where
    at : (i : ℕ) → get_or all (k + i) 0 ≡ get_or rest i 0
    at i = ap₂ (λ (xs : List ℕ) (n : ℕ). get_or xs (n + i) 0) e (sym h) ∙ get_or-append-add front rest i 0

two_back : (n : ℕ) → 256 * (n / 256) + n % 256 ≡ n
two_back n = omega arith

module _ (bs : List (List ℕ)) (few : length bs ≤ 512) (each : (i : ℕ) → i < length bs → (3 ≤ length (get_or bs i [])) × (length (get_or bs i []) ≤ 67)) where
  abbrev all : List ℕ
  all = laid_out bs

  pub entries_are : entries all ≡ length bs
  entries_are = two_back (length bs)

  pub is_readable : readable all ≡ true
  is_readable = let len = length_laid bs in let count = entries_are in let end = offset_end bs 0 in grind (arith, nat_tests)

  start_is : (i : ℕ) → i < length bs → start_of all i ≡ offset bs i
  start_is i h = ap (word_at all) (sym (add-zero (2 + 4 * i))) ∙ word_behind all (line_front bs i) (line_part bs i ++ line_rest bs i) (2 + 4 * i) 0 (line_split bs i h) (line_before bs i h) ∙ two_back (offset bs i)

  size_is : (i : ℕ) → i < length bs → size_of all i ≡ length (get_or bs i [])
  size_is i h = word_behind all (line_front bs i) (line_part bs i ++ line_rest bs i) (2 + 4 * i) 2 (line_split bs i h) (line_before bs i h) ∙ two_back (length (get_or bs i []))

  due_is : (i : ℕ) → i < length bs → due_start all i ≡ offset bs i
  due_is zero h = omega (arith, entries_are)
  due_is (suc i) h =
      let before : i < length bs = omega arith in
      ap₂ (λ (a b : ℕ). a + b) (start_is i before) (size_is i before) ∙ sym (offset_next bs i before) ∙ ap (offset bs) (add-one i)

  right_is : (i : ℕ) → i < length bs → line_right all i ≡ true
  right_is i h =
      let start = start_is i h in
      let size = size_is i h in
      let due = due_is i h in
      let long = each i h in
      let within = offset-within bs i h in
      let next = offset_next bs i h in
      let end = offset_end bs (i + 1) in
      let count = entries_are in
      grind (arith, nat_tests)

  body_is : (i : ℕ) → i < length bs → body_of all i ≡ get_or bs i []
  body_is i h =
      ap₂ (λ (n k : ℕ). take n (drop k all)) (size_is i h) (start_is i h)
      ∙ ap (λ (xs : List ℕ). take (length (get_or bs i [])) xs) (ap (drop (offset bs i)) (body_split bs i h) ∙ drop_at (body_front bs i) (get_or bs i [] ++ body_rest bs i) (offset bs i) (body_before bs i h))
      ∙ take_at (get_or bs i []) (body_rest bs i) (length (get_or bs i [])) refl

  -- each body is found where its line says
  pub form_is : (i : ℕ) → i < length bs → form_of all i ≡ read_form (start_of all i) (get_or bs i [])
  form_is i h = cond-true (line_right all i) _ _ (right_is i h) ∙ ap (read_form (start_of all i)) (body_is i h)

-- the list of bytes that can be read
pub list_is : (bytes : List ℕ) (m n : ℕ) → readable bytes ≡ true → entries bytes ≡ n → catalogue_list bytes m ≡ map (λ i. placed m (suc i) (axiom_of bytes i)) (range_with_len 0 n)
list_is bytes m n h e = cond-true (readable bytes) _ _ h ∙ ap (λ (k : ℕ). map (λ i. placed m (suc i) (axiom_of bytes i)) (range_with_len 0 k)) e

axiom_is : (bytes body : List ℕ) (i : ℕ) (a : Axiom) → form_of bytes i ≡ read_form (start_of bytes i) body → body ≡ body_bytes a → sound a ≡ true → axiom_of bytes i ≡ Ok a
axiom_is bytes body i a e b h = ap (λ (f : Result (Form (List ℕ)) ByteFault). and_then f (to_axiom (start_of bytes i))) (e ∙ ap (read_form (start_of bytes i)) b) ∙ body_reads (start_of bytes i) a h

-- a catalogue that is written from a list of axioms reads back as the same list
pub reads_back : (es : List Entry) (m : ℕ) → length es ≤ 512 → faultless es ≡ true → all_sound es ≡ true → catalogue_list (catalogue_bytes es) m ≡ es
reads_back es m few faults sounds =
    list_is (catalogue_bytes es) m (length es) (is_readable bs few_bodies each) (entries_are bs few_bodies each ∙ length-map es entry_bytes)
    ∙ sym (fill_by_all (λ i. placed m (suc i) (axiom_of (catalogue_bytes es) i)) es (length es) none refl same)
  where
    bs : List (List ℕ)
    bs = entry_bodies es

    none : Entry
    none = placed m 1 (Err (at_byte Contents 0))

    few_bodies : length bs ≤ 512
    few_bodies = omega (arith, length-map es entry_bytes)

    within : (i : ℕ) → i < length bs → i < length es
    within i h = omega (arith, length-map es entry_bytes)

    bytes_at : (i : ℕ) (h : i < length bs) → get_or bs i [] ≡ body_bytes (axiom_at es i none faults (within i h)).0
    bytes_at i h = body_at es i none (within i h) ∙ ap entry_bytes (axiom_at es i none faults (within i h)).1

    each : (i : ℕ) → i < length bs → (3 ≤ length (get_or bs i [])) × (length (get_or bs i []) ≤ 67)
    each i h = subst (λ (xs : List ℕ). (3 ≤ length xs) × (length xs ≤ 67)) (sym (bytes_at i h)) (length_body (axiom_at es i none faults (within i h)).0)

    same : (i : ℕ) → i < length es → get_or es i none ≡ placed m (suc i) (axiom_of (catalogue_bytes es) i)
    same i h =
        let h' : i < length bs = omega (arith, length-map es entry_bytes) in
        let a = axiom_at es i none faults (within i h') in
        a.1 ∙ sym (ap (placed m (suc i)) (axiom_is (catalogue_bytes es) (get_or bs i []) i a.0 (form_is bs few_bodies each i h') (bytes_at i h') (ap sound_entry (sym a.1) ∙ sound_at es i none sounds (within i h'))))
