-- The bytes of a faultless catalogue are written again the same. Assumes nothing.
use Rattle.std.proofs.Common.{◌≡◌, ℕ, zero, suc, ◌+◌, ◌*◌, ◌<◌, ◌≤◌, true, ◌⊎◌, List, [], ◌∷◌, ◌++◌, map, length, get_or, drop, Ok, Result, sym, refl, ap, ◌∙◌, ap₂, ⊎_elim, arith, length-drop, drop-cons}
use lib.ListN.{length-map}
use Rattle.std.specs.List.{range_with_len}
use Rattle.std.proofs.lemmas.List.FromFn.{length-map-range_with_len, get_or-map-range_with_len}
use Rattle.std.proofs.lemmas.List.{take-append-drop, drop-drop, drop_more, drop_all, length-take-le}
use Rattle.std.proofs.lemmas.Bool.Decides.{nat_tests}
use Rattle.shelf.specs.Axioms.{Axiom}
use Rattle.catalogue.specs.Bodies.{and_then, read_form, to_axiom}
use Rattle.catalogue.specs.Catalogues.{Bytes, word_at, entries, readable, start_of, size_of, due_start, line_right, body_of, axiom_of, catalogue_list}
use Rattle.shelf.specs.Shelves.{Entry, placed}
use Rattle.std.specs.List.{concat}
use Rattle.writer.specs.Writing.{two_bytes, body_bytes, entry_bytes, entry_bodies, lines_from, laid_out, catalogue_bytes, faultless}
use Rattle.shelf.specs.declared.fault.ByteFault.{ByteFault}
use Rattle.catalogue.specs.CatalogueLists.{readable_whole, readable-empty}
use Rattle.writer.proofs.BodyRead.{body_writes}
use Rattle.writer.proofs.Places.{body_at, axiom_at}
use Rattle.writer.proofs.RoundTrip.{list_is}

-- what a contents line that is right says
pub record Right (bs : List ℕ) (i : ℕ) : Type 0 where
  pub start : start_of bs i ≡ due_start bs i
  pub least : 3 ≤ size_of bs i
  pub most : size_of bs i ≤ 67
  pub ends : start_of bs i + size_of bs i ≤ length bs
  pub last : (i + 1 < entries bs) ⊎ (start_of bs i + size_of bs i ≡ length bs)

right_parts : (bs : List ℕ) (i : ℕ) → line_right bs i ≡ true → Right bs i
right_parts bs i h = record {
  start = grind (arith, nat_tests);
  least = grind (arith, nat_tests);
  most = grind (arith, nat_tests);
  ends = grind (arith, nat_tests);
  last = grind (arith, nat_tests);
}

two_again : (a b : ℕ) → b < 256 → two_bytes (256 * a + b) ≡ a ∷ b ∷ []
two_again a b h = ap₂ (λ (x y : ℕ). x ∷ y ∷ []) (omega arith) (omega arith)

module _ (bytes : List ℕ) (small : Bytes bytes) where
  -- two bytes are the two-byte number that they hold
  two_drop : (k : ℕ) → k + 2 ≤ length bytes → drop k bytes ≡ two_bytes (word_at bytes k) ++ drop (k + 2) bytes
  two_drop k h =
      let first = drop_more bytes k 0 (omega arith) in
      let second = drop_more bytes (k + 1) 0 (omega arith) in
      let two = two_again (get_or bytes k 0) (get_or bytes (k + 1) 0) (small (k + 1)) in
      rw (first, second) (ap₂ (λ (xs ys : List ℕ). xs ++ ys) (sym two) (ap (λ (n : ℕ). drop n bytes) (omega arith)))

  module _ (read : readable bytes ≡ true) (bs : List (List ℕ)) (counted : length bs ≡ entries bytes) (right : (i : ℕ) → i < entries bytes → Right bytes i) (body : (i : ℕ) → i < entries bytes → get_or bs i [] ≡ body_of bytes i) where
    size_is : (i : ℕ) → i < entries bytes → length (get_or bs i []) ≡ size_of bytes i
    size_is i h = ap length (body i h) ∙ length-take-le (size_of bytes i) (drop (start_of bytes i) bytes) (omega (arith, length-drop (start_of bytes i) bytes, (right i h).ends))

    -- the last body ends with the bytes
    end_is : (i : ℕ) → i ≡ entries bytes → length bytes ≤ due_start bytes i
    end_is zero e = omega (arith, readable-empty bytes read (sym e))
    end_is (suc k) e =
        let r = right k (omega arith) in
        ⊎_elim (λ (l : k + 1 < entries bytes). absurd (omega arith)) (λ (l : start_of bytes k + size_of bytes k ≡ length bytes). omega arith) r.last

    -- the lines and the bodies from the entry i on
    from : (j i : ℕ) → i + j ≡ entries bytes → (lines_from (due_start bytes i) (drop i bs) ++ drop (2 + 4 * entries bytes) bytes ≡ drop (2 + 4 * i) bytes) × (concat (drop i bs) ≡ drop (due_start bytes i) bytes)
    from zero i e =
        let here : i ≡ entries bytes = omega arith in
        let done : drop i bs ≡ [] = drop_all i bs (omega arith) in (
          ap (λ (xs : List (List ℕ)). lines_from (due_start bytes i) xs ++ drop (2 + 4 * entries bytes) bytes) done ∙ ap (λ (n : ℕ). drop (2 + 4 * n) bytes) (sym here),
          ap concat done ∙ sym (drop_all (due_start bytes i) bytes (end_is i here)),
        )
    from (suc j) i e =
        let h : i < entries bytes = omega arith in
        let r = right i h in
        let later = from j (suc i) (omega arith) in
        let split = drop-cons bs i [] (omega arith) in
        let size = size_is i h in
        let is_body = body i h in
        let whole = readable_whole bytes read in
        let line = two_drop (2 + 4 * i) (omega arith) in
        let rest = two_drop (2 + 4 * i + 2) (omega arith) in
        let ends = take-append-drop (size_of bytes i) (drop (start_of bytes i) bytes) in
        let next = drop-drop (size_of bytes i) (start_of bytes i) bytes in
        let four : 2 + 4 * suc i ≡ 2 + 4 * i + 2 + 2 = omega arith in
        (grind (arith, r.start), grind (arith, r.start))

    pub laid_again : laid_out bs ≡ bytes
    laid_again =
        let all = from (entries bytes) 0 (omega arith) in
        let whole = readable_whole bytes read in
        ap₂ (λ (n : ℕ) (xs : List ℕ). two_bytes n ++ (lines_from (2 + 4 * n) bs ++ xs)) counted all.1
        ∙ ap (λ (xs : List ℕ). two_bytes (entries bytes) ++ xs) all.0
        ∙ sym (two_drop 0 (omega arith))

-- a shelf's place of a catalogue holds what was read there
placed_ok : (m p : ℕ) (r : Result Axiom ByteFault) (a : Axiom) → placed m p r ≡ Ok a → r ≡ Ok a
placed_ok m p r a h = grind arith

-- a list of three bytes or more, byte by byte
three : (xs : List ℕ) → 3 ≤ length xs → xs ≡ get_or xs 0 0 ∷ get_or xs 1 0 ∷ get_or xs 2 0 ∷ drop 3 xs
three [] h = absurd (omega arith)
three (a ∷ []) h = absurd (omega arith)
three (a ∷ b ∷ []) h = absurd (omega arith)
three (a ∷ b ∷ c ∷ xs) h = refl

-- an entry that is an axiom has a line that is right, and its body reads as that axiom
right_reads : (bytes : List ℕ) (i : ℕ) (a : Axiom) → axiom_of bytes i ≡ Ok a → (line_right bytes i ≡ true) × (and_then (read_form (start_of bytes i) (body_of bytes i)) (to_axiom (start_of bytes i)) ≡ Ok a)
right_reads bytes i a h = grind arith

-- an entry that is an axiom has a line that is right, and its body is that axiom's
entry_right : (bytes : List ℕ) (i : ℕ) (a : Axiom) → axiom_of bytes i ≡ Ok a → Right bytes i × (body_bytes a ≡ body_of bytes i)
entry_right bytes i a h =
    let read = right_reads bytes i a h in
    let r = right_parts bytes i read.0 in
    let body = body_of bytes i in
    let long : 3 ≤ length body = omega (arith, length-take-le (size_of bytes i) (drop (start_of bytes i) bytes) (omega (arith, length-drop (start_of bytes i) bytes, r.ends)), r.least) in
    (r, body_writes (start_of bytes i) (get_or body 0 0) (get_or body 1 0) (get_or body 2 0) (drop 3 body) a read.1 ∙ sym (three body long))

-- a catalogue with a faulty count or contents is no faultless list
faultless-readable : (bytes : List ℕ) (m : ℕ) → faultless (catalogue_list bytes m) ≡ true → readable bytes ≡ true
faultless-readable bytes m f = grind arith

-- the bytes of a faultless catalogue are written again the same
pub written_again : (bytes : List ℕ) (m : ℕ) → Bytes bytes → faultless (catalogue_list bytes m) ≡ true → catalogue_bytes (catalogue_list bytes m) ≡ bytes
written_again bytes m small f = laid_again bytes small read (entry_bodies es) (length-map es entry_bytes ∙ counted) (λ i h. (here i h).0) (λ i h. (here i h).1)
  where
    es : List Entry
    es = catalogue_list bytes m

    stated : ℕ → Entry
    stated i = placed m (suc i) (axiom_of bytes i)

    none : Entry
    none = stated 0

    read : readable bytes ≡ true
    read = faultless-readable bytes m f

    listed : es ≡ map stated (range_with_len 0 (entries bytes))
    listed = list_is bytes m (entries bytes) read refl

    counted : length es ≡ entries bytes
    counted = ap length listed ∙ length-map-range_with_len stated 0 (entries bytes)

    here : (i : ℕ) → i < entries bytes → Right bytes i × (get_or (entry_bodies es) i [] ≡ body_of bytes i)
    here i h =
        let within : i < length es = omega (arith, counted) in
        let a = axiom_at es i none f within in
        let said : stated i ≡ Ok a.0 = sym (ap (λ (xs : List Entry). get_or xs i none) listed ∙ get_or-map-range_with_len stated 0 (entries bytes) i i none h (omega arith)) ∙ a.1 in
        let e = entry_right bytes i a.0 (placed_ok m (suc i) (axiom_of bytes i) a.0 said) in
        (e.0, body_at es i none within ∙ ap entry_bytes a.1 ∙ e.1)
