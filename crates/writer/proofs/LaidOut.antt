-- Where the parts of a written catalogue stand. Assumes nothing.
use Rattle.std.proofs.Common.{◌≡◌, ℕ, ◌+◌, ◌*◌, ◌<◌, ◌≤◌, List, [], ◌∷◌, ◌++◌, length, get_or, take, drop, sym, refl, ap, ◌∙◌, append_assoc, add-zero, arith, length-append}
use Rattle.std.proofs.lemmas.List.{take-append-drop, take_more, drop_more, take_all, length-take-le}
use Rattle.std.specs.List.{concat}
use Rattle.std.proofs.lemmas.List.Folds.{concat-append}
use Rattle.writer.specs.Writing.{two_bytes, lines_from, laid_out}

-- a contents line has 4 bytes
pub length_lines : (at : ℕ) (bs : List (List ℕ)) → length (lines_from at bs) ≡ 4 * length bs
length_lines at [] = refl
length_lines at (b ∷ bs) = omega (arith, length_lines (at + length b) bs)

-- the count, the contents and the bodies
pub length_laid : (bs : List (List ℕ)) → length (laid_out bs) ≡ 2 + (4 * length bs + length (concat bs))
length_laid bs = omega (arith, length-append (lines_from (2 + 4 * length bs) bs) (concat bs), length_lines (2 + 4 * length bs) bs)

-- the contents lines of two lists of bodies
lines_append : (at : ℕ) (xs ys : List (List ℕ)) → lines_from at (xs ++ ys) ≡ lines_from at xs ++ lines_from (at + length (concat xs)) ys
lines_append at [] ys = ap (λ (n : ℕ). lines_from n ys) (sym (add-zero at))
lines_append at (x ∷ xs) ys =
    let later = lines_append (at + length x) xs ys in
    let place : at + length x + length (concat xs) ≡ at + length (x ++ concat xs) = omega (arith, length-append x (concat xs)) in
    cc

-- the byte where the body i starts
abbrev pub offset : List (List ℕ) → ℕ → ℕ
offset bs i = 2 + 4 * length bs + length (concat (take i bs))

-- what stands before the contents line i, the line, and what stands behind it
abbrev pub line_front : List (List ℕ) → ℕ → List ℕ
line_front bs i = two_bytes (length bs) ++ lines_from (2 + 4 * length bs) (take i bs)

abbrev pub line_part : List (List ℕ) → ℕ → List ℕ
line_part bs i = two_bytes (offset bs i) ++ two_bytes (length (get_or bs i []))

abbrev pub line_rest : List (List ℕ) → ℕ → List ℕ
line_rest bs i = lines_from (offset bs i + length (get_or bs i [])) (drop (i + 1) bs) ++ concat bs

-- what stands before the body i, and behind it
abbrev pub body_front : List (List ℕ) → ℕ → List ℕ
body_front bs i = two_bytes (length bs) ++ (lines_from (2 + 4 * length bs) bs ++ concat (take i bs))

abbrev pub body_rest : List (List ℕ) → ℕ → List ℕ
body_rest bs i = concat (drop (i + 1) bs)

module _ (bs : List (List ℕ)) (i : ℕ) (h : i < length bs) where
  -- the bodies before one, it, and those behind it
  split : bs ≡ take i bs ++ (get_or bs i [] ∷ drop (i + 1) bs)
  split = sym (take-append-drop i bs) ∙ ap (λ (zs : List (List ℕ)). take i bs ++ zs) (drop_more bs i [] h)

  -- the offset of the next body
  pub offset_next : offset bs (i + 1) ≡ offset bs i + length (get_or bs i [])
  offset_next = rw (take_more bs i [] h, concat-append (take i bs) (get_or bs i [] ∷ [])) (omega (arith, length-append {A = ℕ}))

  -- the catalogue before a contents line, and from it on
  pub line_split : laid_out bs ≡ line_front bs i ++ (line_part bs i ++ line_rest bs i)
  line_split =
      ap (λ (zs : List ℕ). two_bytes (length bs) ++ (zs ++ concat bs))
      (ap (lines_from (2 + 4 * length bs)) split ∙ lines_append (2 + 4 * length bs) (take i bs) (get_or bs i [] ∷ drop (i + 1) bs))
      ∙ simp append_assoc

  -- the catalogue before a body, and from it on
  pub body_split : laid_out bs ≡ body_front bs i ++ (get_or bs i [] ++ body_rest bs i)
  body_split =
      ap (λ (zs : List ℕ). two_bytes (length bs) ++ (lines_from (2 + 4 * length bs) bs ++ zs))
      (ap concat split ∙ concat-append (take i bs) (get_or bs i [] ∷ drop (i + 1) bs))
      ∙ simp append_assoc

  -- where a contents line and a body stand
  pub line_before : length (line_front bs i) ≡ 2 + 4 * i
  line_before = omega (arith, length_lines (2 + 4 * length bs) (take i bs), length-take-le i bs (omega arith))

  pub body_before : length (body_front bs i) ≡ offset bs i
  body_before = omega (arith, length_lines (2 + 4 * length bs) bs, length-append (lines_from (2 + 4 * length bs) bs) (concat (take i bs)))

-- the last offset is the length of the catalogue
pub offset_end : (bs : List (List ℕ)) (i : ℕ) → length bs ≤ i → offset bs i ≡ length (laid_out bs)
offset_end bs i h = ap (λ (xs : List (List ℕ)). 2 + 4 * length bs + length (concat xs)) (take_all i bs h) ∙ omega (arith, length_laid bs)

-- a body ends within the catalogue
pub offset-within : (bs : List (List ℕ)) (i : ℕ) (h : i < length bs) → offset bs i + length (get_or bs i []) ≤ length (laid_out bs)
offset-within bs i h = omega (arith, body_before bs i h, ap length (body_split bs i h), length-append (body_front bs i) (get_or bs i [] ++ body_rest bs i), length-append (get_or bs i []) (body_rest bs i))
