-- What a shelf and a buffer answer. Assumes nothing.
use Rattle.std.proofs.Common.{◌≡◌, ℕ, ◌/◌, ◌%◌, ◌≤◌, true, List, ◌∷◌, length, drop, Ok, ap, ◌∙◌, arith}
use lib.ListN.{length-map}
use Rattle.std.proofs.lemmas.Bool.Decides.{nat_tests}
use Rattle.shelf.specs.Shelves.{Entry}
use Rattle.writer.specs.Writing.{filled, entry_bytes, catalogue_bytes, writable, write_answer}

-- a list that can be written, into a buffer that is long enough
pub answer_ok : (es : List Entry) (room : ℕ) → writable es ≡ true → length (catalogue_bytes es) ≤ room → write_answer es room ≡ Ok (length (catalogue_bytes es))
answer_ok es room h l = grind (arith, nat_tests)

-- the count is the first part of what a buffer is filled with
pub count_filled : (es : List Entry) (old new : List ℕ) (count : ℕ) → count ≡ length es → new ≡ count / 256 ∷ count % 256 ∷ drop 2 old → new ≡ filled (catalogue_bytes es) old 2
count_filled es old new count e h = h ∙ ap (λ (n : ℕ). n / 256 ∷ n % 256 ∷ drop 2 old) (omega (arith, e, length-map es entry_bytes))
