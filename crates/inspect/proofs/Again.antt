-- What writing a catalogue again says of its faults. Assumes nothing.
use Rattle.std.proofs.Common.{◌≡◌, ℕ, ◌≤◌, Bool, true, false, leb, List, length, Ok, Err, sym, refl, ap, ◌∙◌, arith}
use Rattle.std.proofs.lemmas.Bool.{cond-false, and_parts, and_from, le-leb}
use Rattle.catalogue.specs.Catalogues.{Bytes, catalogue_list}
use Rattle.catalogue.specs.CatalogueLists.{catalogue_few}
use Rattle.shelf.specs.Shelves.{Entry}
use Rattle.writer.specs.Writing.{catalogue_bytes, faultless, writable, write_answer}
use Rattle.writer.specs.declared.WriteRefusal.{WriteRefusal}
use Rattle.writer.proofs.Filling.{answer_ok}
use Rattle.writer.proofs.WrittenAgain.{written_again}

-- what is written has no fault
pub taken_faultless : (es : List Entry) (room n : ℕ) → Ok n ≡ write_answer es room → faultless es ≡ true
taken_faultless es room n h = go (writable es) refl
  where
    go : (b : Bool) → writable es ≡ b → faultless es ≡ true
    go true e = (and_parts (leb (length es) 512) (faultless es) e).1
    go false e = let none = h ∙ cond-false (writable es) _ _ e in let z : ◌≡◌ {A = ℕ} 0 1 = cc in absurd (omega arith)

-- what is refused for a buffer of its own length has one
pub refused_faulty : (bytes : List ℕ) (m : ℕ) (r : WriteRefusal) → Bytes bytes → Err r ≡ write_answer (catalogue_list bytes m) (length bytes) → false ≡ faultless (catalogue_list bytes m)
refused_faulty bytes m r small h = go (faultless (catalogue_list bytes m)) refl
  where
    es : List Entry
    es = catalogue_list bytes m

    go : (b : Bool) → faultless es ≡ b → false ≡ faultless es
    go false f = sym f
    go true f =
        let fits : length (catalogue_bytes es) ≤ length bytes = omega (arith, ap length (written_again bytes m small f)) in
        let none = h ∙ answer_ok es (length bytes) (and_from (leb (length es) 512) (faultless es) (le-leb (length es) 512 (catalogue_few bytes m)) f) fits in
        let z : ◌≡◌ {A = ℕ} 0 1 = cc in absurd (omega arith)
