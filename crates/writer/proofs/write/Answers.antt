use Rattle.std.proofs.Common.{◌≡◌, ℕ, List, ◌++◌, length, take, sym, ap, ◌∙◌, arith}
use Rattle.std.proofs.lemmas.List.{take_at}
use Rattle.catalogue.specs.Catalogues.{catalogue_list}
use Rattle.writer.specs.Writing.{catalogue_bytes, faultless}
use Rattle.writer.proofs.RoundTrip.{reads_back}
use Rattle.writer.proofs.WrittenAgain.{written_again}
use Rattle.writer.proofs.write.Goals as goal

-- what stands at the front of the buffer
front : (all put rest : List ℕ) (n : ℕ) → put ≡ all → n ≡ length all → take n (put ++ rest) ≡ all
front all put rest n e h = take_at put rest n (ap length e ∙ sym h) ∙ e

pub returns-clause-back : goal.returns-clause-back
returns-clause-back g c = λ m.
    let es = g.S.Shelf.list c.args.shelf.now in
    ap (λ (bs : List ℕ). catalogue_list bs m) (front (catalogue_bytes es) _ _ _ c.lay_out.ensures c.catalogue_length-len.ensures)
    ∙ reads_back es m (omega arith) (sym c.is_faultless.ensures ∙ c.if-not-is_faultless.false) (g.S.Shelf.sound c.args.shelf.now)

pub returns-clause-again : goal.returns-clause-again
returns-clause-again g c = λ bytes m small same.
    let es = g.S.Shelf.list c.args.shelf.now in
    front (catalogue_bytes es) _ _ _ c.lay_out.ensures c.catalogue_length-len.ensures
    ∙ ap catalogue_bytes (sym same) ∙ written_again bytes m small (ap faultless same ∙ (sym c.is_faultless.ensures ∙ c.if-not-is_faultless.false))
