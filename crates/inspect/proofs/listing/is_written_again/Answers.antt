use Rattle.std.proofs.Common.{ap₂, ◌≡◌, length, take, sym, ◌∙◌, arith}
use Rattle.std.proofs.lemmas.Slice.Eq.{slice_eq-Decides}
use Rattle.std.proofs.lemmas.Bool.Decides.{Decides-eqb}
use Rattle.catalogue.specs.Catalogues.{catalogue_list, Bytes}
use Rattle.inspect.proofs.Again.{taken_faultless, refused_faulty}
use Rattle.inspect.proofs.listing.is_written_again.Goals as goal
use Rattle.inspect.proofs.listing.is_written_again.Goals.{in-Ok, in-Err}

pub returns : goal.returns
returns c =
    let bytes = c.args.bytes.now in
    let small : Bytes bytes = λ k. let fits = c.type_inv.bytes k in omega arith in
    let made_of = ap₂ catalogue_list c.new.ensures.bytes c.new.ensures.mark in
    let room : length c.as_mut_slice-buffer.result.now ≡ length bytes = omega (arith, c.as_mut_slice-buffer.ensures.len, c.in_ok-room.ensures.len) in
    let answer = rw (made_of, room) at c.write.ensures.value in
    elim c.match-write.branch [
      | in-Ok w ↦
          w.again-is ∙ (slice_eq-Decides Decides-eqb (take w.in-Ok.len c.write.new.buffer) bytes w.eq-again.result w.eq-again.ensures).1 (w.in-Ok.ensures.again bytes 0 small (sym made_of))
          ∙ sym (taken_faultless (catalogue_list bytes 0) (length bytes) w.in-Ok.len (sym w.in-Ok.is ∙ answer))
      | in-Err w ↦ w.again-is ∙ refused_faulty bytes 0 w.in-Err.field-0 small (sym w.in-Err.is ∙ answer)
    ]
