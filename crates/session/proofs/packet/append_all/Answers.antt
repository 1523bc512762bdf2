use Rattle.std.proofs.Common.{◌≡◌, ◌+◌, List, ◌∷◌, ◌++◌, length, drop, sym, ap, ◌∙◌, arith}
use Rattle.shelf.specs.Axioms.{Axiom}
use Rattle.shelf.specs.Shelves.{Entry}
use Rattle.shelf.specs.EntryLists.{entries_next}
use Rattle.session.specs.Taking.{axioms_of}
use Rattle.session.proofs.Packets.{axioms_next, entry_longer}
use Rattle.session.proofs.packet.append_all.Goals as goal

pub loop-i-preserved : goal.loop-i-preserved
loop-i-preserved g c =
    let es = g.S.Shelf.list c.args.shelf.now in
    let i = c.loop-i.i in
    let e = c.entry.result in
    let old = c.loop-i.table.rows in
    let next : drop i es ≡ e ∷ drop (i + 1) es =
    entries_next es (g.S.Shelf.mark c.args.shelf.now) i (omega (arith, c.loop-i-test.true, c.count-i-end.ensures)) ∙ ap (λ (x : Entry). x ∷ drop (i + 1) es) (sym c.entry.ensures) in (
      ap (λ (xs : List Axiom). xs ++ axioms_of (drop (i + 1) es)) c.append_entry.ensures.rows ∙ axioms_next old e (drop i es) (drop (i + 1) es) next ∙ c.loop-i.invariant.0,
      omega (arith, ap length c.append_entry.ensures.rows, entry_longer old e, c.append_entry.ensures.room, ap length next, c.loop-i.invariant.1),
      c.append_entry.ensures.room ∙ c.loop-i.invariant.2,
    )
