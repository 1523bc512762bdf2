use Rattle.std.proofs.Common.{◌≡◌, ◌+◌, drop}
use Rattle.session.specs.Taking.{terms_to, entries_refusal}
use Rattle.session.proofs.packet.check.Given as goal

-- what is left decides
abbrev pub invariant-loop-i : goal.invariant-loop-i
invariant-loop-i g l =
    let es = g.S.Shelf.list l.shelf in
    let v = l.vocabulary in
    entries_refusal (terms_to v.terms) v.terms v.roles (l.i + 1) (drop l.i es) ≡ entries_refusal (terms_to v.terms) v.terms v.roles 1 es
