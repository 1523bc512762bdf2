use Rattle.std.proofs.Common.{◌≡◌, sym, ap, ◌∙◌, subst, Some, None, position}
use Rattle.calculus.specs.Makes.{words}
use Rattle.calculus.specs.States.{need_covers, added}
use Rattle.calculus.specs.declared.state.Finding.TheVariants.{Needed}
use Rattle.session.specs.Models.{model}
use Rattle.session.proofs.StateParts.{needs_same}
use Rattle.session.proofs.TableRows.{put_at, put_end}
use Rattle.session.proofs.session.Session.add_need.Goals as goal

pub returns-in-Some : goal.returns-in-Some
returns-in-Some c =
    let d = c.args.need in
    let at : Some c.in-Some.j ≡ position (need_covers words d) c.self.inside.needs.rows = subst (λ xs. Some c.in-Some.j ≡ position (need_covers words d) xs) c.all.ensures.rows c.in-Some.ensures.value in
    needs_same words (model c.self.inside) _ _ _ c.set.ensures.room (c.set.ensures.rows ∙ sym (put_at (need_covers words d) d c.self.inside.needs.rows c.in-Some.j at))
    ∙ ap (λ s. added words s (Needed d)) c.self.view_is

pub returns-in-None : goal.returns-in-None
returns-in-None c =
    let d = c.args.need in
    let at : None ≡ position (need_covers words d) c.self.inside.needs.rows = subst (λ xs. None ≡ position (need_covers words d) xs) c.all.ensures.rows c.in-None.ensures.value in
    needs_same words (model c.self.inside) _ _ _ c.append.ensures.room (c.append.ensures.rows ∙ sym (put_end (need_covers words d) d c.self.inside.needs.rows at))
    ∙ ap (λ s. added words s (Needed d)) c.self.view_is
