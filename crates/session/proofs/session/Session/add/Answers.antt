use Rattle.std.proofs.Common.{set, sym, refl, ap, ◌∙◌}
use Rattle.calculus.specs.Makes.{words}
use Rattle.calculus.specs.States.{holding, voided, added}
use Rattle.calculus.specs.declared.state.Finding.TheVariants.{Held, Void}
use Rattle.session.specs.Models.{model}
use Rattle.session.proofs.StateParts.{contexts_same}
use Rattle.session.proofs.TableRows.{change_at, change_past}
use Rattle.session.proofs.session.Session.add.Goals as goal

pub returns-in-Some : goal.returns-in-Some
returns-in-Some c =
    let s = c.self-in-Held.inside in
    let i = c.in-Held.context in
    let f = holding words c.in-Held.terms in
    rw c.in-Held.is
    (contexts_same words (model s) _ _ _ c.set.ensures.room
    (c.set.ensures.rows ∙ ap (λ h. set s.contexts.rows i (record c.in-Some.row { held = h })) c.union-held.ensures ∙ sym (change_at s.contexts.rows i f c.in-Some.row (sym c.in-Some.ensures)))
    ∙ ap (λ s. added words s (Held i c.in-Held.terms)) c.self-in-Held.view_is)

pub returns-in_default : goal.returns-in_default
returns-in_default c =
    let s = c.self-in-Held.inside in
    let i = c.in-Held.context in
    rw c.in-Held.is
    (sym c.self-in-Held.view_is
    ∙ contexts_same words (model s) _ _ _ refl (sym (change_past s.contexts.rows i (holding words c.in-Held.terms) c.in_default.ensures))
    ∙ ap (λ s. added words s (Held i c.in-Held.terms)) c.self-in-Held.view_is)

pub returns-in-Some-get : goal.returns-in-Some-get
returns-in-Some-get c =
    let s = c.self-in-Void.inside in
    let i = c.in-Void.context in
    rw c.in-Void.is
    (contexts_same words (model s) _ _ _ c.set-in-Some-get.ensures.room
    (c.set-in-Some-get.ensures.rows ∙ sym (change_at s.contexts.rows i (voided words) c.in-Some-get.row (sym c.in-Some-get.ensures)))
    ∙ ap (λ s. added words s (Void i)) c.self-in-Void.view_is)

pub returns-in_default-get : goal.returns-in_default-get
returns-in_default-get c =
    let s = c.self-in-Void.inside in
    let i = c.in-Void.context in
    rw c.in-Void.is
    (sym c.self-in-Void.view_is
    ∙ contexts_same words (model s) _ _ _ refl (sym (change_past s.contexts.rows i (voided words) c.in_default-get.ensures))
    ∙ ap (λ s. added words s (Void i)) c.self-in-Void.view_is)
