use Rattle.std.proofs.Common.{◌∙◌}
use Rattle.calculus.specs.Makes.{words}
use Rattle.calculus.specs.States.{same_set}
use Rattle.session.proofs.TableRows.{found_none}
use Rattle.session.proofs.session.Session.target.Goals as goal

pub returns-in_err-place : goal.returns-in_err-place
returns-in_err-place c =
    c.from_residual.ensures ∙ rw (← c.self.view_is, ← c.all-contexts.ensures.rows) (found_none (λ e. same_set words e.set c.args.need.now.terms) c.all-contexts.result.now c.in_err-place.ensures.value)
