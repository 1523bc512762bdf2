use Rattle.std.proofs.Common.{true, List, ℕ, ◌++◌, map, codes, decimal, sym, refl, ap, ◌∙◌, subst}
use Rattle.std.specs.Fmt.{HasWritten}
use Rattle.std.proofs.lemmas.Grind.{put_two}
use Rattle.numbers.specs.TermSets.{term_number}
use Rattle.numbers.specs.TermLists.{terms_left}
use Rattle.inspect.specs.Statements.{spaced, left_text}
use Rattle.inspect.proofs.Lines.{next_term, no_terms, first_term}
use Rattle.inspect.proofs.statement.LeftTextDisplay.fmt.Goals as goal

pub returns-in_default-clause-writes : goal.returns-in_default-clause-writes
returns-in_default-clause-writes g c = λ plain ok.
    subst (λ (xs : List ℕ). HasWritten g.W.Write.write_str_gives c.args.f.now xs c.write_str.new.self)
    (no_terms c.args.self.now.0 (sym c.terms-terms.ensures ∙ c.in_default.ensures.steps.0)) (c.write_str.ensures.writes plain ok)

pub loop-n-init : goal.loop-n-init
loop-n-init g c = (
  tt,
  tt,
  λ plain. (
    decimal c.in-Some.field-0.0,
    c.in_ok-write.ensures.writes plain (refl {a = true}),
    ap (λ it. decimal c.in-Some.field-0.0 ++ spaced (map term_number (terms_left it))) c.into_iter-n-iterator.ensures.into_iter_gives
        ∙ first_term c.args.self.now.0 c.in-Some.field-0 _ (sym c.terms-terms.ensures ∙ c.in-Some.ensures.steps),
  ),
)

pub loop-n-preserved : goal.loop-n-preserved
loop-n-preserved g c = (
  tt,
  tt,
  λ plain.
      let so = c.loop-n.invariant.2 plain in (
        so.0 ++ (codes " " ++ decimal c.in-Some-2.field-0.0),
        put_two _ _ _ _ _ _ _ so.1 (c.in_ok-write-2.ensures.writes so.1.plain (refl {a = true})) refl,
        next_term so.0 (left_text c.args.self.now.0) c.in-Some-2.field-0 _ _ c.in-Some-2.ensures.steps so.2,
      ),
)
