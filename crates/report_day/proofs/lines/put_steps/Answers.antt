-- Invariant: the lines of the steps that are still to come are left to put. The steps name buses, which bounds the whole text.
use borrow.Author.Rules.{rules}
use native.Mathlib.Omega.{arith}
use Rattle.text_put.proofs.Left.{left-none, left-more, left-all}
use Rattle.report_day.proofs.Texts.{rest-first, rest-next, rest_all, step_named, list_length}
use Rattle.report_day.proofs.lines.put_steps.Goals as goal

pub loop-x-init : goal.loop-x-init
loop-x-init c = left-none (rest-first _)

pub put_step-k-requires : goal.put_step-k-requires
put_step-k-requires c = let named = c.requires.1 in (
  omega (arith, c.loop-x.invariant.next, list_length _ named),
  step_named _ _ _ (search rules) named,
)

pub loop-x-preserved : goal.loop-x-preserved
loop-x-preserved c = left-more c.loop-x.invariant (rest-next _ _ _ (search rules)) c.put_step-k.ensures

pub returns : goal.returns
returns c = left-all c.loop-x.invariant (rest_all _ _ (search rules))
