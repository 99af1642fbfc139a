-- Invariant: of the buses that the word holds, those that are still to come are left to put. How many they are bounds every place.
use native.Mathlib.Omega.{arith}
use borrow.Author.Rules.{rules}
use Prim.Native.Nat.{◌≤◌}
use Rattle.busset.specs.Sets.{set_of, size, width}
use Rattle.busset.proofs.Words.{set-size}
use Rattle.text_field.proofs.Digits.{text_length}
use Rattle.round_list.proofs.Putting.{buses-more, buses-all}
use Rattle.report_rounds.proofs.lines.put_buses.Goals as goal

pub put_tagged-k-requires : goal.put_tagged-k-requires
put_tagged-k-requires c = let few : size (set_of c.args.r) ≤ width = set-size width (search rules) in (
  omega (arith, c.loop-b.invariant.0, c.requires),
  omega arith,
  omega (arith, c.in-Some.ensures.steps.0.bus.most),
)

pub loop-b-preserved : goal.loop-b-preserved
loop-b-preserved c = let low = c.in-Some.ensures.steps.0 in
    let put = c.put_tagged-k.ensures in (
      omega (arith, c.loop-b.invariant.0, put.next, text_length c.in-Some.b, c.in-Some.ensures.steps.1.fewer low.has),
      λ buses m. buses-more (c.loop-b.invariant.1 buses m) low put c.in-Some.ensures.steps.1,
    )

pub returns : goal.returns
returns c = let few : size (set_of c.args.r) ≤ width = set-size width (search rules) in (
  omega (arith, c.loop-b.invariant.0),
  λ buses m. buses-all (c.loop-b.invariant.1 buses m) c.in-None.ensures.steps.0,
)
