-- The sizes are tried from the smallest, so the first that is found is the fewest.
use mathlib.Core.Path.{ap}
use native.Mathlib.Omega.{arith}
use lib.ListN.{length}
use borrow.Author.Rules.{rules}
use Rattle.busset.specs.Sets.{set_of}
use Rattle.place_light.proofs.Searching.{no-fewer-none, no-fewer-more, first_fewest, no_addition}
use Rattle.place_bound.proofs.Trying.{chosen_none}
use Rattle.place_fewest.proofs.fewest.Goals as goal
use Rattle.place_fewest.proofs.fewest.Goals.{else-loop-k-test, then-loop-k-test+in_default+else-k-budget}

pub loop-k-init : goal.loop-k-init
loop-k-init c = (
  no-fewer-none _ _,
  (c.seed.ensures (set_of c.args.case.now.site) (set_of c.args.case.now.units) (chosen_none _ _)
      (record { groups = λ i d l. absurd (omega (arith, ap length c.blank-pool.ensures.items)) })).1,
)

pub returns-in-Some : goal.returns-in-Some
returns-in-Some c =
    let said = c.in-Some.ensures (set_of c.args.case.now.site) (set_of c.args.case.now.units) (chosen_none _ _) c.loop-k.invariant.1 in
    first_fewest c.minus-free.ensures (search rules) c.loop-k.invariant.0 said.0

pub loop-k-preserved : goal.loop-k-preserved
loop-k-preserved c =
    let said = c.in_default.ensures (set_of c.args.case.now.site) (set_of c.args.case.now.units) (chosen_none _ _) c.loop-k.invariant.1 in
    (no-fewer-more c.loop-k.invariant.0 said.0, said.1)

pub returns : goal.returns
returns c = elim c.loop-k-test.branch [
  | else-loop-k-test w ↦ no_addition c.minus-free.ensures (search rules) c.loop-k.invariant.0
  | then-loop-k-test+in_default+else-k-budget w ↦
      let said = w.in_default.ensures (set_of c.args.case.now.site) (set_of c.args.case.now.units) (chosen_none _ _) c.loop-k.invariant.1 in
      no_addition c.minus-free.ensures (search rules) (no-fewer-more c.loop-k.invariant.0 said.0)
]
