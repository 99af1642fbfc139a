-- The site that `best` chose is a bus, and lighting it where s is observed gives the next observed set.
use mathlib.Core.Path.{ap}
use Prim.Native.Nat.{ℕ}
use native.Mathlib.Omega.{arith}
use lib.ListN.{length, length-append}
use borrow.Author.Rules.{rules}
use Rattle.busset.specs.Sets.{Bus, set_of, width}
use Rattle.busset.proofs.Words.{set-bus}
use Rattle.busset.proofs.Members.{with-add}
use Rattle.rules.specs.Choosing.{Best}
use Rattle.rules.specs.Placing.{with_units}
use Rattle.grid.specs.Cases.{grid_with}
use Rattle.place_light.proofs.Lighting.{lit-least}
use Rattle.place_greedy.proofs.Comparing.{adding-none, adding-more, adding-stop, adding-all, best-free}
use Rattle.place_greedy.proofs.greedy.Goals as goal
use Rattle.place_greedy.proofs.greedy.Goals.{In-Some}

-- the site chosen is the best beside the units placed
chosen : (c : In-Some) (n : ℕ)
    → Best (with_units (grid_with n c.args.case.now.nbr c.args.case.now.zero c.args.case.now.site c.args.case.now.units)
    (set_of c.loop.placed)) c.in-Some.x
chosen c n = c.in-Some.ensures n (set_of c.args.case.now.site) (set_of c.loop.placed) c.minus.ensures (c.loop.invariant.1 n).least

chosen-bus : (c : In-Some) → Bus width c.in-Some.x
chosen-bus c = set-bus width _ (search rules) (best-free c.minus.ensures (chosen c 0))

pub loop-init : goal.loop-init
loop-init c = (ap length c.blank-sites.ensures.items, λ n. adding-none _ _ c.blank-sites.ensures.items (c.observed-s.ensures _ _))

pub returns-in_default : goal.returns-in_default
returns-in_default c = λ n. adding-stop (c.loop.invariant.1 n) (omega (arith, c.loop.invariant.0))
    (c.in_default.ensures n (set_of c.args.case.now.site) (set_of c.loop.placed) c.minus.ensures (c.loop.invariant.1 n).least)

pub with-placed-requires : goal.with-placed-requires
with-placed-requires c = chosen-bus (goal.at.with-placed-requires c).In-Some

pub lit-s-requires : goal.lit-s-requires
lit-s-requires c = chosen-bus (goal.at.lit-s-requires c).In-Some

pub loop-preserved : goal.loop-preserved
loop-preserved c = (
  simp (c.push.ensures.items, length-append) (omega (arith, c.loop.invariant.0)),
  λ n. adding-more (c.loop.invariant.1 n) (omega (arith, c.loop.invariant.0)) (chosen (goal.at.loop-preserved c).In-Some n)
      c.push.ensures.items (with-add c.with-placed.ensures) (lit-least (c.loop.invariant.1 n).least c.lit-s.ensures),
)

pub returns : goal.returns
returns c = λ n. adding-all (c.loop.invariant.1 n) (omega (arith, c.loop.invariant.0))
