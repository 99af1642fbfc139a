-- What is found beside s is a group of the free sites. With its sites and their neighbours s, spread, satisfies the rules again.
use Rattle.basics.proofs.Tests.{refutes}
use Rattle.busset.specs.Sets.{set_of}
use Rattle.rules.specs.Observation.{Closed}
use Rattle.grid.specs.Cases.{bare_grid}
use Rattle.place_bound.specs.Branches.{Keeping}
use Rattle.place_bound.proofs.Grouping.{closed-spread}
use Rattle.place_bound.proofs.Trying.{chosen-group, observed_whatever}
use Rattle.place_bound.proofs.hopeless.seed.Goals as goal
use Rattle.place_bound.proofs.hopeless.seed.Goals.{After-spread-s}

-- one group more
more : (c : After-spread-s) → Keeping (bare_grid c.args.case.now.n c.args.case.now.nbr c.args.case.now.zero) (set_of c.args.free)
    (set_of c.args.units) c.args.pool.now.items c.keep.new.pool.items (λ g. Closed g (set_of c.spread-s.result))
more c = λ sites units ch kept.
    let i = c.loop.invariant sites units ch kept in (
      closed-spread i.0 c.union.ensures c.spread-s.ensures,
      c.keep.ensures.keeps _ _ _ i.1
          (λ some. chosen-group ch i.0 (refutes c.is_full.ensures c.if-is_full.false) c.beside-group.ensures),
    )

pub loop-init : goal.loop-init
loop-init c = λ sites units ch kept. ((observed_whatever sites (c.observed-s.ensures _ 0)).closed, kept)

pub returns-then-is_full : goal.returns-then-is_full
returns-then-is_full c = λ sites units ch kept. (tt, (c.loop.invariant sites units ch kept).1)

pub loop-preserved : goal.loop-preserved
loop-preserved c = more (goal.at.loop-preserved c).After-spread-s

pub returns-else-is_full : goal.returns-else-is_full
returns-else-is_full c = λ sites units ch kept. (tt, (more (goal.at.returns-else-is_full c).After-spread-s sites units ch kept).1)
