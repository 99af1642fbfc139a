-- Invariant: of the buses below b, those that the round adds are gathered, each looked at against s.
use Rattle.busset.specs.Sets.{set_of}
use Rattle.busset.specs.Held.{SetWord}
use Rattle.rules.specs.Grids.{Proper}
use Rattle.grid.specs.Cases.{grid_with}
use Rattle.round_list.proofs.Gathering.{Gathered}
use Rattle.round_list.proofs.round.Given as goal

abbrev pub invariant-loop-b : goal.invariant-loop-b
invariant-loop-b l = (sites : SetWord) → Proper (grid_with l.case.n l.case.nbr l.case.zero sites l.case.units)
    → Gathered (grid_with l.case.n l.case.nbr l.case.zero sites l.case.units) (set_of l.fn.s) (set_of l.new) l.b
