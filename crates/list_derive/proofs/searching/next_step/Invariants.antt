-- Three invariants: no step is allowed for a bus below b; no unit below p, and no Z bus below w, is a reason for b.
-- So the first step found has the lowest bus and the reason that is taken first.
use Rattle.busset.specs.Sets.{set_of}
use Rattle.basics.proofs.Lacking.{Lacks}
use Rattle.step.specs.declared.Reason.TheVariants.{NeighbourOf, ZeroInjection}
use Rattle.rules.specs.Steps.{Holds}
use Rattle.grid.specs.Cases.{grid_of}
use Rattle.list_derive.proofs.Nexting.{Clear}
use Rattle.list_derive.proofs.searching.next_step.Given as goal

abbrev pub invariant-loop-p : goal.invariant-loop-p
invariant-loop-p l = Lacks (λ a. Holds (grid_of l.case) (set_of l.s) l.b (NeighbourOf a)) l.p

abbrev pub invariant-loop-w : goal.invariant-loop-w
invariant-loop-w l = Lacks (λ a. Holds (grid_of l.case) (set_of l.s) l.b (ZeroInjection a)) l.w

abbrev pub invariant-loop-b : goal.invariant-loop-b
invariant-loop-b l = Clear (grid_of l.case) (set_of l.s) l.b
