-- Invariant: of the buses below b, those that the round adds are gathered, each looked at against s.
use Prim.Native.Nat.{◌+◌}
use native.Mathlib.Omega.{arith}
use Rattle.busset.proofs.Words.{empty-set}
use Rattle.basics.proofs.Tests.{refutes}
use Rattle.busset.specs.Sets.{set_of}
use Rattle.busset.specs.Held.{SetWord}
use Rattle.rules.specs.Grids.{Proper}
use Rattle.grid.specs.Cases.{grid_with}
use Rattle.round_list.proofs.Gathering.{Gathered, gathered_none, gathered-yes, gathered-no, gathered-all, gathered-to}
use Rattle.round_list.proofs.round.Goals as goal
use Rattle.round_list.proofs.round.Goals.{Joined-is_given, then-is_given, else-is_given}

pub loop-b-init : goal.loop-b-init
loop-b-init c = λ sites v. gathered_none _ v (empty-set c.none-new.ensures)

-- one bus more
more : (c : Joined-is_given) (sites : SetWord)
    → Proper (grid_with c.args.case.now.n c.args.case.now.nbr c.args.case.now.zero sites c.args.case.now.units)
    → Gathered (grid_with c.args.case.now.n c.args.case.now.nbr c.args.case.now.zero sites c.args.case.now.units) (set_of c.args.s)
    (set_of c.if-is_given.new) (c.loop-b.b + 1)
more c = λ sites v. elim c.if-is_given.branch [
  | then-is_given w ↦ gathered-to w.new-is (gathered-yes (c.loop-b.invariant sites v)
      ((c.is_given.ensures sites v).yes w.if-is_given.true) w.with-new.ensures)
  | else-is_given w ↦ gathered-to w.new-is (gathered-no (c.loop-b.invariant sites v)
      (refutes (c.is_given.ensures sites v) w.if-is_given.false))
]

pub loop-b-preserved : goal.loop-b-preserved
loop-b-preserved c = more (goal.at.loop-b-preserved c).Joined-is_given

pub returns-after-is_given : goal.returns-after-is_given
returns-after-is_given c = λ sites v. gathered-all v (omega arith) (more (goal.at.returns-after-is_given c).Joined-is_given sites v)
