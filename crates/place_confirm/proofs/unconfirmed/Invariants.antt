-- Of the units that are not still to come, `alone` has exactly those that no other unit confirms.
use Rattle.busset.specs.Sets.{set_of}
use Rattle.grid.specs.Rows.{neighbours}
use Rattle.place_confirm.proofs.Sharing.{Sifted}
use Rattle.place_confirm.proofs.unconfirmed.Given as goal

abbrev pub invariant-loop-p : goal.invariant-loop-p
invariant-loop-p l = Sifted (neighbours l.case.nbr) (set_of l.case.units) (set_of l.alone) (set_of l.p-iterator)
