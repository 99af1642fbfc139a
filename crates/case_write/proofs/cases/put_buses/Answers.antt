-- At first all records are left to put, a turn puts the one of bus b, and at the end none is left.
use mathlib.Core.Path.{refl}
use native.Mathlib.Omega.{arith}
use Rattle.case_line.specs.CaseText.{bus_records}
use Rattle.case_write.proofs.Turns.{turn_bus, turn_all}
use borrow.Author.Rules.{rules}
use Rattle.case_write.proofs.cases.put_buses.Goals as goal

pub loop-b-preserved : goal.loop-b-preserved
loop-b-preserved c = search turn_bus

pub returns : goal.returns
unfolding bus_records
returns c = turn_all _ c.loop-b.invariant (search rules) (omega arith) refl
