-- Invariant: the records of the units from bus b on are left to put, and each bus passed took at most line_room bytes.
use Rattle.busset.specs.Sets.{set_of}
use Rattle.case_line.specs.declared.Record.TheVariants.{Pmu}
use Rattle.case_read.proofs.Lengths.{line_room}
use Rattle.case_line.specs.CaseText.{members}
use Rattle.case_write.proofs.Turns.{Turn}
use Rattle.case_write.proofs.cases.put_units.Given as goal

abbrev pub invariant-loop-b : goal.invariant-loop-b
invariant-loop-b l = Turn (members Pmu (set_of l.units)) line_room 1 l.n l.initial.out l.at l.out l.k l.b
