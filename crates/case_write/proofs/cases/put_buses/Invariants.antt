-- Invariant: the records of the buses from b on are left to put, and each bus passed took at most line_room bytes.
use Rattle.busset.specs.Sets.{set_of}
use Rattle.case_read.proofs.Lengths.{line_room}
use Rattle.case_line.specs.CaseText.{bus_records}
use Rattle.case_write.proofs.Turns.{Turn}
use Rattle.case_write.proofs.cases.put_buses.Given as goal

abbrev pub invariant-loop-b : goal.invariant-loop-b
invariant-loop-b l = Turn (bus_records (set_of l.case.zero) (set_of l.case.site)) line_room 1 l.case.n l.initial.out l.at l.out l.k l.b
