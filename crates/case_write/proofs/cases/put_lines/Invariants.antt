-- Invariant: the rows from bus a on are left to put, and each row passed took at most row_room bytes.
use Rattle.case_read.proofs.Lengths.{row_room}
use Rattle.grid.specs.Rows.{neighbours, circuits}
use Rattle.case_line.specs.CaseText.{line_records}
use Rattle.case_write.proofs.Turns.{Turn}
use Rattle.case_write.proofs.cases.put_lines.Given as goal

abbrev pub invariant-loop-a : goal.invariant-loop-a
invariant-loop-a l = Turn (line_records (neighbours l.case.nbr) (circuits l.case.nbr)) row_room 1 l.case.n l.initial.out l.at l.out l.k l.a
