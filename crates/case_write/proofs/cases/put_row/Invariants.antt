-- Invariant: the lines from a to the buses from b on are left to put, and each took at most line_room bytes.
use Prim.Native.Nat.{◌+◌}
use Rattle.busset.specs.Sets.{set_of}
use Rattle.grid.specs.Rows.{circuits}
use Rattle.case_read.proofs.Lengths.{line_room}
use Rattle.case_line.specs.CaseText.{members, line_from}
use Rattle.case_write.proofs.Turns.{Turn}
use Rattle.case_write.proofs.cases.put_row.Given as goal

abbrev pub invariant-loop-b : goal.invariant-loop-b
invariant-loop-b l =
    Turn (members (line_from (circuits l.case.nbr) l.a) (set_of l.row)) line_room (l.a + 1) l.case.n l.initial.out l.at l.out l.k l.b
