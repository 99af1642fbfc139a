-- What `report` printed ends within the bytes lent, so the slice that is written out is there.
use mathlib.Core.Path.{sym}
use lib.Seq.{length-take-le}
use Rattle.report_lines.proofs.Printed.{printed-within}
use Rattle.day.proofs.main.Goals as goal

pub slice_bounds-out-end : goal.slice_bounds-out-end
slice_bounds-out-end c = printed-within c.program_report-k.ensures

pub slice_bounds-write_all-end : goal.slice_bounds-write_all-end
slice_bounds-write_all-end c = sym (length-take-le _ _ (printed-within c.program_report-k.ensures))
