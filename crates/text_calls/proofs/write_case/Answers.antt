-- The count of bytes is the length of the text, so refusal 6 is decided before a byte is written. Then the whole text fits.
use native.Mathlib.Omega.{arith}
use Prim.Native.Nat.{◌≤◌}
use lib.ListN.{length}
use Rattle.case_line.specs.CaseText.{case_text}
use Rattle.text_put.proofs.Whole.{put_whole, put_count}
use Rattle.text_calls.proofs.write_case.Goals as goal

pub returns : goal.returns
returns c =
    let fits : length (case_text c.args.case) ≤ length c.args.out.now = omega arith in
    ((c.in_ok-check.ensures.0, (fits, tt)), put_count c.put_case.ensures, put_whole c.put_case.ensures fits)
