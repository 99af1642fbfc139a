-- Three texts, put one after another, are the line. Each has its bound, so that every place is within the bound of the next.
use native.Mathlib.Omega.{arith}
use Prim.Native.Nat.{◌+◌, ◌≤◌}
use Rattle.text_field.specs.Split.{bytes}
use Rattle.text_field.specs.Number.{most_digits}
use Rattle.text_put.proofs.Putting.{put_then, put_same, tagged_near}
use Rattle.report_rounds.proofs.Texts.{line-parts}
use Rattle.report_rounds.proofs.lines.put_round.Goals as goal

pub put_buses-b-requires : goal.put_buses-b-requires
put_buses-b-requires c =
    let near : c.put_tagged-a.result ≤ c.args.at + 6 + most_digits = tagged_near (bytes "round\t") _ c.put_tagged-a.ensures in
    omega (arith, c.requires.0, near)

pub put_byte-requires : goal.put_byte-requires
put_byte-requires c =
    let near : c.put_tagged-a.result ≤ c.args.at + 6 + most_digits = tagged_near (bytes "round\t") _ c.put_tagged-a.ensures in
    omega (arith, c.requires.0, near, c.put_buses-b.ensures.0)

pub returns : goal.returns
returns c =
    let near : c.put_tagged-a.result ≤ c.args.at + 6 + most_digits = tagged_near (bytes "round\t") _ c.put_tagged-a.ensures in (
      omega (arith, near, c.put_buses-b.ensures.0, c.put_byte.ensures.next),
      λ buses m. put_same (line-parts _ buses)
          (put_then (put_then c.put_tagged-a.ensures (c.put_buses-b.ensures.1 buses m))
          c.put_byte.ensures),
    )
