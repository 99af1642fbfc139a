-- What counts is what writes: the length put into no places is that of the text, and so the room is known before it is put.
use native.Mathlib.Omega.{arith}
use Rattle.text_put.proofs.Whole.{put_whole, put_count}
use Rattle.text_put.proofs.put_whole.Goals as goal

pub returns : goal.returns
returns g c = λ text puts.
    let counted = put_count (puts _ _ _ c.put.ensures) in
    let put = puts _ _ _ c.put-2.ensures in
    (omega arith, put_count put, put_whole put (omega arith))
