-- Invariant: the bytes of s before b-index are put, and k is the place after them.
use Rattle.text_put.proofs.Putting.{put_more}
use Rattle.text_put.proofs.put_all.Goals as goal

pub loop-b-preserved : goal.loop-b-preserved
loop-b-preserved c = search put_more
