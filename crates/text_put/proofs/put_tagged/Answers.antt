-- Two texts put one after another are put as one.
use Rattle.text_put.proofs.Putting.{put_then}
use Rattle.text_put.proofs.put_tagged.Goals as goal

pub returns : goal.returns
returns c = search put_then
