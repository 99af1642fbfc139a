-- Of the units that are not still to come, `alone` has exactly those that no other unit confirms.
use Rattle.busset.proofs.Words.{empty-set}
use Rattle.place_confirm.proofs.Sharing.{sifted-none}
use Rattle.place_confirm.proofs.unconfirmed.Goals as goal

pub loop-p-init : goal.loop-p-init
loop-p-init c = rw c.into_iter-p-iterator.ensures.into_iter_gives (sifted-none _ _ (empty-set c.none-alone.ensures))
