-- Two words hold the same set exactly if they are equal, and the word 0 holds the empty set.
use mathlib.Core.Path.{sym, ◌∙◌}
use Rattle.basics.proofs.Tests.{decides_eq, decides-by}
use Rattle.busset.proofs.Words.{decides-set, set-empty}
use Rattle.busset.proofs.BusSet.is_none.Goals as goal

pub returns : goal.returns
returns c = rw (← c.self.view_is)
    (decides-by (λ e. e ∙ set-empty) (λ e. e ∙ sym set-empty) (decides-set c.self.inside.0 0 (decides_eq c.self.inside.0 0)))
