-- `check` gives refusal 5. `observed` promises the observed set whatever the sites are, so also for this case.
use Rattle.busset.proofs.Holding.{word_own}
use Rattle.observe_calls.proofs.observed_set.Goals as goal

pub returns : goal.returns
returns c = (c.in_ok-check.ensures, c.observed.ensures _ _, word_own _)
