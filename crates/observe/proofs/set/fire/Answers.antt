-- With one unknown the union adds just that one, which O2 gives. Otherwise O2 gives nothing, and s stays.
use mathlib.Core.Path.{sym, ◌∙◌}
use Rattle.observe.proofs.Firing.{fires-one, fires_not}
use Rattle.observe.proofs.set.fire.Goals as goal

pub returns-then-count_unknown-eq1 : goal.returns-then-count_unknown-eq1
returns-then-count_unknown-eq1 c = fires-one (sym c.count_unknown.ensures ∙ c.if-count_unknown-eq1.true) c.union.ensures

pub returns-else-count_unknown-eq1 : goal.returns-else-count_unknown-eq1
returns-else-count_unknown-eq1 c = fires_not _ _ (λ e. c.if-count_unknown-eq1.false (c.count_unknown.ensures ∙ e))
