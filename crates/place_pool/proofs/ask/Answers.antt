-- A group that the units meet says nothing of v.
use mathlib.Core.Path.{sym, ◌∙◌}
use Rattle.busset.proofs.Members.{both_meet}
use Rattle.place_pool.proofs.ask.Goals as goal

pub returns-then-is_none : goal.returns-then-is_none
returns-then-is_none c = record {
  most = c.with_group.ensures.most;
  says = λ v few s m. c.with_group.ensures.says v few s
      (m (sym (both_meet c.both.ensures) ∙ c.is_none.ensures.yes c.if-is_none.true));
}
