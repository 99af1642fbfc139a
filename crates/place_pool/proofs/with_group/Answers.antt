-- What a cover has of the group is among the sites left. None left: there is no such cover.
use mathlib.Core.Path.{sym, ◌∙◌}
use Rattle.busset.proofs.Members.{both_meet}
use Rattle.place_light.proofs.Covers.{meets-none}
use Rattle.place_pool.proofs.Saying.{meets-left}
use borrow.Author.Rules.{rules}
use Rattle.place_pool.proofs.with_group.Goals as goal

pub returns-then-is_none : goal.returns-then-is_none
returns-then-is_none c = let h = c.both-choice.ensures in
    record {
      most = search rules;
      says = λ v few s m. absurd (meets-none (c.is_none.ensures.yes c.if-is_none.true) (meets-left h s.within m));
    }

pub apart-requires : goal.apart-requires
apart-requires c = (search rules, search rules, sym (both_meet c.both.ensures) ∙ c.is_none-2.ensures.yes c.if-is_none-2.true)

pub returns-then-is_none-2 : goal.returns-then-is_none-2
returns-then-is_none-2 c = let h = c.both-choice.ensures in
    record {
      most = c.apart.ensures.most;
      says = λ v few s m.
          let i = meets-left h s.within m in
          c.apart.ensures.says v few (c.smaller-b.ensures.says v s i) (c.smaller-b.ensures.meets v s i) i;
    }

pub returns : goal.returns
returns c = let h = c.both-choice.ensures in
    record {
      most = c.shared.ensures.most;
      says = λ v few s m.
          let i = meets-left h s.within m in
          c.shared.ensures.says v few (c.smaller-b.ensures.says v s i) (c.smaller-b.ensures.meets v s i) i;
    }
