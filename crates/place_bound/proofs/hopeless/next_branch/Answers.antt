-- What the groups say holds of every cover, since it has one of each kept group that the units do not meet.
-- If they meet all, what they observe is closed and misses a bus: a group beside it is one of the free sites, and one of the sites to try.
use native.Mathlib.Omega.{arith}
use Rattle.busset.proofs.Words.{empty-set}
use Rattle.basics.proofs.Tests.{refutes}
use Rattle.place_bound.proofs.Grouping.{beside-group}
use Rattle.place_bound.proofs.Trying.{kept_cover, chosen-group, observed_whatever}
use Rattle.place_bound.proofs.Trying.{try_said, try_group, try_none, said-apart, missing_none, group-none, open_none}
use borrow.Author.Rules.{rules}
use Rattle.place_bound.proofs.hopeless.next_branch.Goals as goal

pub returns-then-a-k : goal.returns-then-a-k
returns-then-a-k c = (
  open_none (empty-set c.none.ensures),
  λ sites units ch kept. (
    try_none _ (said-apart c.ask_kept-a.result
        (λ v w. c.ask_kept-a.ensures v w.few w.of (kept_cover _ ch kept c.requires.of w)) (search rules)),
    kept,
  ),
)

pub returns-then-a-gt0 : goal.returns-then-a-gt0
returns-then-a-gt0 c = (
  record { of = λ b. omega (arith, c.both.ensures.at b); some = λ x h. search rules },
  λ sites units ch kept. (
    try_said c.ask_kept-a.result
        (λ v w. c.ask_kept-a.ensures v w.few w.of (kept_cover _ ch kept c.requires.of w)) (search rules)
        c.both.ensures,
    kept,
  ),
)

pub returns-then-has_enough : goal.returns-then-has_enough
returns-then-has_enough c = (
  open_none (empty-set c.none-then-has_enough.ensures),
  λ sites units ch kept. (
    try_none _ (missing_none (observed_whatever sites (c.observed-s.ensures _ 0)).closed (refutes c.is_full.ensures c.if-is_full.false)
        (c.has_enough.ensures c.if-has_enough.true)),
    kept,
  ),
)

pub returns-then-k-eq0 : goal.returns-then-k-eq0
returns-then-k-eq0 c = (
  open_none (empty-set c.none-then-k-eq0.ensures),
  λ sites units ch kept.
      let misses = refutes c.is_full.ensures c.if-is_full.false in
      let l = observed_whatever sites (c.observed-s.ensures _ 0) in (
        try_none _ (group-none (beside-group _ l.closed misses c.requires.of c.beside-group.ensures) c.if-k-eq0.true),
        c.keep.ensures.keeps _ _ _ kept (λ some. chosen-group ch l.closed misses c.beside-group.ensures),
      ),
)

pub returns : goal.returns
returns c = (
  record {
    of = λ b. omega (arith, c.both-2.ensures.at b);
    some = λ x h. let z = c.if-k-eq0.false in omega arith;
  },
  λ sites units ch kept.
      let misses = refutes c.is_full.ensures c.if-is_full.false in
      let l = observed_whatever sites (c.observed-s.ensures _ 0) in (
        try_group (beside-group _ l.closed misses c.requires.of c.beside-group.ensures) c.both-2.ensures,
        c.keep.ensures.keeps _ _ _ kept (λ some. chosen-group ch l.closed misses c.beside-group.ensures),
      ),
)
