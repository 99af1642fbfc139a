-- A hopeless try takes its site from those left and from those to try. If none is to try, there is no cover.
use Prim.Native.Nat.{ℕ, ◌<◌}
use native.Mathlib.Omega.{arith}
use native.Mathlib.Nat.{le_refl}
use Rattle.busset.specs.Sets.{In, Sub, Lowest, set_of}
use Rattle.busset.proofs.Members.{without_sub}
use Rattle.busset.proofs.Sizes.{size-le}
use Rattle.place_bound.specs.Branches.{Open}
use Rattle.place_bound.proofs.Trying.{try_more, try_ended, chosen_more, open_fewer}
use Rattle.place_bound.proofs.hopeless.+is_hopeless.Goals as goal

-- the first of those to try is free, and there is a unit to place
module _ {sites k n tries x : ℕ} (o : Open sites k tries) (low : Lowest n tries x) where
  free : (all : ℕ) → Sub sites all → In all x
  free all of = omega (arith, low.has, o.of x, of x)

  some : 0 < k
  some = o.some x low.has

pub loop-x-init : goal.loop-x-init
loop-x-init t c = rw c.into_iter-x-iterator.ensures.into_iter_gives (λ b. le_refl _, c.in-Some.ensures.0, c.in-Some.ensures.1)

pub is_hopeless-requires : goal.is_hopeless-requires
is_hopeless-requires t c =
    let smaller : Sub (set_of c.without-left.result) (set_of c.args.sites) =
    λ b. omega (arith, without_sub c.without-left.ensures b, c.loop-x.invariant.0 b) in
    let most = size-le _ _ smaller in
    let p = some c.loop-x.invariant.1 c.in-Some-x.ensures.steps.0 in (
      omega arith,
      record {
        buses = c.requires.buses;
        lines = c.requires.lines;
        within = c.requires.within;
        of = λ b. omega (arith, smaller b, c.requires.of b);
        few = let most = c.requires.few in omega arith;
      },
    )

pub returns-then-not-is_hopeless : goal.returns-then-not-is_hopeless
returns-then-not-is_hopeless t c =
    λ sites units ch kept.
    let f = free c.loop-x.invariant.1 c.in-Some-x.ensures.steps.0 _ c.requires.of in
    let i = c.loop-x.invariant.2 sites units ch kept in (
      λ e. cc,
      (c.is_hopeless.ensures sites units (chosen_more ch f c.with.ensures) i.1).1,
    )

pub loop-x-preserved : goal.loop-x-preserved
loop-x-preserved t c = (
  λ b. omega (arith, without_sub c.without-left.ensures b, c.loop-x.invariant.0 b),
  open_fewer c.loop-x.invariant.1 c.in-Some-x.ensures.steps.1,
  λ sites units ch kept.
      let o = c.loop-x.invariant.1 in
      let low = c.in-Some-x.ensures.steps.0 in
      let i = c.loop-x.invariant.2 sites units ch kept in
      let r = c.is_hopeless.ensures sites units (chosen_more ch (free o low _ c.requires.of) c.with.ensures) i.1 in (
        try_more i.0 c.without-left.ensures c.in-Some-x.ensures.steps.1 c.with.ensures (some o low) (r.0 c.if-not-is_hopeless.false),
        r.1,
      ),
)

pub returns-in_default : goal.returns-in_default
returns-in_default t c = λ sites units ch kept. (λ e. cc, (c.in_default.ensures.1 sites units ch kept).1)

pub returns : goal.returns
returns t c =
    λ sites units ch kept.
    let i = c.loop-x.invariant.2 sites units ch kept in
    (λ e. try_ended i.0 c.in-None.ensures.steps.0, i.1)
