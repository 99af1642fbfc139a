-- A way with the lowest site x is x and a way of k - 1 of the sites above; it comes before every way without x, so x is tried first.
use Prim.Native.Nat.{ℕ}
use native.Mathlib.Omega.{arith}
use native.Mathlib.Nat.{le_refl}
use borrow.Author.Rules.{rules}
use mathlib.Core.Path.{ap, sym, ◌∙◌, subst⁻¹}
use Rattle.basics.proofs.Tests.{refutes}
use Rattle.busset.specs.Sets.{In, Lowest, less, set_of, width}
use Rattle.busset.proofs.Words.{empty-set}
use Rattle.busset.proofs.Members.{without_sub, without-less}
use Rattle.busset.proofs.Sizes.{size-le}
use Rattle.rules.specs.Grids.{Grid, with_sites_and_units}
use Rattle.rules.specs.Placing.{with_units}
use Rattle.grid.specs.Cases.{bare_grid}
use Rattle.grid.specs.declared.Case.{Case}
use Rattle.rules.proofs.Covering.{covers-full, full-covers}
use Rattle.place_light.proofs.Searching.{way-none, no-way-none, no-way-left, passed_none, passed-more, passed-no, passed_first}
use Rattle.place_light.proofs.Covers.{no_cover-way}
use Rattle.place_bound.proofs.Trying.{chosen_more, observed_whatever}
use Rattle.place_fewest.proofs.Finding.{found_take, found_pass}
use Rattle.place_fewest.proofs.+search.Goals as goal
use Rattle.place_fewest.proofs.+search.Goals.{After-with}

-- a grid that was asked about, with the units placed
abbrev asked : Case → ℕ → ℕ → ℕ → Grid
asked x placed sites units = with_units (with_sites_and_units (bare_grid x.n x.nbr x.zero) sites units) (set_of placed)

-- the site tried is the lowest of the sites above the last
lowest : (t : ℕ) (c : After-with t) → Lowest width (set_of c.loop-x.above) c.in-Some.x
lowest t c = subst⁻¹ (λ (s : ℕ). Lowest width s c.in-Some.x) c.loop-x.invariant.0 c.in-Some.ensures.steps.0

-- so it is free
free : (t : ℕ) (c : After-with t) → In (set_of c.args.free) c.in-Some.x
free t c = omega (arith, c.loop-x.invariant.1 c.in-Some.x, (lowest t c).has, c.requires.of c.in-Some.x)

pub returns-then-is_full : goal.returns-then-is_full
returns-then-is_full t c =
    λ sites units ch kept. (
      way-none c.if-k-eq0.true (empty-set c.none.ensures)
          (full-covers (asked c.args.case.now c.args.units sites units)
          (observed_whatever sites (c.observed.ensures _ 0)) (c.is_full.ensures.yes c.if-is_full.true)),
      kept,
    )

pub returns-then-k-eq0 : goal.returns-then-k-eq0
returns-then-k-eq0 t c =
    λ sites units ch kept. (
      no-way-none c.if-k-eq0.true
          (λ covers. refutes c.is_full.ensures c.if-is_full.false
          (covers-full (asked c.args.case.now c.args.units sites units)
          (observed_whatever sites (c.observed.ensures _ 0)) covers)),
      kept,
    )

pub returns-then-is_hopeless : goal.returns-then-is_hopeless
returns-then-is_hopeless t c =
    λ sites units ch kept.
    let h = c.is_hopeless.ensures sites units ch kept in
    (no_cover-way (h.0 c.if-is_hopeless.true), h.1)

pub loop-x-init : goal.loop-x-init
loop-x-init t c = (
  ap set_of (sym c.into_iter-x-iterator.ensures.into_iter_gives),
  λ b. le_refl _,
  λ sites units ch kept. (passed_none _ _ _, (c.is_hopeless.ensures sites units ch kept).1),
)

pub search-requires : goal.search-requires
search-requires t c =
    let fewer = c.without-above.ensures.fewer (lowest t (goal.at.search-requires t c).After-with).has in
    let most = size-le _ _ c.loop-x.invariant.1 in (
      omega arith,
      record {
        buses = c.requires.buses;
        lines = c.requires.lines;
        within = c.requires.within;
        of = λ b. omega (arith, without_sub c.without-above.ensures b, c.loop-x.invariant.1 b, c.requires.of b);
        few = let most = c.requires.few in omega arith;
      },
    )

pub returns-in-Some-search : goal.returns-in-Some-search
returns-in-Some-search t c =
    λ sites units ch kept.
    let at = (goal.at.returns-in-Some-search t c).After-with in
    let i = c.loop-x.invariant.2 sites units ch kept in
    let r = c.search.ensures sites units (chosen_more ch (free t at) c.with.ensures) i.1 in (
      passed_first i.0
          (found_take _ (search rules) (lowest t at) c.without-above.ensures c.with.ensures
          c.search.result r.0 _ c.in-Some-search.is c.with-in-Some-search.ensures),
      r.1,
    )

pub loop-x-preserved : goal.loop-x-preserved
loop-x-preserved t c = (
  without-less c.without-above.ensures ∙ ap (λ (s : ℕ). less s c.in-Some.x) c.loop-x.invariant.0
      ∙ sym (without-less c.in-Some.ensures.steps.1),
  λ b. omega (arith, without_sub c.without-above.ensures b, c.loop-x.invariant.1 b),
  λ sites units ch kept.
      let at = (goal.at.loop-x-preserved t c).After-with in
      let i = c.loop-x.invariant.2 sites units ch kept in
      let r = c.search.ensures sites units (chosen_more ch (free t at) c.with.ensures) i.1 in (
        passed-more i.0
            (found_pass _ (search rules) (lowest t at) c.without-above.ensures c.with.ensures
            c.search.result r.0 c.in_default.is),
        r.1,
      ),
)

pub returns : goal.returns
returns t c =
    λ sites units ch kept.
    let i = c.loop-x.invariant.2 sites units ch kept in (
      passed-no i.0 (no-way-left (c.loop-x.invariant.0 ∙ c.in-None.ensures.steps.0) (search rules)),
      i.1,
    )
