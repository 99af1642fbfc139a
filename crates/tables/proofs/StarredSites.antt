-- The rows of the table that the siting group's calls answer, each from a test that the checker computes.
use Rattle.std.specs.Prelude.{Ok, Err}
use mathlib.Core.Path.{◌≡◌, refl, subst}
use mathlib.Core.List.{List, ◌++◌}
use mathlib.Core.Logic.{inl, inr}
use Prim.Native.Nat.{ℕ, ◌+◌, ◌-◌, ◌≤◌}
use native.Mathlib.Omega.{arith}
use lib.ListN.{length, drop}
use Rattle.busset.specs.Sets.{lack}
use Rattle.busset.proofs.Members.{lack-at}
use Rattle.busset.proofs.Holding.{word_own}
use Rattle.busset.proofs.Words.{set-zero}
use Rattle.rules.proofs.Choices.{greedy-unique}
use Rattle.rules.proofs.Ordering.{fewest-some}
use Rattle.tables.proofs.Tests.{within_test, within_passes}
use Rattle.tables.proofs.Sought.{unconfirmed_test, unconfirmed_passes, greedy_test, greedy_passes, none, some, smallest, fewest_passes}
use Rattle.refusals.specs.declared.Refusal.TheVariants.{NoCover}
use Rattle.grid.specs.Limits.{most_budget, most_greedy_budget}
use Rattle.grid.specs.Cases.{Valid}
use Rattle.refusals.proofs.Orders.{itself}
use Rattle.tables.proofs.Drawn.{valid_test, filled_passes}
use Rattle.place_calls.specs.Replies.{VerdictReply, GreedyReply, FewestReply}
use Rattle.tables.specs.Starred.{Drawing, word_with, short_case, drawn_case}
use Rattle.tables.specs.Drawings.{set, drawn_grid}

-- ---- a row, from its test

-- the sites where a new unit may go
abbrev pub free : Drawing → ℕ
free d = lack (drawn_grid d).sites (drawn_grid d).units

pub verdict-right : (d : Drawing) (bs : List ℕ)
    → valid_test (short_case d) + within_test d.n (set bs) + unconfirmed_test (drawn_grid d) (set bs) ≡ 0
    → VerdictReply (drawn_case d) (Ok (word_with bs))
verdict-right d bs e =
    let v : Valid (drawn_case d) = filled_passes (short_case d) (omega arith) in (
      (v, tt),
      unconfirmed_passes (drawn_grid d) v.proper (set bs)
          (within_passes d.n (set bs) (set-zero (word_with bs)) (omega arith)) (omega arith),
      word_own _,
    )

pub greedy-right : (d : Drawing) (budget : ℕ) (xs : List ℕ)
    → valid_test (short_case d) + (budget - most_greedy_budget) + greedy_test (drawn_grid d) budget xs ≡ 0
    → (entry : List ℕ) → length xs ≤ length entry
    → GreedyReply (drawn_case d) budget entry (xs ++ drop (length xs) entry) (Ok (length xs))
greedy-right d budget xs e entry room =
    let v : Valid (drawn_case d) = filled_passes (short_case d) (omega arith) in
    let added = greedy_passes (drawn_grid d) budget xs v.proper (omega arith) in (
      (
        v,
        (
          omega arith,
          (
            (λ ys h. subst (λ (zs : List ℕ). length zs ≤ length entry) (greedy-unique (drawn_grid d) budget xs ys added h) room),
            tt,
          ),
        ),
      ),
      record { list = xs; greedy = added; count = refl; written = refl },
    )

pub fewest-right : (d : Drawing) (budget : ℕ) (bs : List ℕ) → valid_test (short_case d) + (budget - most_budget d.n) ≡ 0
    → smallest (drawn_grid d) (free d) (budget + 1) 0 ≡ some (set bs)
    → FewestReply (drawn_case d) budget (Ok (word_with bs))
fewest-right d budget bs e found =
    let v : Valid (drawn_case d) = filled_passes (short_case d) (omega arith) in
    let f = fewest_passes (drawn_grid d) v.proper (free d) (record { at = lack-at (drawn_grid d).sites (drawn_grid d).units }) budget
    (some (set bs)) found in
    ((v, (omega arith, (fewest-some f, tt))), f, word_own _)

pub uncovered-right : (d : Drawing) (budget : ℕ) → valid_test (short_case d) + (budget - most_budget d.n) ≡ 0
    → smallest (drawn_grid d) (free d) (budget + 1) 0 ≡ none → FewestReply (drawn_case d) budget (Err NoCover)
uncovered-right d budget e found =
    let v : Valid (drawn_case d) = filled_passes (short_case d) (omega arith) in
    inr (
      v,
      inr (
        omega arith,
        inl (
          fewest_passes (drawn_grid d) v.proper (free d)
              (record { at = lack-at (drawn_grid d).sites (drawn_grid d).units }) budget none found,
          itself _,
        ),
      ),
    )
