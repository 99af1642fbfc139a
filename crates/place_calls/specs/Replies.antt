-- What the siting group's calls promise: what each checks, in order, and what it answers where every check passes.
use Rattle.refusals.specs.declared.Refusal.{Refusal}
use Rattle.std.specs.Prelude.{◌≡◌, List, [], ◌∷◌, ◌++◌, ℕ, ◌≤◌, length, drop, Result, Ok, Err}
use Rattle.busset.specs.Sets.{set_of}
use Rattle.busset.specs.Held.{IsWord}
use Rattle.rules.specs.Confirming.{UnconfirmedSet}
use Rattle.rules.specs.Placing as placing
use Rattle.rules.specs.Choosing as choosing
use Rattle.grid.specs.declared.Case.{Case}
use Rattle.grid.specs.Limits.{most_budget, most_greedy_budget}
use Rattle.grid.specs.Cases.{grid_of, Valid}
use Rattle.refusals.specs.Refusals.{Check, check_that, Passed, Failed}
use Rattle.refusals.specs.Calls.{Call, Refuses}

-- ---- cross-validation

-- the case is valid, or 5
abbrev pub verdict_checks : Case → List Check
verdict_checks c = check_that (Valid c) 5 0 ∷ []

-- the word of the set of units that no other unit confirms
abbrev pub VerdictReply : Case → Result ℕ Refusal → Type 0
VerdictReply c (Ok s) =
    Passed (verdict_checks c) × UnconfirmedSet (grid_of c).neighbours (grid_of c).units (set_of s) × IsWord s
VerdictReply c (Err r) = Failed (verdict_checks c) r

-- `cross_validate`
abbrev pub cross_validate_call : Call
cross_validate_call = record {
  Input = Case;
  Lent = Unit {0};
  Reply = Result ℕ Refusal;
  promise = λ c before after r. VerdictReply c r;
  checks = λ c lent. verdict_checks c;
  refuses = Refuses Err;
}

-- ---- greedy, into the room lent

-- what greedy adds within the budget has room
abbrev pub HasRoom : Case → ℕ → List ℕ → Type 0
HasRoom c budget room = (xs : List ℕ) → choosing.GreedyList (grid_of c) budget xs → length xs ≤ length room

-- 5; the budget is at most its limit, or 10; the answer has room, or 6
abbrev pub greedy_checks : Case → ℕ → List ℕ → List Check
greedy_checks c budget room =
    check_that (Valid c) 5 0 ∷ check_that (budget ≤ most_greedy_budget) 10 0 ∷ check_that (HasRoom c budget room) 6 0 ∷ []

-- k sites are added: they stand first in the room, in the order added, and the rest of it stays
pub record GreedyWritten (c : Case) (budget : ℕ) (entry exit : List ℕ) (k : ℕ) : Type 0 where
  pub list : List ℕ
  pub greedy : choosing.GreedyList (grid_of c) budget list
  pub count : k ≡ length list
  pub written : exit ≡ list ++ drop k entry

-- the sites added; a refusal leaves all of the room as it was
abbrev pub GreedyReply : Case → ℕ → List ℕ → List ℕ → Result ℕ Refusal → Type 0
GreedyReply c budget entry exit (Ok k) = Passed (greedy_checks c budget entry) × GreedyWritten c budget entry exit k
GreedyReply c budget entry exit (Err r) = Failed (greedy_checks c budget entry) r × (exit ≡ entry)

-- `place_greedy`
abbrev pub place_greedy_call : Call
place_greedy_call = record {
  Input = Case × ℕ;
  Lent = List ℕ;
  Reply = Result ℕ Refusal;
  promise = λ (c, budget) entry exit r. GreedyReply c budget entry exit r;
  checks = λ (c, budget) room. greedy_checks c budget room;
  refuses = Refuses Err;
}

-- ---- the fewest

-- 5; the budget is at most the grid's limit, or 10; some addition within it covers, or 11
abbrev pub fewest_checks : Case → ℕ → List Check
fewest_checks c budget =
    check_that (Valid c) 5 0 ∷ check_that (budget ≤ most_budget c.n) 10 0 ∷ check_that (placing.SomeAddition (grid_of c) budget) 11 0 ∷ []

-- the word of the set of sites of the first of the smallest additions that cover
abbrev pub FewestReply : Case → ℕ → Result ℕ Refusal → Type 0
FewestReply c budget (Ok m) = Passed (fewest_checks c budget) × placing.FewestSites (grid_of c) budget (set_of m) × IsWord m
FewestReply c budget (Err r) = Failed (fewest_checks c budget) r

-- `place_fewest`
abbrev pub place_fewest_call : Call
place_fewest_call = record {
  Input = Case × ℕ;
  Lent = Unit {0};
  Reply = Result ℕ Refusal;
  promise = λ (c, budget) before after r. FewestReply c budget r;
  checks = λ (c, budget) lent. fewest_checks c budget;
  refuses = Refuses Err;
}
