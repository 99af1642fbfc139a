-- What replay and weaving promise.
use Rattle.refusals.specs.declared.Refusal.{Refusal}
use Rattle.std.specs.Prelude.{◌≡◌, List, [], ◌∷◌, ◌++◌, cond, ℕ, ◌≤◌, ◌<◌, leb, length, take, Result, Ok, Err}
use Rattle.basics.specs.Deciding.{Decides}
use Rattle.basics.specs.Lists.{Each}
use Rattle.busset.specs.Sets.{Bus, width, size, set_of}
use Rattle.busset.specs.Held.{IsWord}
use Rattle.step.specs.Records.{written_into}
use Rattle.step.specs.declared.Step.{Step}
use Rattle.rules.specs.Steps.{reached, Finished}
use Rattle.rules.specs.Weaving.{woven}
use Rattle.grid.specs.declared.Case.{Case}
use Rattle.grid.specs.Cases.{grid_of}
use Rattle.refusals.specs.declared.Refusal.TheVariants.{NoRoom}
use Rattle.refusals.specs.Refusals.{Check, check_that, Passed, Failed}
use Rattle.refusals.specs.Calls.{Call, Refuses}
use Rattle.list_follow.specs.Following.{list_checks, StandsAfter}
use Rattle.list_follow.specs.declared.Task.TheVariants.{Replay, Weave}
use Rattle.list_follow.specs.declared.Following.{Following}
use Rattle.list_follow.specs.declared.Replayed.{Replayed}
use Rattle.list_follow.specs.declared.Wove.{Wove}

-- ---- replay

-- 5, 12, then 7, 8, 9 at the first bad step
abbrev pub replay_checks : Case → List Step → List Check
replay_checks c xs = list_checks Replay c (length xs) xs

-- the word of the set reached, and whether the list is finished; or the first bad step
abbrev pub ReplayReply : Case → List Step → Result Replayed Refusal → Type 0
ReplayReply c xs (Ok r) =
    Passed (replay_checks c xs) × (set_of r.set ≡ reached xs) × Decides (Finished (grid_of c) (reached xs)) r.finished × IsWord r.set
ReplayReply c xs (Err q) = Failed (replay_checks c xs) q

-- `replay`
abbrev pub replay_call : Call
replay_call = record {
  Input = Case × List Step;
  Lent = Unit {0};
  Reply = Result Replayed Refusal;
  promise = λ (c, xs) before after r. ReplayReply c xs r;
  checks = λ (c, xs) lent. replay_checks c xs;
  refuses = Refuses Err;
}

-- ---- weaving, into records that hold `before` and then `after`

-- 5, 12, then 7, 9 at the first bad step, then 6
abbrev pub weave_checks : Case → List Step → ℕ → List Check
weave_checks c xs room = list_checks Weave c (length xs) xs ++ (check_that (length (woven xs) ≤ room) 6 0 ∷ [])

-- the count written and the word of the set that what is written reaches; a refusal leaves every record as it was
abbrev pub WeaveReply : Case → List Step → List Step → List Step → Result Wove Refusal → Type 0
WeaveReply c xs before after (Ok w) =
    Passed (weave_checks c xs (length before)) × (w.count ≡ length (woven xs)) × (set_of w.set ≡ reached (woven xs))
    × (after ≡ written_into (woven xs) before) × IsWord w.set
WeaveReply c xs before after (Err q) = Failed (weave_checks c xs (length before)) q × (after ≡ before)

-- `weave`
abbrev pub weave_call : Call
weave_call = record {
  Input = Case × List Step;
  Lent = List Step;
  Reply = Result Wove Refusal;
  promise = λ (c, xs) before after r. WeaveReply c xs before after r;
  checks = λ (c, xs) lent. weave_checks c xs (length lent);
  refuses = Refuses Err;
}

-- ---- on the way

-- r answers replay for any list that ends at st
abbrev pub AnswersReplay : Case → Following → Result Replayed Refusal → Type 0
AnswersReplay c st r = (xs : List Step) → StandsAfter c Replay (length xs) xs st → ReplayReply c xs r

-- weaving's answer where a list ended so and there are `room` records: one step for each bus reached is written, where they fit
abbrev pub wove_at : Following → ℕ → Result (Unit {0}) Refusal → Result Wove Refusal
wove_at st room (Ok u) =
    let count = size (set_of st.set) in
    cond (leb count room) (Ok (record { count = count; set = st.set })) (Err NoRoom)
wove_at st room (Err q) = Err q

-- the first m of the steps that weaving writes of xs can be put into the records that hold `before`
pub record CanPut (m : ℕ) (xs before : List Step) : Type 0 where
  pub buses : 0 < m → Each (λ x. Bus width x.bus) xs
  pub some : m ≤ length (woven xs)
  pub room : m ≤ length before

-- the records with the first m of the steps that weaving writes of xs
abbrev pub put_woven : ℕ → List Step → List Step → List Step
put_woven m xs before = written_into (take m (woven xs)) before
