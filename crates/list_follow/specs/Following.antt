-- Following a list: what is checked of it, and where it is after each of its steps.
use Rattle.std.specs.Prelude.{◌≡◌, List, [], ◌∷◌, ◌++◌, ℕ, suc, ◌≤◌, length, Result, Ok, Err}
use Rattle.busset.specs.Sets.{Out, empty, add, set_of}
use Rattle.step.specs.declared.Step.{Step}
use Rattle.rules.specs.Steps.{Holds, Names, reached}
use Rattle.grid.specs.declared.Case.{Case}
use Rattle.grid.specs.Limits.{most_steps}
use Rattle.grid.specs.Cases.{grid_of, Valid}
use Rattle.refusals.specs.declared.Refusal.{Refusal}
use Rattle.refusals.specs.declared.Refusal.TheVariants.{AlreadyObserved}
use Rattle.refusals.specs.Refusals.{Check, check_that, CheckedBy}
use Rattle.observe.specs.Testing.{step_checks_at}
use Rattle.list_follow.specs.declared.Task.{Task}
use Rattle.list_follow.specs.declared.Task.TheVariants.{Replay, Weave}
use Rattle.list_follow.specs.declared.Following.{Following}

-- ---- what is checked

-- of step k, where s is observed: replay asks the single-step test; weaving passes over an observed bus, with 7 alone
abbrev pub checks_at : Task → Case → ℕ → ℕ → Step → List Check
checks_at Replay c k s x = step_checks_at (grid_of c) k s x
checks_at Weave c k s x = check_that (Names c.n x) 7 k ∷ check_that (Out s x.bus → Holds (grid_of c) s x.bus x.reason) 9 k ∷ []

-- of the steps from step k on, each where those before it lead
abbrev pub checks_from : Task → Case → ℕ → ℕ → List Step → List Check
checks_from task c k s [] = []
checks_from task c k s (x ∷ xs) = checks_at task c k s x ++ checks_from task c (suc k) (add s x.bus) xs

-- of a list of `count` steps before its first: 5, then 12
abbrev pub begin_checks : Case → ℕ → List Check
begin_checks c count = check_that (Valid c) 5 0 ∷ check_that (count ≤ most_steps) 12 0 ∷ []

-- of a list of `count` steps, as far as its steps xs
abbrev pub list_checks : Task → Case → ℕ → List Step → List Check
list_checks task c count xs = begin_checks c count ++ checks_from task c 1 empty xs

-- ---- where a list is

-- what st carries of the steps xs, if none was bad: the set that they reach and their number
pub record Carries (xs : List Step) (st : Following) : Type 0 where
  pub set : set_of st.set ≡ reached xs
  pub read : st.read ≡ length xs

-- st is where a list of `count` steps is after its steps xs
pub record StandsAfter (c : Case) (task : Task) (count : ℕ) (xs : List Step) (st : Following) : Type 0 where
  pub is_task : st.task ≡ task
  pub standing : CheckedBy (list_checks task c count xs) st.standing
  pub carries : st.standing ≡ Ok tt → Carries xs st

-- the steps xs lead from st to r: if st is after the steps ys of a list, r is after xs too
pub record Follows (c : Case) (st : Following) (xs : List Step) (r : Following) : Type 0 where
  pub leads : (task : Task) (count : ℕ) (ys : List Step) → length (ys ++ xs) ≤ count → StandsAfter c task count ys st
      → StandsAfter c task count (ys ++ xs) r

-- where a step that the test refuses leaves a list: weaving passes over an observed bus
abbrev pub after_refusal : Task → Refusal → Result (Unit {0}) Refusal
after_refusal Weave (AlreadyObserved k) = Ok tt
after_refusal task q = Err q
