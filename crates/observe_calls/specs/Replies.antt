-- What each public call promises: what it checks, in order, and what it answers where every check passes.
use Rattle.refusals.specs.declared.Refusal.{Refusal}
use Rattle.std.specs.Prelude.{◌≡◌, List, [], ◌∷◌, ℕ, ℤ, Result, Ok, Err}
use Rattle.busset.specs.Sets.{Bus, In, up_to, set_of}
use Rattle.busset.specs.Held.{SetWord, IsWord}
use Rattle.step.specs.declared.Step.{Step}
use Rattle.rules.specs.Observation.{ObservedSet}
use Rattle.rules.specs.Figures.{figure}
use Rattle.grid.specs.declared.Case.{Case}
use Rattle.grid.specs.Cases.{grid_of, Valid}
use Rattle.refusals.specs.Refusals.{Check, check_that, Passed, Failed, CheckedBy}
use Rattle.refusals.specs.Calls.{Call, Refuses}
use Rattle.observe.specs.Testing.{step_checks_at}

-- the buses of the grid in a stated set: those above n are ignored
abbrev pub stated : Case → SetWord → ℕ
stated c s = up_to c.n (set_of s)

-- ---- the observed set

-- the case is valid, or 5
abbrev pub observed_checks : Case → List Check
observed_checks c = check_that (Valid c) 5 0 ∷ []

-- the word of the least set that satisfies both rules
abbrev pub ObservedReply : Case → Result ℕ Refusal → Type 0
ObservedReply c (Ok s) = Passed (observed_checks c) × ObservedSet (grid_of c) (set_of s) × IsWord s
ObservedReply c (Err r) = Failed (observed_checks c) r

-- `observed_set`
abbrev pub observed_set_call : Call
observed_set_call = record {
  Input = Case;
  Lent = Unit {0};
  Reply = Result ℕ Refusal;
  promise = λ c before after r. ObservedReply c r;
  checks = λ c lent. observed_checks c;
  refuses = Refuses Err;
}

-- ---- the firing figure of bus i towards j

-- 5; i and j are 1 to n, or 7; they are joined, or 13
abbrev pub figure_checks : Case → ℕ → ℕ → List Check
figure_checks c i j =
    check_that (Valid c) 5 0 ∷ check_that (Bus c.n i × Bus c.n j) 7 0 ∷ check_that (In ((grid_of c).neighbours i) j) 13 0 ∷ []

-- the figure in the stated set
abbrev pub FigureReply : Case → SetWord → ℕ → ℕ → Result ℤ Refusal → Type 0
FigureReply c s i j (Ok z) = Passed (figure_checks c i j) × (z ≡ figure (grid_of c).neighbours (stated c s) i j)
FigureReply c s i j (Err r) = Failed (figure_checks c i j) r

-- `firing_figure`
abbrev pub firing_figure_call : Call
firing_figure_call = record {
  Input = Case × SetWord × ℕ × ℕ;
  Lent = Unit {0};
  Reply = Result ℤ Refusal;
  promise = λ (c, s, i, j) before after r. FigureReply c s i j r;
  checks = λ (c, s, i, j) lent. figure_checks c i j;
  refuses = Refuses Err;
}

-- ---- the test of one step, which is step 1

-- 5, then 7, 8, 9 in the stated set
abbrev pub step_checks : Case → SetWord → Step → List Check
step_checks c s x = check_that (Valid c) 5 0 ∷ step_checks_at (grid_of c) 1 (stated c s) x

-- the step is allowed, or refused
abbrev pub StepReply : Case → SetWord → Step → Result (Unit {0}) Refusal → Type 0
StepReply c s x r = CheckedBy (step_checks c s x) r

-- `test_step`
abbrev pub test_step_call : Call
test_step_call = record {
  Input = Case × SetWord × Step;
  Lent = Unit {0};
  Reply = Result (Unit {0}) Refusal;
  promise = λ (c, s, x) before after r. StepReply c s x r;
  checks = λ (c, s, x) lent. step_checks c s x;
  refuses = Refuses Err;
}
