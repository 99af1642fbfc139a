-- What document 01 says besides the demands, of the replies that the promises allow.
use Rattle.std.specs.Prelude.{◌≡◌, List, ℕ, ◌-◌, ◌≤◌, ℤ, pos, length, Ok}
use Rattle.basics.specs.Lists.{Each}
use Rattle.busset.specs.Sets.{In, empty}
use Rattle.busset.specs.Held.{SetWord}
use Rattle.rules.specs.Grids.{Grid}
use Rattle.rules.specs.Observation.{AllBut, ObservedSet}
use Rattle.rules.specs.Steps.{Names}
use Rattle.rules.specs.Figures.{Runs}
use Rattle.grid.specs.declared.Case.{Case}
use Rattle.grid.specs.Limits.{most_buses, most_steps, most_bytes}
use Rattle.grid.specs.Cases.{grid_of, Sized, Valid}
use Rattle.case_line.specs.CaseText.{case_text}
use Rattle.step_text.specs.Steps.{steps_of}
use Rattle.observe_calls.specs.Replies.{stated, FigureReply}
use Rattle.text_calls.specs.Replies.{CaseReadReply, StepsCheckedReply}
use Rattle.refusals.specs.Calls.{Call}
use Rattle.demands.specs.Calls.{estimator_calls}

-- the figure of i towards j, where s is observed, is 1 exactly when i and all its other neighbours are observed
pub record OneExactly (g : Grid) (s i j : ℕ) (figure : ℤ) : Type 0 where
  pub observed : figure ≡ pos 1 → In s i × AllBut (g.neighbours i) j s
  pub one : In s i → AllBut (g.neighbours i) j s → figure ≡ pos 1

-- no reply that the call's promise allows is the refusal with this number and this place
abbrev pub NeverGives : ℕ → ℕ → Call → Type 0
NeverGives number place call =
    (input : call.Input) (before after : call.Lent) (reply : call.Reply) → call.promise input before after reply
    → call.refuses reply number place → ⊥

-- the call never gives 5, or 12 at place 0: a case that is read is valid, and a step text is refused at its 1,025th step
pub record NoFiveOrTwelve (call : Call) : Type 0 where
  pub five : (place : ℕ) → NeverGives 5 place call
  pub twelve : NeverGives 12 0 call

pub record Document01 : Type 0 where
  -- with no units the observed set is empty
  pub least-empty : (g : Grid) → g.units ≡ empty → ObservedSet g empty
  -- the firing figure runs from -62 to 1
  pub figure_range : (c : Case) (s : SetWord) (i j : ℕ) (z : ℤ) → FigureReply c s i j (Ok z) → Runs (most_buses - 2) z
  -- it is 1 exactly when i and all its other neighbours are observed
  pub figure_usable : (c : Case) (s : SetWord) (i j : ℕ) (z : ℤ) → FigureReply c s i j (Ok z)
      → OneExactly (grid_of c) (stated c s) i j z
  -- two different texts never give the same case
  pub one-text : (x y : List ℕ) (c : Case) → CaseReadReply x (Ok c) → CaseReadReply y (Ok c) → x ≡ y
  -- a case that is read is valid: 5 does not refuse it
  pub read-valid : (text : List ℕ) (c : Case) → CaseReadReply text (Ok c) → Valid c
  -- the text of a valid case is within the byte limit
  pub text-within : (c : Case) → Valid c → length (case_text c) ≤ most_bytes
  -- it is read as that case
  pub written_then_read : (c : Case) → Sized c → Valid c → CaseReadReply (case_text c) (Ok c)
  -- a text that is read as a case is the text of that case
  pub read_then_written : (text : List ℕ) (c : Case) → CaseReadReply text (Ok c) → text ≡ case_text c
  -- a step text that is found good has as many steps as is answered, at most 1,024, each with numbers 1 to 64
  pub steps_counted : (text : List ℕ) (count : ℕ) → StepsCheckedReply text (Ok count) → length (steps_of text) ≡ count
  pub steps_few : (text : List ℕ) (count : ℕ) → StepsCheckedReply text (Ok count) → count ≤ most_steps
  pub steps_named : (text : List ℕ) (count : ℕ) → StepsCheckedReply text (Ok count) → Each (Names most_buses) (steps_of text)
  -- no result of the state estimator's calls is 5, or 12 at place 0
  pub estimator : Each NoFiveOrTwelve estimator_calls
