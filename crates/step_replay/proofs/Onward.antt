-- Following a text's steps one after another: where the list is after those read, before those still to come.
use mathlib.Core.Path.{◌≡◌, sym, ap, ◌∙◌, subst}
use Rattle.std.specs.Prelude.{Err}
use mathlib.Core.List.{List, [], ◌∷◌, ◌++◌, append_assoc}
use Prim.Native.Nat.{ℕ, ◌≤◌}
use native.Mathlib.Omega.{arith}
use lib.ListN.{length, length-append}
use Rattle.step.specs.declared.Step.{Step}
use Rattle.grid.specs.declared.Case.{Case}
use Rattle.list_follow.specs.Following.{StandsAfter, Follows}
use Rattle.list_follow.specs.declared.Following.{Following}
use Rattle.list_follow.specs.declared.Task.TheVariants.{Replay}
use Rattle.step_text.specs.Steps.{steps_from, steps_of, StepHere}
use Rattle.refusals.specs.declared.Refusal.{Refusal}
use Rattle.list_follow.proofs.Going.{bad-stays}
use Rattle.step_text.proofs.Found.{steps-count}

-- the list is at st after the steps before index at, and those from there on are still to come
pub record Onward (c : Case) (text : List ℕ) (n : ℕ) (st : Following) (at : ℕ) : Type 0 where
  pub high : at ≤ length text
  pub sofar : List Step
  pub all : sofar ++ steps_from text at ≡ steps_of text
  pub after : StandsAfter c Replay n sofar st

pub onward_more : {c : Case} {text : List ℕ} {n : ℕ} {st r : Following} {at e : ℕ} {x : Step} → length (steps_of text) ≡ n
    → Onward c text n st at → StepHere text at x e → Follows c st (x ∷ []) r → Onward c text n r e
onward_more {text = text} {e = e} {x} l o h f =
    let all : (o.sofar ++ (x ∷ [])) ++ steps_from text e ≡ steps_of text =
    append_assoc o.sofar (x ∷ []) (steps_from text e) ∙ ap (λ (l : List Step). o.sofar ++ l) (sym h.steps) ∙ o.all in
    record {
      high = h.high;
      sofar = o.sofar ++ (x ∷ []);
      all = all;
      after =
          f.leads Replay _ o.sofar (omega (arith, l, ap length all, length-append (o.sofar ++ (x ∷ [])) (steps_from text e)))
          o.after;
    }

-- after a bad step the others change nothing
pub onward_bad : {c : Case} {text : List ℕ} {n : ℕ} {st : Following} {at : ℕ} {q : Refusal} → length (steps_of text) ≡ n
    → Onward c text n st at → st.standing ≡ Err q → StandsAfter c Replay n (steps_of text) st
onward_bad {c = c} {text = text} {n = n} {st = st} {at = at} l o e =
    subst (λ (xs : List Step). StandsAfter c Replay n xs st) o.all
    ((bad-stays (steps_from text at) e).leads Replay n o.sofar (omega (arith, l, ap length o.all)) o.after)

-- what the search takes where a text's steps are followed
pub ruleset replaying = (onward_more, steps-count)
