-- The call's own contract is its promise: it asks nothing of the caller, and what it says of a reply entails what the promise says.
use Rattle.refusals.specs.declared.Refusal.{Refusal}
use Rattle.std.specs.Prelude.{Result}
use mathlib.Core.List.{List}
use Prim.Native.Nat.{ℕ}
use base.Logic.{ent, emp, id⊢}
use contract.Monad.{fact}
use contract.Lifetimes.{Lfts}
use Rattle.std.specs.Borrow.{Bor, MutBor}
use denote.Triple.Entry.{Args}
use denote.Triple.Clauses.{ClausesAt}
use borrow.Fn.World.{World}
use Rattle.step.specs.declared.Step.{Step}
use Rattle.step_text.specs.Taking.{read_steps_call}
use Rattle.step_records.specs.contracts.read_steps as read-steps

-- the contract's clauses for these arguments, in a model
abbrev read-steps-says : (w : World) (κs : Lfts 2) → Args read-steps.signature κs → ClausesAt w.𝓤 read-steps.ended κs
read-steps-says w = read-steps.clauses w.𝓛 w.𝓜.mem w.𝓡.run

pub read-steps-promised : (w : World) (κs : Lfts 2) (text : Bor (List ℕ)) (out : MutBor (List Step)) →
    let says = read-steps-says w κs (text, (out, tt)) in
    ent w.𝓤 (emp w.𝓤) (says.requires tt)
    × ((r : Result ℕ Refusal) (left : MutBor (List Step)) → ent w.𝓤 (says.ensures tt r (text, (left, tt)))
    (fact w.𝓤 (read_steps_call.promise text.now out.now left.now r)))
read-steps-promised w κs text out = (id⊢ w.𝓤 _, λ r left. id⊢ w.𝓤 _)
