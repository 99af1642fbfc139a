-- Each call's own contract is its promise: it asks nothing of the caller, and what it says of a reply entails what the promise says.
use Rattle.refusals.specs.declared.Refusal.{Refusal}
use Rattle.std.specs.Prelude.{Result}
use mathlib.Core.List.{List}
use base.Logic.{ent, emp, id⊢}
use contract.Monad.{fact}
use contract.Lifetimes.{Lfts}
use Rattle.std.specs.Borrow.{Bor, MutBor}
use denote.Triple.Entry.{Args}
use denote.Triple.Clauses.{ClausesAt}
use borrow.Fn.World.{World}
use Rattle.step.specs.declared.Step.{Step}
use Rattle.grid.specs.declared.Case.{Case}
use Rattle.list_follow.specs.declared.Replayed.{Replayed}
use Rattle.list_follow.specs.declared.Wove.{Wove}
use Rattle.list_follow.specs.Replies.{replay_call, weave_call}
use Rattle.list_calls.specs.contracts.replay as replay
use Rattle.list_calls.specs.contracts.weave as weave

-- a contract's clauses for these arguments, in a model
abbrev replay-says : (w : World) (κs : Lfts 1) → Args replay.signature κs → ClausesAt w.𝓤 replay.ended κs
replay-says w = replay.clauses w.𝓛 w.𝓜.mem w.𝓡.run

abbrev weave-says : (w : World) (κs : Lfts 2) → Args weave.signature κs → ClausesAt w.𝓤 weave.ended κs
weave-says w = weave.clauses w.𝓛 w.𝓜.mem w.𝓡.run

pub replay-promised : (w : World) (κs : Lfts 1) (c : Case) (steps : Bor (List Step)) →
    let says = replay-says w κs (c, (steps, tt)) in
    ent w.𝓤 (emp w.𝓤) (says.requires tt)
    × ((r : Result Replayed Refusal) → ent w.𝓤 (says.ensures tt r (c, (steps, tt))) (fact w.𝓤 (replay_call.promise (c, steps.now) tt tt r)))
replay-promised w κs c steps = (id⊢ w.𝓤 _, λ r. id⊢ w.𝓤 _)

pub weave-promised : (w : World) (κs : Lfts 2) (c : Case) (steps : Bor (List Step)) (out : MutBor (List Step)) →
    let says = weave-says w κs (c, (steps, (out, tt))) in
    ent w.𝓤 (emp w.𝓤) (says.requires tt)
    × ((r : Result Wove Refusal) (left : MutBor (List Step)) → ent w.𝓤 (says.ensures tt r (c, (steps, (left, tt))))
    (fact w.𝓤 (weave_call.promise (c, steps.now) out.now left.now r)))
weave-promised w κs c steps out = (id⊢ w.𝓤 _, λ r left. id⊢ w.𝓤 _)
