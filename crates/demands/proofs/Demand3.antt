-- Demand 3, over weaving's promise.
use Rattle.refusals.specs.declared.Refusal.{Refusal}
use Rattle.std.specs.Prelude.{Result, Ok, Err}
use mathlib.Core.Path.{◌≡◌, refl, sym, ap, ◌∙◌, subst, subst⁻¹}
use mathlib.Core.List.{List, [], ◌∷◌, ◌++◌}
use Prim.Native.Nat.{ℕ, suc, ◌≤◌}
use lib.ListN.{length}
use Rattle.busset.specs.Sets.{In, empty, add, size, set_of}
use Rattle.step.specs.declared.Step.{Step}
use Rattle.rules.specs.Grids.{Proper}
use Rattle.rules.specs.Observation.{ObservedSet}
use Rattle.rules.specs.Steps.{Names, reached, Accepted}
use Rattle.basics.specs.Lists.{Each}
use Rattle.rules.specs.Weaving.{WeavableFrom, woven}
use Rattle.rules.proofs.Lists.{accepted-names}
use Rattle.rules.proofs.Shuffles.{Woven as Weaving, shuffle_each, weaving_shuffles}
use Rattle.grid.specs.declared.Case.{Case}
use Rattle.grid.specs.Cases.{grid_of}
use Rattle.refusals.specs.Refusals.{Check, check_that, Passed}
use Rattle.refusals.proofs.Orders.{failed_or_passed}
use Rattle.list_follow.specs.Following.{checks_from}
use Rattle.list_follow.specs.Replies.{weave_checks, WeaveReply}
use Rattle.list_follow.specs.declared.Task.TheVariants.{Weave}
use Rattle.list_follow.specs.declared.Wove.{Wove}
use Rattle.demands.specs.Demand3.{Received, Weaves, Demand3}

weavable-checks : (c : Case) (k s : ℕ) (xs : List Step) (rest : List Check) → Each (Names c.n) xs → WeavableFrom (grid_of c) s xs
    → Passed rest → Passed (checks_from Weave c k s xs ++ rest)
weavable-checks c k s [] rest n w p = p
weavable-checks c k s (x ∷ xs) rest n w p = (n.0, (w.0, weavable-checks c (suc k) (add s x.bus) xs rest n.1 w.1 p))

each-names : (c : Case) → Proper (grid_of c) → (desks : List (List Step)) → Each (Accepted (grid_of c)) desks
    → Each (Each (Names c.n)) desks
each-names c v [] a = tt
each-names c v (xs ∷ desks) a = (accepted-names v empty xs a.0, each-names c v desks a.1)

weaves : (c : Case) (desks : List (List Step)) (received before after : List Step) (r : Result Wove Refusal)
    → Received c desks received before → WeaveReply c received before after r → Weaves c desks received before after r
weaves c desks received before after (Err q) i p =
    absurd (failed_or_passed (weave_checks c received (length before)) q p.0 (i.valid, (i.few, steps)))
  where
    w : Weaving (grid_of c) desks received
    w = weaving_shuffles (grid_of c) desks received i.alone i.shuffled

    last : List Check
    last = check_that (length (woven received) ≤ length before) 6 0 ∷ []

    names : Each (Names c.n) received
    names = shuffle_each (Names c.n) i.shuffled (each-names c i.valid.proper desks i.alone)

    steps : Passed (checks_from Weave c 1 empty received ++ last)
    steps = weavable-checks c 1 empty received last names w.weavable (i.room, tt)
weaves c desks received before after (Ok r) i p = record {
  count = r.count;
  set = r.set;
  answers = refl;
  records = p.3;
  accepted = w.accepted;
  counted = p.1;
  reaches = same;
  all = λ b h. subst⁻¹ (λ (t : ℕ). In t b) same (w.all b h);
  only = λ b h. w.only b (subst (λ (t : ℕ). In t b) same h);
  each_once = p.1 ∙ w.each_once ∙ ap size (sym same);
  least = λ f. subst⁻¹ (ObservedSet (grid_of c)) same (w.least f);
}
  where
    w : Weaving (grid_of c) desks received
    w = weaving_shuffles (grid_of c) desks received i.alone i.shuffled

    same : set_of r.set ≡ reached (woven received)
    same = p.2

pub demand_3 : Demand3
demand_3 = record { weaves = weaves }
