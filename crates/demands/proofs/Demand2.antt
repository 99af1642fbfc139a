-- Demand 2, over the promises of the calls. An accepted list names buses 1 to n, each once, so that it has at most n steps.
use Rattle.std.specs.Prelude.{Result, Ok, Err}
use mathlib.Core.Path.{◌≡◌, refl, sym, ap, ◌∙◌, subst, subst⁻¹}
use mathlib.Core.List.{List, [], ◌∷◌}
use mathlib.Core.Logic.{inl, inr}
use Prim.Native.Nat.{ℕ, suc, ◌≤◌}
use native.Mathlib.Omega.{arith}
use lib.ListN.{length, take, drop}
use lib.Seq.{take-append_seam}
use Rattle.busset.specs.Sets.{Within, empty, add, set_of}
use Rattle.busset.specs.Held.{SetWord}
use Rattle.busset.proofs.Sizes.{size-most}
use Rattle.busset.proofs.Words.{all_law}
use Rattle.step.specs.declared.Step.{Step}
use Rattle.rules.specs.Grids.{Proper}
use Rattle.rules.specs.Observation.{ObservedSet}
use Rattle.rules.specs.Steps.{AcceptedFrom, reached, Accepted}
use Rattle.rules.specs.Placing as placing
use Rattle.rules.proofs.Reasons.{allowed-names}
use Rattle.rules.proofs.Leasts.{all_closed}
use Rattle.rules.proofs.Lists.{accepted-inside, accepted_length, finished_length}
use Rattle.grid.specs.declared.Case.{Case}
use Rattle.refusals.specs.declared.Refusal.{Refusal}
use Rattle.grid.specs.Limits.{most_steps, most_budget}
use Rattle.grid.specs.Cases.{grid_of, Valid}
use Rattle.refusals.specs.Refusals.{Is, Passed, Failed}
use Rattle.refusals.proofs.Orders.{failed_or_passed}
use Rattle.list_follow.specs.Following.{checks_from}
use Rattle.list_follow.specs.Replies.{replay_checks, ReplayReply}
use Rattle.list_follow.specs.declared.Task.TheVariants.{Replay}
use Rattle.list_follow.specs.declared.Replayed.{Replayed}
use Rattle.case_line.specs.CaseText.{case_text}
use Rattle.case_inverse.proofs.Inverse as inverse
use Rattle.observe_calls.specs.Replies.{observed_checks, ObservedReply}
use Rattle.place_calls.specs.Replies.{fewest_checks, FewestReply}
use Rattle.text_calls.specs.Replies.{CaseReadReply, CaseWrittenReply}
use Rattle.refusals.specs.Calls.{Refuses}
use Rattle.demands.specs.Demand2.{AcceptedExactly, TooSmallExactly, Demand2}

-- ---- the observed set

observed-least : (c : Case) (r : Result SetWord Refusal) → Valid c → ObservedReply c r
    → (set : SetWord) × (r ≡ Ok set) × ObservedSet (grid_of c) (set_of set)
observed-least c (Ok s) v p = (s, refl, p.1)
observed-least c (Err q) v p = absurd (failed_or_passed (observed_checks c) q p (v, tt))

-- ---- a list is accepted exactly when each step is allowed where it stands

-- steps that are allowed where they stand pass replay's checks, and those that pass are allowed
pub accepted-checks : (c : Case) → Proper (grid_of c) → (k s : ℕ) (xs : List Step) → AcceptedFrom (grid_of c) s xs
    → Passed (checks_from Replay c k s xs)
accepted-checks c v k s [] a = tt
accepted-checks c v k s (x ∷ xs) a =
    (allowed-names v a.0, (a.0.new, (a.0.holds, accepted-checks c v (suc k) (add s x.bus) xs a.1)))

checks-accepted : (c : Case) (k s : ℕ) (xs : List Step) → Passed (checks_from Replay c k s xs) → AcceptedFrom (grid_of c) s xs
checks-accepted c k s [] p = tt
checks-accepted c k s (x ∷ xs) p =
    (record { new = p.1.0; holds = p.1.1.0 }, checks-accepted c (suc k) (add s x.bus) xs p.1.1.1)

-- it has at most n steps
accepted-few : (c : Case) (xs : List Step) → Valid c → Accepted (grid_of c) xs → length xs ≤ most_steps
accepted-few c xs v a = omega (arith, accepted_length (grid_of c) xs a, size-most c.n (reached xs) buses, v.buses.most)
  where
    buses : Within c.n (reached xs)
    buses b h = (all_law c.n).only b (omega (arith, h, accepted-inside (grid_of c) _ xs (all_closed v.proper (all_law c.n)) a b))

-- what replay reaches is accepted
replay-accepts : (c : Case) (xs : List Step) (r : Replayed) → ReplayReply c xs (Ok r) → Accepted (grid_of c) xs
replay-accepts c xs r p = checks-accepted c 1 empty xs p.0.1.1

-- and what is accepted, of a valid case, replay does not refuse
accepted_replays : (c : Case) (xs : List Step) (r : Result Replayed Refusal) → Valid c → Accepted (grid_of c) xs → ReplayReply c xs r
    → (s : Replayed) × (r ≡ Ok s)
accepted_replays c xs (Ok s) v a p = (s, refl)
accepted_replays c xs (Err q) v a p =
    absurd (failed_or_passed (replay_checks c xs) q p (v, (accepted-few c xs v a, accepted-checks c v.proper 1 empty xs a)))

replay_exact : (c : Case) (xs : List Step) (r : Result Replayed Refusal) → Valid c → ReplayReply c xs r → AcceptedExactly (grid_of c) xs r
replay_exact c xs r v p = record {
  taken = λ s e. replay-accepts c xs s (subst (ReplayReply c xs) e p);
  reaches = λ a. accepted_replays c xs r v a p;
}

-- ---- the fewest

refused_none : (c : Case) (budget : ℕ) (q : Refusal) → Valid c → budget ≤ most_budget c.n → Failed (fewest_checks c budget) q
    → Is 11 0 q × (placing.SomeAddition (grid_of c) budget → ⊥)
refused_none c budget q v l (inl a) = absurd (a.0 v)
refused_none c budget q v l (inr (_, inl a)) = absurd (a.0 l)
refused_none c budget q v l (inr (_, inr (_, inl a))) = (a.1, a.0)
refused_none c budget q v l (inr (_, inr (_, inr (_, a)))) = absurd a

none-refused : (c : Case) (budget : ℕ) (r : Result SetWord Refusal) → Valid c → budget ≤ most_budget c.n → FewestReply c budget r
    → (placing.SomeAddition (grid_of c) budget → ⊥) → Refuses Err r 11 0
none-refused c budget (Ok m) v l p n = absurd (n p.0.1.1.0)
none-refused c budget (Err q) v l p n = (q, refl, (refused_none c budget q v l p).0)

too_small : (c : Case) (budget : ℕ) (r : Result SetWord Refusal) → Valid c → budget ≤ most_budget c.n → FewestReply c budget r
    → TooSmallExactly (grid_of c) budget r
too_small c budget r v l p =
    record { due = none-refused c budget r v l p; given = λ q e. refused_none c budget q v l (subst (FewestReply c budget) e p) }

-- ---- case texts

-- the bytes written are the case's text
written-text : (c : Case) (lent left : List ℕ) (count : ℕ) → CaseWrittenReply c lent (Ok count) left
    → take count left ≡ case_text c
written-text c lent left count p =
    let t = case_text c in
    ap (λ (k : ℕ). take k left) p.1 ∙ ap (take (length t)) p.2 ∙ take-append_seam t (drop (length t) lent)

-- ---- the demand

pub demand_2 : Demand2
demand_2 = record {
  observed = observed-least;
  accepted = replay_exact;
  finished_length = finished_length;
  fewest = λ c budget sites p. p.1;
  too_small = too_small;
  read_back = λ c lent left count z p.
      let e = sym (inverse.read-written c z p.0.0) in
      subst⁻¹ (λ (t : List ℕ). CaseReadReply t (Ok c)) (written-text c lent left count p) e;
  written_back = λ c text lent left count r p. written-text c lent left count p ∙ sym (inverse.written-text text c (sym r));
}
