-- Tests of reasons, of steps and of lists, which the checker computes: 0 where they pass.
-- One more reason adds a clause here, and to no other proof of the tables.
use Rattle.std.specs.Prelude.{Option, Some, None}
use Rattle.std.specs.Int.{abs_diff}
use mathlib.Core.Path.{◌≡◌, ap, ◌∙◌, subst, subst⁻¹}
use mathlib.Core.List.{List, [], ◌∷◌}
use mathlib.Core.Logic.{⊎_elim}
use Prim.Native.Nat.{ℕ, zero, suc, ◌+◌, ◌-◌, ◌≤◌, ◌<◌}
use native.Mathlib.Omega.{arith}
use Rattle.basics.proofs.Lacking.{Lacks}
use Rattle.list_derive.proofs.Nexting.{FailsBefore, fails-none, fails-alone, fails-named, none-holds, first_alone, first-named}
use Rattle.step.proofs.Reasons.{own_turn, neighbour-turn, zero_turn}
use Rattle.busset.specs.Sets.{Bus, bit, In, Out, Sub, Within, empty, add, lack, less, size}
use Rattle.basics.proofs.Tests.{same_or, below_or}
use Rattle.busset.proofs.Members.{in_or, less-here, less-there, less_sub}
use Rattle.step.specs.declared.Reason.{Reason}
use Rattle.step.specs.declared.Reason.TheVariants.{OwnUnit, NeighbourOf, ZeroInjection}
use Rattle.step.specs.declared.Step.{Step}
use Rattle.step.specs.Reasons.{named_by}
use Rattle.rules.specs.Grids.{Grid, Proper, total}
use Rattle.rules.specs.Observation.{ObservedSet}
use Rattle.rules.specs.Steps.{Holds, Allowed, BusIfNamed, Names, AcceptedFrom, reached, Finished}
use Rattle.rules.specs.Derivation.{TakenFirst, NextIs, DerivedFrom, finished, next}
use Rattle.rules.proofs.Firing.{others_in}
use Rattle.rules.proofs.Lists.{accepted-inside}
use Rattle.rules.proofs.Reasons.{holds-names, allowed-bus}
use Rattle.tables.proofs.Tests.{total-none, total_pass, pick, given, given_passes, sub_test, sub_passes}
use Rattle.tables.proofs.Tests.{bus_test, bus_passes, closed_test, closed_passes}

-- ---- the buses that a step names

-- what is named, if anything is, is a bus 1 to n
abbrev pub named_test : ℕ → Option ℕ → ℕ
named_test n None = 0
named_test n (Some b) = bus_test n b

-- the step, in its bus and its reason, names buses 1 to n
abbrev pub names_test : ℕ → Step → ℕ
names_test n x = bus_test n x.bus + named_test n (named_by x.reason)

pub names_pass : (n : ℕ) (x : Step) → names_test n x ≡ 0 → Names n x
names_pass n x e = record { bus = bus_passes n x.bus (omega arith); reason = go (named_by x.reason) (omega arith) }
  where
    go : (b : Option ℕ) → named_test n b ≡ 0 → BusIfNamed n b
    go None e = tt
    go (Some b) e = bus_passes n b e

-- ---- a reason, and a list of steps

-- the reason holds for bus b where s is observed
unfoldable pub holds_test : Grid → ℕ → ℕ → Reason → ℕ
holds_test g s b OwnUnit = 1 - bit g.units b
holds_test g s b (NeighbourOf p) = (1 - bit g.units p) + (1 - bit (g.neighbours p) b)
holds_test g s b (ZeroInjection w) =
    (1 - bit g.zeros w) + (1 - bit s w) + (1 - bit (g.neighbours w) b) + sub_test g.n (less (g.neighbours w) b) s

holds_passes : (g : Grid) (s b : ℕ) → Proper g → (r : Reason) → holds_test g s b r ≡ 0 → Holds g s b r
unfolding holds_test
holds_passes g s b v OwnUnit e = omega arith
holds_passes g s b v (NeighbourOf p) e = record { unit = omega arith; joined = omega arith }
holds_passes g s b v (ZeroInjection w) e = record {
  class = omega arith;
  observed = omega arith;
  joined = omega arith;
  others = λ a h ne.
      let m : In (less (g.neighbours w) b) a = omega (arith, less-there (g.neighbours w) b a ne) in
      omega (arith, sub_passes g.n (less (g.neighbours w) b) s within (omega arith) a);
}
  where
    within : Within g.n (less (g.neighbours w) b)
    within a h = (v.lines w a (omega (arith, less_sub (g.neighbours w) b a))).to

-- and the test passes wherever the reason holds
pub holds_tests : (g : Grid) (s b : ℕ) → Proper g → (r : Reason) → Holds g s b r → holds_test g s b r ≡ 0
unfolding holds_test sub_test
holds_tests g s b v OwnUnit h = omega arith
holds_tests g s b v (NeighbourOf p) h = omega (arith, h.unit, h.joined)
holds_tests g s b v (ZeroInjection w) h =
    omega (arith, h.class, h.observed, h.joined, total_pass g.n (λ a. bit (less (g.neighbours w) b) a - bit s a) known)
  where
    known : (a : ℕ) → bit (less (g.neighbours w) b) a - bit s a ≡ 0
    known a =
        ⊎_elim
        (λ (e : a ≡ b). subst⁻¹ (λ (x : ℕ). bit (less (g.neighbours w) b) x - bit s x ≡ 0) e
        (omega (arith, less-here (g.neighbours w) b)))
        (λ (ne : a ≡ b → ⊥). ⊎_elim
        (λ (p : In (g.neighbours w) a). omega (arith, h.others a p ne))
        (λ (p : Out (g.neighbours w) a). omega (arith, less-there (g.neighbours w) b a ne))
        (in_or (g.neighbours w) a))
        (same_or a b)

-- each step is allowed where it stands
unfoldable pub accepted_test : Grid → ℕ → List Step → ℕ
accepted_test g s [] = 0
accepted_test g s (x ∷ xs) = bit s x.bus + holds_test g s x.bus x.reason + accepted_test g (add s x.bus) xs

accepted_passes : (g : Grid) (s : ℕ) (xs : List Step) → Proper g → accepted_test g s xs ≡ 0 → AcceptedFrom g s xs
unfolding accepted_test
accepted_passes g s [] v e = tt
accepted_passes g s (x ∷ xs) v e = (
  record { new = omega arith; holds = holds_passes g s x.bus v x.reason (omega arith) },
  accepted_passes g (add s x.bus) xs v (omega arith),
)

-- ---- the observed set

-- s is the observed set, as the list xs derives it
unfoldable pub least_test : Grid → List Step → ℕ → ℕ
least_test g xs s = accepted_test g empty xs + abs_diff (reached xs) s + closed_test g s

pub least_passes : (g : Grid) (xs : List Step) (s : ℕ) → Proper g → least_test g xs s ≡ 0 → ObservedSet g s
unfolding least_test
least_passes g xs s v e = record {
  closed = closed_passes g s v (omega arith);
  least =
      λ t cl. subst (λ (r : ℕ). Sub r t) (omega arith)
      (accepted-inside g t xs cl (accepted_passes g empty xs v (omega arith)));
}

-- ---- a step that is allowed

-- the bus is not observed and the reason holds: of the neighbours of w, one alone is not observed
unfoldable pub reason_test : Grid → ℕ → ℕ → Reason → ℕ
reason_test g s b OwnUnit = 1 - bit g.units b
reason_test g s b (NeighbourOf p) = (1 - bit g.units p) + (1 - bit (g.neighbours p) b)
reason_test g s b (ZeroInjection w) =
    (1 - bit g.zeros w) + (1 - bit s w) + (1 - bit (g.neighbours w) b) + abs_diff (size (lack (g.neighbours w) s)) 1

unfoldable pub allowed_test : Grid → ℕ → Step → ℕ
allowed_test g s x = bit s x.bus + reason_test g s x.bus x.reason

reason_passes : (g : Grid) (s b : ℕ) (r : Reason) → Out s b → reason_test g s b r ≡ 0 → Holds g s b r
unfolding reason_test
reason_passes g s b OwnUnit o e = omega arith
reason_passes g s b (NeighbourOf p) o e = record { unit = omega arith; joined = omega arith }
reason_passes g s b (ZeroInjection w) o e = record {
  class = omega arith;
  observed = omega arith;
  joined = omega arith;
  others =
      others_in (g.neighbours w) s s b (omega arith) (λ a. omega arith) (omega arith) o;
}

pub allowed_passes : (g : Grid) (s : ℕ) (x : Step) → allowed_test g s x ≡ 0 → Allowed g s x
unfolding allowed_test
allowed_passes g s x e =
    let o : Out s x.bus = omega arith in record { new = o; holds = reason_passes g s x.bus x.reason o (omega arith) }

-- ---- steps that are not

-- no p below k, or no w, is a reason for b
unfoldable pub no_unit : Grid → ℕ → ℕ → ℕ → ℕ
no_unit g s b k = total k (λ p. 1 - holds_test g s b (NeighbourOf p))

unfoldable pub no_zero : Grid → ℕ → ℕ → ℕ → ℕ
no_zero g s b k = total k (λ w. 1 - holds_test g s b (ZeroInjection w))

-- no reason holds for b, unless it is observed
unfoldable pub no_reason : Grid → ℕ → ℕ → ℕ
no_reason g s b = given (1 - bit s b) ((1 - holds_test g s b OwnUnit) + no_unit g s b g.n + no_zero g s b g.n)

-- no reason that is taken before r holds for b
unfoldable pub no_sooner : Grid → ℕ → ℕ → Reason → ℕ
no_sooner g s b OwnUnit = 0
no_sooner g s b (NeighbourOf p) = (1 - holds_test g s b OwnUnit) + no_unit g s b (p - 1)
no_sooner g s b (ZeroInjection w) = (1 - holds_test g s b OwnUnit) + no_unit g s b g.n + no_zero g s b (w - 1)

unfoldable pub next_test : Grid → ℕ → Step → ℕ
next_test g s x = allowed_test g s x + total (x.bus - 1) (no_reason g s) + no_sooner g s x.bus x.reason

unfoldable pub derived_test : Grid → ℕ → List Step → ℕ
derived_test g s [] = total g.n (no_reason g s)
derived_test g s (x ∷ xs) = next_test g s x + derived_test g (add s x.bus) xs

-- a bus that is not below p
not_below : (p q : ℕ) → 1 ≤ q → (Bus (p - 1) q → ⊥) → p ≤ q
not_below p q l h = ⊎_elim (λ (m : q < p). absurd (h (record { some = l; most = omega arith }))) (λ (m : p ≤ q). m) (below_or q p)

module _ (g : Grid) (v : Proper g) where
  no-unit : (s b k p : ℕ) → no_unit g s b k ≡ 0 → Bus k p → Holds g s b (NeighbourOf p) → ⊥
  unfolding no_unit
  no-unit s b k p e h r =
      omega (arith, total-none k (λ p. 1 - holds_test g s b (NeighbourOf p)) e p h, holds_tests g s b v (NeighbourOf p) r)

  no_zero_lem : (s b k w : ℕ) → no_zero g s b k ≡ 0 → Bus k w → Holds g s b (ZeroInjection w) → ⊥
  unfolding no_zero
  no_zero_lem s b k w e h r =
      omega (arith, total-none k (λ w. 1 - holds_test g s b (ZeroInjection w)) e w h, holds_tests g s b v (ZeroInjection w) r)

  no_own : (s b : ℕ) → 1 - holds_test g s b OwnUnit ≡ 0 → Holds g s b OwnUnit → ⊥
  no_own s b e r = omega (arith, holds_tests g s b v OwnUnit r)

  -- the turns fail one after another
  own_fails : (s b : ℕ) → 1 - holds_test g s b OwnUnit ≡ 0 → FailsBefore g s b 1
  own_fails s b e = fails-alone own_turn (fails-none g s b) (no_own s b e)

  units_lack : (s b k : ℕ) → no_unit g s b (k - 1) ≡ 0 → Lacks (λ p. Holds g s b (NeighbourOf p)) k
  units_lack s b k e = record {
    below =
        λ p l h. no-unit s b (k - 1) p e
        (let n = (holds-names g s b v (NeighbourOf p) h).some in record { some = n; most = omega arith }) h;
  }

  zeros_lack : (s b k : ℕ) → no_zero g s b (k - 1) ≡ 0 → Lacks (λ w. Holds g s b (ZeroInjection w)) k
  zeros_lack s b k e = record {
    below =
        λ w l h. no_zero_lem s b (k - 1) w e
        (let n = (holds-names g s b v (ZeroInjection w) h).some in record { some = n; most = omega arith }) h;
  }

  units_fail : (s b : ℕ) → FailsBefore g s b 1 → no_unit g s b g.n ≡ 0 → FailsBefore g s b 2
  units_fail s b f e =
      fails-named neighbour-turn v f (omega arith) (units_lack s b (g.n + 1) (ap (no_unit g s b) (omega arith) ∙ e))

  zeros_fail : (s b : ℕ) → FailsBefore g s b 2 → no_zero g s b g.n ≡ 0 → FailsBefore g s b 3
  zeros_fail s b f e = fails-named zero_turn v f (omega arith) (zeros_lack s b (g.n + 1) (ap (no_zero g s b) (omega arith) ∙ e))

  pub no-reason : (s b : ℕ) (r : Reason) → no_reason g s b ≡ 0 → Out s b → Holds g s b r → ⊥
  unfolding no_reason
  no-reason s b r e o =
      let z = given_passes (1 - bit s b) ((1 - holds_test g s b OwnUnit) + no_unit g s b g.n + no_zero g s b g.n) (omega arith) e in
      none-holds (zeros_fail s b (units_fail s b (own_fails s b (omega arith)) (omega arith)) (omega arith)) r

  finished_passes : (s : ℕ) → total g.n (no_reason g s) ≡ 0 → Finished g s
  finished_passes s e x a =
      no-reason s x.bus x.reason (total-none g.n (no_reason g s) e x.bus (allowed-bus v a)) a.new a.holds

  first_passes : (s b : ℕ) (r q : Reason) → no_sooner g s b r ≡ 0 → Holds g s b q → TakenFirst r q
  unfolding no_sooner
  first_passes s b OwnUnit q e = first_alone own_turn (fails-none g s b) q
  first_passes s b (NeighbourOf p) q e = first-named neighbour-turn (own_fails s b (omega arith)) (units_lack s b p (omega arith)) q
  first_passes s b (ZeroInjection w) q e =
      first-named zero_turn (units_fail s b (own_fails s b (omega arith)) (omega arith)) (zeros_lack s b w (omega arith)) q

  pub next_passes : (s : ℕ) (x : Step) → next_test g s x ≡ 0 → NextIs g s x
  unfolding next_test
  next_passes s x e = record {
    allowed = allowed_passes g s x (omega arith);
    lowest =
        λ y a. not_below x.bus y.bus (allowed-bus v a).some
        (λ l. no-reason s y.bus y.reason (total-none (x.bus - 1) (no_reason g s) (omega arith) y.bus l) a.new a.holds);
    first =
        λ y a q. let h : Holds g s x.bus y.reason =
        subst (λ (b : ℕ). Holds g s b y.reason) q a.holds in
        first_passes s x.bus x.reason y.reason (omega arith) h;
  }

  pub derived_passes : (s : ℕ) (xs : List Step) → derived_test g s xs ≡ 0 → DerivedFrom g s xs
  unfolding derived_test
  derived_passes s [] e = finished (finished_passes s e)
  derived_passes s (x ∷ xs) e = next (next_passes s x (omega arith)) (derived_passes (add s x.bus) xs (omega arith))

-- ---- a list that derives the observed set

-- the reason that holds for b: 0 none, 1 its own unit, 2 + 2 p a neighbour, 3 + 2 w a zero injection
unfoldable pub reason_for : Grid → ℕ → ℕ → ℕ → ℕ
reason_for g s b zero = 0
reason_for g s b (suc p) =
    pick (holds_test g s b (NeighbourOf (suc p))) (2 + (suc p + suc p))
    (pick (holds_test g s b (ZeroInjection (suc p))) (3 + (suc p + suc p)) (reason_for g s b p))

unfoldable pub reason_at : ℕ → ℕ → Reason
reason_at p zero = NeighbourOf p
reason_at p (suc zero) = ZeroInjection p
reason_at p (suc (suc d)) = reason_at (suc p) d

unfoldable pub step_for : ℕ → ℕ → List Step → List Step
step_for b zero xs = xs
step_for b (suc zero) xs = record { bus = b; reason = OwnUnit } ∷ xs
step_for b (suc (suc d)) xs = record { bus = b; reason = reason_at 0 d } ∷ xs

-- one pass over the buses b, from k of them left
unfoldable pub pass_from : Grid → ℕ → ℕ → ℕ → ℕ
pass_from g s b zero = 0
pass_from g s b (suc k) =
    pick (bit s b + given (holds_test g s b OwnUnit) (1 - reason_for g s b g.n)) b (pass_from g s (suc b) k)

-- the list that goes on with a step for b, if there is one
unfoldable pub extended : ℕ → ℕ → List Step → List Step
extended zero r xs = []
extended (suc i) r xs = step_for (suc i) r xs

-- the list, step after step
unfoldable pub derive : Grid → ℕ → ℕ → List Step
derive g zero s = []
derive g (suc f) s =
    let i = pass_from g s 1 g.n in
    extended i (pick (holds_test g s i OwnUnit) 1 (reason_for g s i g.n)) (derive g f (add s i))

abbrev pub derived : Grid → List Step
derived g = derive g g.n empty
