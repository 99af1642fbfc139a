-- Accepted lists: they stay inside every closed set; a finished one reaches the observed set;
-- and they have as many steps as they reach buses.
use mathlib.Core.Path.{◌≡◌, ap, ◌∙◌}
use mathlib.Core.List.{List, [], ◌∷◌}
use mathlib.Core.Logic.{⊎_elim}
use Prim.Native.Nat.{ℕ, ◌+◌}
use native.Mathlib.Omega.{arith}
use lib.ListN.{length}
use Rattle.busset.specs.Sets.{In, Out, Sub, empty, add, size}
use Rattle.busset.proofs.Members.{in_or, empty_sub, add_sub, add-grows}
use Rattle.busset.proofs.Sizes.{size-add, size-empty}
use Rattle.step.specs.declared.Step.{Step}
use Rattle.rules.specs.Grids.{Grid, Proper}
use Rattle.rules.specs.Observation.{Closed, ObservedSet}
use Rattle.rules.specs.Steps.{Names, reached_from, AcceptedFrom, reached, Accepted, Finished}
use Rattle.basics.specs.Lists.{Each}
use Rattle.rules.proofs.Reasons.{holds_more, closed_reasoned, reasoned_closed, allowed-names}
use Rattle.rules.proofs.Leasts.{least-unique}

-- a list grows the set that it starts from
pub reached-grows : (s : ℕ) (xs : List Step) → Sub s (reached_from s xs)
reached-grows s [] b = omega arith
reached-grows s (x ∷ xs) b = omega (arith, add-grows s x.bus b, reached-grows (add s x.bus) xs b)

-- an accepted list stays inside every closed set
pub stays-inside : (g : Grid) (s t : ℕ) (xs : List Step) → Closed g t → Sub s t → AcceptedFrom g s xs → Sub (reached_from s xs) t
stays-inside g s t [] cl sub p = sub
stays-inside g s t (x ∷ xs) cl sub p =
    stays-inside g (add s x.bus) t xs cl
    (add_sub s t x.bus sub (closed_reasoned g t cl x.bus x.reason (holds_more g s t x.bus sub x.reason p.0.holds)))
    p.1

pub accepted-inside : (g : Grid) (t : ℕ) (xs : List Step) → Closed g t → Accepted g xs → Sub (reached xs) t
accepted-inside g t xs cl p = stays-inside g empty t xs cl (empty_sub t) p

-- and names buses of the grid
pub accepted-names : {g : Grid} → Proper g → (s : ℕ) (xs : List Step) → AcceptedFrom g s xs → Each (Names g.n) xs
accepted-names v s [] a = tt
accepted-names v s (x ∷ xs) a = (allowed-names v a.0, accepted-names v (add s x.bus) xs a.1)

-- where no step is allowed, the set is closed; and no step is allowed in a closed set
pub finished-closed : (g : Grid) (s : ℕ) → Finished g s → Closed g s
finished-closed g s f =
    reasoned_closed g s
    (λ b r h. ⊎_elim
    (λ (p : In s b). p)
    (λ (p : Out s b). absurd (f (record { bus = b; reason = r }) (record { new = p; holds = h })))
    (in_or s b))

pub closed-finished : (g : Grid) (s : ℕ) → Closed g s → Finished g s
closed-finished g s cl x a = omega (arith, a.new, closed_reasoned g s cl x.bus x.reason a.holds)

-- a finished accepted list reaches the observed set
pub finished-least : (g : Grid) (xs : List Step) → Accepted g xs → Finished g (reached xs) → ObservedSet g (reached xs)
finished-least g xs p f = record { closed = finished-closed g (reached xs) f; least = λ t cl. accepted-inside g t xs cl p }

-- ---- counts

steps-reached : (g : Grid) (s : ℕ) (xs : List Step) → AcceptedFrom g s xs → size (reached_from s xs) ≡ size s + length xs
steps-reached g s [] p = omega arith
steps-reached g s (x ∷ xs) p = omega (arith, steps-reached g (add s x.bus) xs p.1, size-add s x.bus p.0.new)

-- an accepted list has one step for each bus that it reaches
pub accepted_length : (g : Grid) (xs : List Step) → Accepted g xs → length xs ≡ size (reached xs)
accepted_length g xs p = omega (arith, steps-reached g empty xs p, size-empty)

-- a finished list has as many steps as the observed set has buses
pub finished_length : (g : Grid) (xs : List Step) (s : ℕ) → Accepted g xs → Finished g (reached xs) → ObservedSet g s → length xs ≡ size s
finished_length g xs s p f l = accepted_length g xs p ∙ ap size (least-unique g (reached xs) s (finished-least g xs p f) l)
