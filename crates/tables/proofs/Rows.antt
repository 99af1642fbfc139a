-- The proofs of a table's rows, one after another; of checks, where one fails; of answers and lists that differ.
use Rattle.std.specs.Prelude.{Ok, Err}
use mathlib.Core.Path.{◌≡◌, ap}
use mathlib.Core.List.{List}
use mathlib.Core.Logic.{◌⊎◌, inl, inr}
use Prim.Native.Nat.{ℕ}
use lib.ListN.{get_or}
use Rattle.refusals.specs.declared.Refusal.{Refusal}
use Rattle.refusals.specs.Refusals.{Is}

infixr 3 ◌&◌
abbrev pub ◌&◌ : {A B : Type 0} → A → B → A × B
a & b = (a, b)

infixr 4 ◌then◌
-- this check passes, and one of the later fails
abbrev pub ◌then◌ : {A B C : Type 0} → A → C → B ⊎ (A × C)
p then f = inr (p, f)

-- this check fails
abbrev pub stop : {A B : Type 0} {number place : ℕ} {r : Refusal} → (A → ⊥) → Is number place r → ((A → ⊥) × Is number place r) ⊎ B
stop f is = inl (f, is)

-- a refusal is no answer
pub no_answer : {A : Type 0} {x : A} (q : Refusal) → Err q ≡ Ok x → ⊥
no_answer q e = cc

-- lists that differ at place i are two
pub differ : (i : ℕ) {xs ys : List ℕ} → xs ≡ ys → (get_or xs i 0 ≡ get_or ys i 0 → ⊥) → ⊥
differ i e ne = ne (ap (λ (l : List ℕ). get_or l i 0) e)
