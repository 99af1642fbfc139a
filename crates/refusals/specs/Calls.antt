-- What a public call is: what it is given and lent, what it replies, what it promises, what it checks and which replies are refusals.
use Rattle.std.specs.Prelude.{◌≡◌, List, ℕ}
use Rattle.refusals.specs.declared.Refusal.{Refusal}
use Rattle.refusals.specs.Refusals.{Is, Check}

-- a public call: each has its value beside its promise
pub record Call : Type 1 where
  -- what it is given, what it is lent to write into (the unit type where that is nothing), and what it replies
  pub Input : Type 0
  pub Lent : Type 0
  pub Reply : Type 0
  -- what it promises of an input, of what was lent before and after, and of the reply
  pub promise : Input → Lent → Lent → Reply → Type 0
  -- what it checks, in order
  pub checks : Input → Lent → List Check
  -- the reply is the refusal with this number and this place
  pub refuses : Reply → ℕ → ℕ → Type 0

-- of a reply that is an answer or a refusal: it is the refusal with this number and this place
abbrev pub Refuses : {R : Type 0} → (Refusal → R) → R → ℕ → ℕ → Type 0
Refuses refused reply number place = (q : Refusal) × (reply ≡ refused q) × Is number place q

-- a contract keeps the promise: it asks nothing of the arguments, and what it tells of them, the reply and the arguments at the end
-- is what the call promises of the input and of what was lent
abbrev pub Keeps {ℓ} : {A : Type ℓ} → (call : Call) → (A → call.Input) → (A → call.Lent) → (A → Type 0) → (A → call.Reply → A → Type 0)
    → Type ℓ
Keeps {A = A} call input lent Asked Learnt =
    (a : A) → Asked a × ((r : call.Reply) (b : A) → Learnt a r b → call.promise (input a) (lent a) (lent b) r)
