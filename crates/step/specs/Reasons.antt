-- What each reason has: its letter, the bus that it names, its turn. `Holds` (rules, specs/Steps.antt) says when it holds.
use Rattle.std.specs.Prelude.{cond, List, [], ◌∷◌, ℕ, suc, eqb, Option, Some, None}
use Prim.Native.Char.{code}
use Rattle.step.specs.declared.Reason.{Reason}
use Rattle.step.specs.declared.Reason.TheVariants.{OwnUnit, NeighbourOf, ZeroInjection}

-- the letter of a reason
abbrev pub letter_of : Reason → ℕ
letter_of OwnUnit = code "O"
letter_of (NeighbourOf p) = code "N"
letter_of (ZeroInjection w) = code "Z"

-- the bus that it names, if it names one
abbrev pub named_by : Reason → Option ℕ
named_by OwnUnit = None
named_by (NeighbourOf p) = Some p
named_by (ZeroInjection w) = Some w

-- ---- the way back

-- the reason r if l is its letter, else `other`
abbrev pub if_letter : ℕ → Reason → Option Reason → Option Reason
if_letter l r other = cond (eqb l (letter_of r)) (Some r) other

-- the reason with the letter l that names this bus
abbrev pub reason_of : ℕ → Option ℕ → Option Reason
reason_of l None = if_letter l OwnUnit None
reason_of l (Some b) = if_letter l (NeighbourOf b) (if_letter l (ZeroInjection b) None)

-- ---- the fixed order

-- the letters in the order in which reasons are taken: O, else N, else Z
abbrev pub letters : List ℕ
letters = code "O" ∷ code "N" ∷ code "Z" ∷ []

-- where l is in a list of letters, counted from 0
abbrev pub index_of : ℕ → List ℕ → ℕ
index_of l [] = 0
index_of l (x ∷ xs) = cond (eqb l x) 0 (suc (index_of l xs))

-- the turn of a reason: where its letter is in the fixed order
abbrev pub turn_of : Reason → ℕ
turn_of r = index_of (letter_of r) letters
