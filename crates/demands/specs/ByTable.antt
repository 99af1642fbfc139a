-- Replies by document 01's table: refused for the first row that applies, and for no other reason, with the lent memory unaltered.
use Rattle.std.specs.Prelude.{◌≡◌, List, ◌⊎◌, ℕ}
use Rattle.refusals.specs.Refusals.{Check, Passed}
use Rattle.refusals.specs.Calls.{Call}
use Rattle.demands.specs.Order.{InTableOrder, FirstFails}

-- of a reply: what the call checks, when the reply is a refusal with a number and a place, and what is lent, before and after
pub record ByTable {M : Type 0} (checks : List Check) (Refused : ℕ → ℕ → Type 0) (before after : M) : Type 0 where
  -- the table's rows are tried in the document's order
  pub order : InTableOrder checks
  -- every input is refused by the first row that applies, or no row applies
  pub replies : Passed checks ⊎ ((number : ℕ) × (place : ℕ) × FirstFails checks number place)
  -- a refusal is given exactly when its row is the first that applies
  pub given : (number place : ℕ) → Refused number place → FirstFails checks number place
  pub due : (number place : ℕ) → FirstFails checks number place → Refused number place
  -- and leaves the lent memory unaltered
  pub kept : (number place : ℕ) → Refused number place → after ≡ before

-- every reply that the call's promise allows is by the table
abbrev pub AllByTable : Call → Type 0
AllByTable call =
    (input : call.Input) (before after : call.Lent) (reply : call.Reply) → call.promise input before after reply
    → ByTable (call.checks input before) (call.refuses reply) before after
