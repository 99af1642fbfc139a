-- Every promise determines the reply: two replies that a public call's promise allows on one input are equal, and so is all that was lent.
use Rattle.std.specs.Prelude.{◌≡◌}
use Rattle.basics.specs.Lists.{Each}
use Rattle.refusals.specs.Calls.{Call}
use Rattle.demands.specs.Calls.{public_calls}

-- the call's promise allows one reply to an input, and one state of what was lent
abbrev pub OneReply : Call → Type 0
OneReply call =
    (input : call.Input) (lent : call.Lent) (a b : call.Reply) (left right : call.Lent)
    → call.promise input lent left a → call.promise input lent right b → (a ≡ b) × (left ≡ right)

-- so does that of every public call
abbrev pub Determined : Type 0
Determined = Each OneReply public_calls
