-- The promise of the call that lists rounds determines the reply, and the room that it leaves: the rounds of a grid are one list.
use mathlib.Core.Path.{◌≡◌, sym, ap, ap₂, ◌∙◌}
use mathlib.Core.List.{List, ◌++◌}
use Prim.Native.Nat.{ℕ}
use lib.ListN.{length, drop}
use Rattle.busset.specs.Sets.{empty}
use Rattle.rules.proofs.Rounds.{rounds-unique}
use Rattle.grid.specs.Cases.{grid_of}
use Rattle.round_calls.specs.Replies.{round_numbers, rounds_checks, RoundsReply, observed_rounds_call}
use Rattle.demands.specs.Determined.{OneReply}
use Rattle.demands.proofs.Uniqueness.{one-reply}

pub observed-rounds : OneReply observed_rounds_call
observed-rounds c entry =
    one-reply (λ exit r. RoundsReply c entry exit r) (rounds_checks c entry) entry (λ r exit p. p) (λ l exit p. p.0)
    (λ l m left right p q.
    let same = rounds-unique (grid_of c) empty p.1.rounds q.1.rounds p.1.are q.1.are in
    let numbers : l.numbers ≡ m.numbers = p.1.long ∙ ap (λ (rs : List (List ℕ)). length (round_numbers rs)) same ∙ sym q.1.long in
    let count : l.rounds ≡ m.rounds = p.1.many ∙ ap length same ∙ sym q.1.many in (
      λ i. record { numbers = numbers i; rounds = count i },
      p.1.written ∙ ap₂ (λ (rs : List (List ℕ)) (i : ℕ). round_numbers rs ++ drop i entry) same numbers ∙ sym q.1.written,
    ))
