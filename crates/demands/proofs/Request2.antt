-- Request 2, over the promises of the two engines: their answers are of one grid, whose rounds end at its observed set.
use Rattle.refusals.specs.declared.Refusal.{Refusal}
use Rattle.std.specs.Prelude.{Result, Ok, Err}
use mathlib.Core.Path.{◌≡◌, refl, ap, ◌∙◌}
use mathlib.Core.List.{List, [], ◌∷◌}
use Prim.Native.Nat.{ℕ, ◌+◌, ◌*◌, ◌≤◌}
use native.Mathlib.Omega.{arith}
use lib.ListN.{length, length-append, take, drop}
use lib.Seq.{take-append_seam}
use Rattle.busset.specs.Sets.{empty, size, set_of}
use Rattle.busset.specs.Held.{SetWord}
use Rattle.busset.proofs.Sizes.{size-empty}
use Rattle.rules.specs.Grids.{Grid}
use Rattle.rules.specs.Placing.{placed}
use Rattle.rules.specs.Rounds.{RoundsFrom, after_rounds}
use Rattle.rules.proofs.Leasts.{least-unique, observed-few}
use Rattle.rules.proofs.Rounds.{round-size, rounds-add, rounds-least, rounds-few}
use Rattle.grid.specs.declared.Case.{Case}
use Rattle.grid.specs.Cases.{grid_of, Valid}
use Rattle.refusals.proofs.Orders.{failed_or_passed}
use Rattle.observe_calls.specs.Replies.{ObservedReply}
use Rattle.round_calls.specs.Replies.{round_numbers, rounds_checks, RoundsFit, RoundsReply}
use Rattle.round_calls.specs.declared.Listed.{Listed}
use Rattle.demands.specs.Request2.{BothEngines, Request2}

-- a number for each round, and one for each bus that the rounds add
numbers-long : (g : Grid) (s : ℕ) (rounds : List (List ℕ)) → RoundsFrom g s rounds
    → length (round_numbers rounds) + size s ≡ length rounds + size (after_rounds s rounds)
unfolding round_numbers
numbers-long g s [] p = omega arith
numbers-long g s (r ∷ rounds) p =
    omega (
      arith,
      length-append r (round_numbers rounds),
      round-size s r p.0,
      numbers-long g (placed s r) rounds p.2,
    )

numbers_fit : (c : Case) (room : List ℕ) → Valid c → 2 * c.n ≤ length room → RoundsFit c room
numbers_fit c room v l rounds p =
    omega (
      arith,
      numbers-long (grid_of c) empty rounds p,
      rounds-few v.proper rounds p,
      observed-few v.proper (rounds-least (grid_of c) rounds p),
      size-empty,
    )

answers : (c : Case) (entry exit : List ℕ) (r : Result Listed Refusal) → Valid c → 2 * c.n ≤ length entry → RoundsReply c entry exit r
    → (l : Listed) × (r ≡ Ok l)
answers c entry exit (Ok m) v l p = (m, refl)
answers c entry exit (Err q) v l p = absurd (failed_or_passed (rounds_checks c entry) q p.0 (v, (numbers_fit c entry v l, tt)))

engines : (c : Case) (set : SetWord) (entry exit : List ℕ) (l : Listed) → ObservedReply c (Ok set)
    → RoundsReply c entry exit (Ok l) → BothEngines c set exit l
engines c set entry exit l p q = record {
  rounds = rounds;
  are = q.1.are;
  written =
      ap (λ (i : ℕ). take i exit) q.1.long ∙ ap (take (length (round_numbers rounds))) q.1.written
      ∙ take-append_seam (round_numbers rounds) (drop l.numbers entry);
  many = q.1.many;
  add = rounds-add (grid_of c) empty rounds q.1.are;
  last = least-unique (grid_of c) (after_rounds empty rounds) (set_of set) (rounds-least (grid_of c) rounds q.1.are) p.1;
  few = omega (arith, q.1.many, rounds-few q.0.0.proper rounds q.1.are);
}
  where
    rounds : List (List ℕ)
    rounds = q.1.rounds

pub request_2 : Request2
request_2 = record { answers = answers; engines = engines }
