-- The numbers of a round, and those of all rounds, round after round; and what the call replies.
use Rattle.std.specs.Prelude.{Some, None}
use mathlib.Core.Path.{◌≡◌, refl, sym, ap, ◌∙◌}
use mathlib.Core.List.{List, [], ◌∷◌, ◌++◌}
use Prim.Native.Nat.{ℕ, ◌+◌, ◌≤◌, ◌<◌}
use native.Mathlib.Numerals.{add-one}
use native.Mathlib.Omega.{arith}
use lib.ListN.{length, get_or, drop, drop_of_length-le}
use lib.Seq.{drop-cons}
use Rattle.busset.specs.Sets.{empty}
use Rattle.busset.specs.Held.{SetWord}
use Rattle.text_put.specs.Put.{PutWhole}
use Rattle.rules.proofs.Rounds.{rounds-unique}
use Rattle.grid.specs.declared.Case.{Case}
use Rattle.grid.specs.Cases.{grid_of}
use Rattle.round_list.specs.Rounds.{each_bus, HasRounds}
use Rattle.round_calls.specs.declared.Listed.{Listed}
use Rattle.round_calls.specs.Replies.{round_numbers, RoundsFit, RoundsWritten}

-- ---- one round

-- a bus as a number is itself
pub number-each : (buses : List ℕ) → each_bus (λ b. b ∷ []) buses ≡ buses
unfolding each_bus
number-each [] = refl
number-each (b ∷ buses) = ap (λ (rest : List ℕ). b ∷ rest) (number-each buses)

-- ---- all rounds

-- the numbers of the rounds after i of them
unfoldable pub rest_numbers : List (List ℕ) → ℕ → List ℕ
rest_numbers rounds i = round_numbers (drop i rounds)

pub rest-first : (rounds : List (List ℕ)) → rest_numbers rounds 0 ≡ round_numbers rounds
rest-first rounds = unfold rest_numbers in refl

pub rest-next : (rounds : List (List ℕ)) (i : ℕ) → i < length rounds
    → rest_numbers rounds i ≡ (length (get_or rounds i []) ∷ get_or rounds i []) ++ rest_numbers rounds (i + 1)
unfolding rest_numbers round_numbers
rest-next rounds i l = ap round_numbers (drop-cons rounds i [] l) ∙ rw (add-one i) refl

pub rest_all : (rounds : List (List ℕ)) (i : ℕ) → length rounds ≤ i → rest_numbers rounds i ≡ []
unfolding rest_numbers round_numbers
rest_all rounds i l = ap round_numbers (drop_of_length-le rounds {i = i} l)

-- ---- the reply

module _ (c : Case) {sets : List SetWord} (h : HasRounds (grid_of c) sets) (room left : List ℕ) where
  pub no_room : PutWhole (round_numbers h.rounds) room left None → RoundsFit c room → ⊥
  no_room p all = omega (arith, p.0, all h.rounds h.are)

  fits : {k : ℕ} → PutWhole (round_numbers h.rounds) room left (Some k) → RoundsFit c room
  fits w rounds p =
      let same = rounds-unique (grid_of c) empty rounds h.rounds p h.are in
      omega (arith, w.0, ap (λ (r : List (List ℕ)). length (round_numbers r)) same)

  pub rounds_written : {l : Listed} → PutWhole (round_numbers h.rounds) room left (Some l.numbers) → l.rounds ≡ length sets
      → RoundsFit c room × RoundsWritten c room left l
  rounds_written {l} w many = (
    fits w,
    record {
      rounds = h.rounds;
      are = h.are;
      long = w.1;
      many = many ∙ sym h.held.count;
      written = w.2 ∙ ap (λ (i : ℕ). round_numbers h.rounds ++ drop i room) (sym w.1);
    },
  )
