-- Reading a number digit by digit, and a number's text.
use mathlib.Core.Path.{◌≡◌}
use mathlib.Core.Bool.{true}
use mathlib.Core.List.{List}
use Prim.Native.Nat.{ℕ, ◌/◌, ◌≤◌, ◌<◌}
use borrow.Author.Tests.{leb-true, ltb-true}
use lib.ListN.{drop}
use Rattle.text_field.specs.Number.{most_read, is_digit, takes_digit, number_from, numeral_of}
use Rattle.text_field.proofs.Tested.{both}

pub record Digit (d : ℕ) : Type 0 where
  pub low : 48 ≤ d
  pub high : d ≤ 57

pub record DigitTaken (v d : ℕ) : Type 0 where
  pub digit : Digit d
  pub some : 0 < v
  pub small : v < most_read / 10

pub digit-of : (d : ℕ) → is_digit d ≡ true → Digit d
digit-of d e =
    let h = both _ _ e in
    record { low = leb-true _ _ h.0; high = leb-true _ _ h.1 }

pub taken_of : (v d : ℕ) → takes_digit v d ≡ true → DigitTaken v d
taken_of v d e =
    let h = both _ _ e in
    let k = both _ _ h.1 in
    record { digit = digit-of d h.0; some = ltb-true _ _ k.0; small = ltb-true _ _ k.1 }

-- v is what the digits of s before index i of its rest say
pub record Sofar (s rest : List ℕ) (v i : ℕ) : Type 0 where
  pub is : numeral_of s ≡ number_from v (drop i rest)
  pub small : v < most_read
