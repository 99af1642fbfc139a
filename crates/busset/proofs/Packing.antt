-- The bytes of a word: cut out by a shift and a mask, and the buses that they say.
use mathlib.Core.Path.{◌≡◌, refl, sym, ap, ◌∙◌}
use Prim.Native.Nat.{ℕ, zero, suc, ◌+◌, ◌*◌, ◌/◌, ◌%◌, ◌^◌, ◌<◌}
use native.Mathlib.Nat.{pow-suc}
use native.Mathlib.Omega.{arith}
use lib.Bits.{bit_and, and_mask}
use lib.ListN.{get_or, length}
use lib.Pow.{pow-add, shr-shr}
use Rattle.busset.specs.Sets.{bit, set_of}
use Rattle.busset.specs.Bytes.{byte_of, bytes_from, set_length, set_bytes}
use Rattle.busset.proofs.Digits.{bit_mod}
use Rattle.busset.proofs.Words.{set_suc}

bytes_shifted : (i : ℕ) → 256 ^ i ≡ 2 ^ (8 * i)
bytes_shifted zero = refl
bytes_shifted (suc i) =
    pow-suc 256 i ∙ ap (λ (x : ℕ). x * 256) (bytes_shifted i) ∙ sym (pow-add 2 (8 * i) 8) ∙ ap (λ (x : ℕ). 2 ^ x) (omega arith)

pub byte_cut : (w i : ℕ) → bit_and (w / 2 ^ (8 * i)) 255 ≡ byte_of w i
unfolding byte_of
byte_cut w i = and_mask (w / 2 ^ (8 * i)) 8 ∙ ap (λ (x : ℕ). w / x % 256) (sym (bytes_shifted i))

pub byte_small : (w i : ℕ) → byte_of w i < 256
unfolding byte_of
byte_small w i = omega arith

-- bit j of byte i says whether bus 8 i + j + 1 is in the set
pub byte_bus : (w i j : ℕ) → j < 8 → bit (byte_of w i) j ≡ bit (set_of w) (8 * i + j + 1)
unfolding byte_of
byte_bus w i j l =
    ap (λ (x : ℕ). bit (w / x % 256) j) (bytes_shifted i) ∙ bit_mod 8 (w / 2 ^ (8 * i)) j l ∙ ap (λ (x : ℕ). x % 2) (shr-shr w (8 * i) j)
    ∙ sym (set_suc w (8 * i + j)) ∙ ap (bit (set_of w)) (omega arith)

bytes-at : (k j w i : ℕ) → i < k → get_or (bytes_from j k w) i 0 ≡ byte_of w (j + i)
unfolding bytes_from
bytes-at zero j w i l = absurd (omega arith)
bytes-at (suc k) j w zero l = ap (byte_of w) (omega arith)
bytes-at (suc k) j w (suc i) l = bytes-at k (suc j) w i (omega arith) ∙ ap (byte_of w) (omega arith)

-- the byte that stands at i
pub byte_at : (w i : ℕ) → i < set_length → get_or (set_bytes w) i 0 ≡ byte_of w i
byte_at w i l = bytes-at set_length 0 w i l ∙ ap (byte_of w) (omega arith)

bytes_length : (k j w : ℕ) → length (bytes_from j k w) ≡ k
unfolding bytes_from
bytes_length zero j w = refl
bytes_length (suc k) j w = ap suc (bytes_length k (suc j) w)

pub set-length : (w : ℕ) → length (set_bytes w) ≡ set_length
set-length w = bytes_length set_length 0 w
