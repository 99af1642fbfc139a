-- Sets of buses. A set is a number of any length: bus b is in it when its digit at b is 1. `set_of` is the set that a machine word holds.
use Rattle.std.specs.Prelude.{◌≡◌, ℕ, suc, ◌-◌, ◌*◌, ◌/◌, ◌%◌, ◌^◌, ◌≤◌, ◌<◌, max, min}
use Rattle.std.specs.Int.Bits.{bit_and, bit_or}
use Rattle.std.specs.Int.Count.{ones}

-- ---- bus numbers and membership

-- b is a bus number, 1 to n
pub record Bus (n b : ℕ) : Type 0 where
  pub some : 1 ≤ b
  pub most : b ≤ n

-- the digit of s at b, 0 or 1
abbrev pub bit : ℕ → ℕ → ℕ
bit s b = s / 2 ^ b % 2

-- b is in s
abbrev pub In : ℕ → ℕ → Type 0
In s b = bit s b ≡ 1

-- b is not in s
abbrev pub Out : ℕ → ℕ → Type 0
Out s b = bit s b ≡ 0

-- every bus of s is in t
abbrev pub Sub : ℕ → ℕ → Type 0
Sub s t = (b : ℕ) → bit s b ≤ bit t b

-- every bus of s is 1 to n
abbrev pub Within : ℕ → ℕ → Type 0
Within n s = (b : ℕ) → In s b → Bus n b

-- ---- sets made from others

-- the set with no bus
abbrev pub empty : ℕ
empty = 0

-- s with bus b
unfoldable pub add : ℕ → ℕ → ℕ
add s b = bit_or s (2 ^ b)

-- the buses that are in s and in t
unfoldable pub meet : ℕ → ℕ → ℕ
meet s t = bit_and s t

-- the buses of s that are not in t
unfoldable pub lack : ℕ → ℕ → ℕ
lack s t = s - bit_and s t

-- the buses of s other than b
unfoldable pub less : ℕ → ℕ → ℕ
less s b = lack s (2 ^ b)

-- the buses of s up to n: those above n are ignored
unfoldable pub up_to : ℕ → ℕ → ℕ
up_to n s = s % 2 ^ suc n

-- how many buses are in s
abbrev pub size : ℕ → ℕ
size s = ones s

-- ---- what the operations on sets promise

-- r is the buses of s or t
pub record Union (s t r : ℕ) : Type 0 where
  pub at : (b : ℕ) → bit r b ≡ max (bit s b) (bit t b)

-- r is the buses of s and t
pub record Both (s t r : ℕ) : Type 0 where
  pub at : (b : ℕ) → bit r b ≡ min (bit s b) (bit t b)

-- r is the buses of s that are not in t
pub record Minus (s t r : ℕ) : Type 0 where
  pub at : (b : ℕ) → bit r b ≡ bit s b - bit t b

-- r is s with b
pub record With (s b r : ℕ) : Type 0 where
  pub here : In r b
  pub there : (a : ℕ) → (a ≡ b → ⊥) → bit r a ≡ bit s a

-- r is s without b: one bus fewer, if b was in it
pub record Without (s b r : ℕ) : Type 0 where
  pub here : Out r b
  pub there : (a : ℕ) → (a ≡ b → ⊥) → bit r a ≡ bit s a
  pub fewer : In s b → size s ≡ suc (size r)

-- b is the lowest bus of s, 1 to n
pub record Lowest (n s b : ℕ) : Type 0 where
  pub has : In s b
  pub below : (a : ℕ) → a < b → Out s a
  pub bus : Bus n b

-- b is the highest bus of s, 1 to n
pub record Highest (n s b : ℕ) : Type 0 where
  pub has : In s b
  pub above : (a : ℕ) → b < a → Out s a
  pub bus : Bus n b

-- r is how many buses are in s, at most n
pub record Counted (n s r : ℕ) : Type 0 where
  pub is : r ≡ size s
  pub most : r ≤ n

-- r is the buses 1 to n
pub record All (n r : ℕ) : Type 0 where
  pub has : (b : ℕ) → Bus n b → In r b
  pub only : (b : ℕ) → In r b → Bus n b

-- ---- the word

-- how many buses a word has room for: as many as document 01 allows a grid
abbrev pub width : ℕ
width = 64

-- the set that the word w holds: bus 1 in the lowest bit
unfoldable pub set_of : ℕ → ℕ
set_of w = 2 * w
