-- Rows with a line more: its two ends are joined and count its circuits, and nothing else changes.
use mathlib.Core.Path.{◌≡◌, refl, sym, ap, ◌∙◌, subst⁻¹}
use mathlib.Core.Bool.{Bool, true, false, cond}
use mathlib.Core.Logic.{⊎_elim}
use Prim.Native.Nat.{ℕ, ◌*◌, ◌/◌, ◌%◌, ◌≤◌, ◌<◌}
use native.Mathlib.Omega.{arith}
use borrow.Author.Tests.{eqb-true, eqb-false}
use lib.ListN.{length}
use Rattle.basics.proofs.Tests.{same_or}
use Rattle.busset.specs.Sets.{bit, add, less}
use Rattle.busset.specs.Held.{word_of}
use Rattle.busset.proofs.Members.{add-here, add-there, less-here, less-there}
use Rattle.busset.proofs.Holding.{word_set}
use Rattle.grid.specs.Limits.{most_buses, most_circuits}
use Rattle.grid.specs.Rows.{bus_sets, rows_length, Rows, set_at, neighbours, circuits, with_bit, is_odd, with_circuits}
use Rattle.grid.specs.Rows.{with_end, with_line}
use Rattle.grid.proofs.Rows.{set-bus, set_put_same, set_put_other, set-put_length}

-- 1 where i and j are joined as seen from i, else 0
abbrev pub joined : Rows → ℕ → ℕ → ℕ
joined rows i j = bit (neighbours rows i) j

-- ---- one bit

-- the set with b, or without it
abbrev put : Bool → ℕ → ℕ → ℕ
put t s b = cond t (add s b) (less s b)

put-here : (t : Bool) (s b : ℕ) → bit (put t s b) b ≡ cond t 1 0
put-here true s b = add-here s b
put-here false s b = less-here s b

put-there : (t : Bool) (s b c : ℕ) → (c ≡ b → ⊥) → bit (put t s b) c ≡ bit s c
put-there true s b c ne = add-there s b c ne
put-there false s b c ne = less-there s b c ne

-- two buses of which a is seen, and where what it sees of the other stands
pub record Seen (rows : Rows) (a b : ℕ) : Type 0 where
  pub from : 1 ≤ a
  pub held : bus_sets * a ≤ length rows
  pub to : 1 ≤ b

module _ (rows : Rows) (a i b : ℕ) (t : Bool) (y : Seen rows a b) (k : i < bus_sets) where
  bit_set : set_at (with_bit rows a i b t) a i ≡ put t (set_at rows a i) b
  unfolding with_bit
  bit_set =
      set_put_same rows a i (word_of (put t (set_at rows a i) b)) y.from k y.held
      ∙ word_set (put t (set_at rows a i) b) (put-there t (set_at rows a i) b 0 (λ e. omega (arith, y.to)) ∙ set-bus rows a i)

  bit_here : bit (set_at (with_bit rows a i b t) a i) b ≡ cond t 1 0
  bit_here = ap (λ (s : ℕ). bit s b) bit_set ∙ put-here t (set_at rows a i) b

  bit_there : (x j c : ℕ) → j < bus_sets → ((x ≡ a) → (j ≡ i) → (c ≡ b) → ⊥)
      → bit (set_at (with_bit rows a i b t) x j) c ≡ bit (set_at rows x j) c
  unfolding with_bit
  bit_there x j c m n =
      ⊎_elim
      (λ (e : x ≡ a). ⊎_elim
      (λ (f : j ≡ i). subst⁻¹ (λ (z : ℕ). bit (set_at (with_bit rows a i b t) z j) c ≡ bit (set_at rows z j) c) e
      (subst⁻¹ (λ (z : ℕ). bit (set_at (with_bit rows a i b t) a z) c ≡ bit (set_at rows a z) c) f
      (ap (λ (s : ℕ). bit s c) bit_set ∙ put-there t (set_at rows a i) b c (n e f))))
      (λ (d : j ≡ i → ⊥). other (λ e f. d f))
      (same_or j i))
      (λ (d : x ≡ a → ⊥). other (λ e f. d e))
      (same_or x a)
    where
      other : ((x ≡ a) → (j ≡ i) → ⊥) → bit (set_at (with_bit rows a i b t) x j) c ≡ bit (set_at rows x j) c
      other d =
          ap (λ (s : ℕ). bit s c) (set_put_other rows a i (word_of (put t (set_at rows a i) b)) y.from k x j m d)

  bit_length : length (with_bit rows a i b t) ≡ length rows
  unfolding with_bit
  bit_length = set-put_length rows a i (word_of (put t (set_at rows a i) b))

  bit_seen : Seen (with_bit rows a i b t) a b
  bit_seen = record { from = y.from; held = omega (arith, y.held, bit_length); to = y.to }

-- ---- what a sees of b

-- these rows say the same of c as seen from x
pub record SameSeen (old new : Rows) (x c : ℕ) : Type 0 where
  pub at : (j : ℕ) → j < bus_sets → bit (set_at new x j) c ≡ bit (set_at old x j) c

same_after : {old mid new : Rows} {x c : ℕ} → SameSeen old mid x c → SameSeen mid new x c → SameSeen old new x c
same_after p q = record { at = λ j m. q.at j m ∙ p.at j m }

pub same-joined : {old new : Rows} {x c : ℕ} → SameSeen old new x c → joined new x c ≡ joined old x c
unfolding neighbours
same-joined p = p.at 0 (omega arith)

pub same-circuits : {old new : Rows} {x c : ℕ} → SameSeen old new x c → circuits new x c ≡ circuits old x c
unfolding circuits
same-circuits p =
    omega (arith, p.at 1 (omega arith), p.at 2 (omega arith), p.at 3 (omega arith), p.at 4 (omega arith))

-- four digits count no further than this
pub circuits-few : (rows : Rows) (a b : ℕ) → circuits rows a b < 2 * most_circuits
unfolding circuits
circuits-few rows a b = omega arith

-- ---- the four digits

odd_digit : (k : ℕ) → cond (is_odd k) 1 0 ≡ k % 2
odd_digit k = go (is_odd k) refl
  where
    go : (t : Bool) → is_odd k ≡ t → cond t 1 0 ≡ k % 2
    go true e = sym (eqb-true (k % 2) 1 e)
    go false e = omega (arith, eqb-false (k % 2) 1 e)

module _ (rows : Rows) (a b k : ℕ) (y : Seen rows a b) where
  -- the rows after each digit
  abbrev one : Rows
  one = with_bit rows a 1 b (is_odd k)

  abbrev two : Rows
  two = with_bit one a 2 b (is_odd (k / 2))

  abbrev three : Rows
  three = with_bit two a 3 b (is_odd (k / 2 / 2))

  abbrev four : Rows
  four = with_circuits rows a b k

  in_one : Seen one a b
  in_one = bit_seen rows a 1 b (is_odd k) y (omega arith)

  in_two : Seen two a b
  in_two = bit_seen one a 2 b (is_odd (k / 2)) in_one (omega arith)

  in_three : Seen three a b
  in_three = bit_seen two a 3 b (is_odd (k / 2 / 2)) in_two (omega arith)

  circuits_there : (x j c : ℕ) → j < bus_sets → ((x ≡ a) → (c ≡ b) → 1 ≤ j → ⊥) → bit (set_at four x j) c ≡ bit (set_at rows x j) c
  unfolding with_circuits
  circuits_there x j c m n =
      bit_there three a 4 b (is_odd (k / 2 / 2 / 2)) in_three (omega arith) x j c m (λ e f g. n e g (omega arith))
      ∙ bit_there two a 3 b (is_odd (k / 2 / 2)) in_two (omega arith) x j c m (λ e f g. n e g (omega arith))
      ∙ bit_there one a 2 b (is_odd (k / 2)) in_one (omega arith) x j c m (λ e f g. n e g (omega arith))
      ∙ bit_there rows a 1 b (is_odd k) y (omega arith) x j c m (λ e f g. n e g (omega arith))

  circuits_here : k < 2 * most_circuits → circuits four a b ≡ k
  unfolding circuits with_circuits
  circuits_here l = omega (arith, first, second, third, fourth)
    where
      fourth : bit (set_at four a 4) b ≡ k / 2 / 2 / 2 % 2
      fourth = bit_here three a 4 b (is_odd (k / 2 / 2 / 2)) in_three (omega arith) ∙ odd_digit (k / 2 / 2 / 2)

      third : bit (set_at four a 3) b ≡ k / 2 / 2 % 2
      third =
          bit_there three a 4 b (is_odd (k / 2 / 2 / 2)) in_three (omega arith) a 3 b (omega arith) (λ e f g. omega arith)
          ∙ bit_here two a 3 b (is_odd (k / 2 / 2)) in_two (omega arith) ∙ odd_digit (k / 2 / 2)

      second : bit (set_at four a 2) b ≡ k / 2 % 2
      second =
          bit_there three a 4 b (is_odd (k / 2 / 2 / 2)) in_three (omega arith) a 2 b (omega arith) (λ e f g. omega arith)
          ∙ bit_there two a 3 b (is_odd (k / 2 / 2)) in_two (omega arith) a 2 b (omega arith) (λ e f g. omega arith)
          ∙ bit_here one a 2 b (is_odd (k / 2)) in_one (omega arith) ∙ odd_digit (k / 2)

      first : bit (set_at four a 1) b ≡ k % 2
      first =
          bit_there three a 4 b (is_odd (k / 2 / 2 / 2)) in_three (omega arith) a 1 b (omega arith) (λ e f g. omega arith)
          ∙ bit_there two a 3 b (is_odd (k / 2 / 2)) in_two (omega arith) a 1 b (omega arith) (λ e f g. omega arith)
          ∙ bit_there one a 2 b (is_odd (k / 2)) in_one (omega arith) a 1 b (omega arith) (λ e f g. omega arith)
          ∙ bit_here rows a 1 b (is_odd k) y (omega arith) ∙ odd_digit k

  circuits_length : length four ≡ length rows
  unfolding with_circuits
  circuits_length =
      bit_length three a 4 b (is_odd (k / 2 / 2 / 2)) in_three (omega arith)
      ∙ bit_length two a 3 b (is_odd (k / 2 / 2)) in_two (omega arith)
      ∙ bit_length one a 2 b (is_odd (k / 2)) in_one (omega arith)
      ∙ bit_length rows a 1 b (is_odd k) y (omega arith)

-- ---- one end

module _ (rows : Rows) (a b k : ℕ) (y : Seen rows a b) where
  abbrev near : Rows
  near = with_bit rows a 0 b true

  in_near : Seen near a b
  in_near = bit_seen rows a 0 b true y (omega arith)

  end_there : (x c : ℕ) → ((x ≡ a) → (c ≡ b) → ⊥) → SameSeen rows (with_end rows a b k) x c
  unfolding with_end
  end_there x c n =
      record {
        at = λ j m. circuits_there near a b k in_near x j c m (λ e f l. n e f)
            ∙ bit_there rows a 0 b true y (omega arith) x j c m (λ e f g. n e g);
      }

  end_joined : joined (with_end rows a b k) a b ≡ 1
  unfolding neighbours with_end
  end_joined =
      circuits_there near a b k in_near a 0 b (omega arith) (λ e f l. omega arith) ∙ bit_here rows a 0 b true y (omega arith)

  end_circuits : k < 2 * most_circuits → circuits (with_end rows a b k) a b ≡ k
  unfolding with_end
  end_circuits l = circuits_here near a b k in_near l

  end_length : length (with_end rows a b k) ≡ length rows
  unfolding with_end
  end_length = circuits_length near a b k in_near ∙ bit_length rows a 0 b true y (omega arith)

-- ---- both ends

-- a and b are two buses, a the lower
pub record Pair (a b : ℕ) : Type 0 where
  pub one : 1 ≤ a
  pub less : a < b
  pub high : b ≤ most_buses

module _ (rows : Rows) (a b k : ℕ) (l : length rows ≡ rows_length) (p : Pair a b) where
  lower : Seen rows a b
  lower = record { from = p.one; held = omega (arith, p.less, p.high); to = omega (arith, p.less) }

  abbrev half : Rows
  half = with_end rows a b k

  higher : Seen half b a
  higher = record { from = omega (arith, p.less); held = omega (arith, end_length rows a b k lower, p.high); to = p.one }

  -- what a sees of b stays when b sees a
  back_there : SameSeen half (with_line rows a b k) a b
  unfolding with_line
  back_there = end_there half b a k higher a b (λ e f. omega (arith, p.less))

  pub line_here : joined (with_line rows a b k) a b ≡ 1
  line_here = same-joined back_there ∙ end_joined rows a b k lower

  pub line_back : joined (with_line rows a b k) b a ≡ 1
  unfolding with_line
  line_back = end_joined half b a k higher

  pub count_here : k < 2 * most_circuits → circuits (with_line rows a b k) a b ≡ k
  count_here m = same-circuits back_there ∙ end_circuits rows a b k lower m

  pub count_back : k < 2 * most_circuits → circuits (with_line rows a b k) b a ≡ k
  unfolding with_line
  count_back m = end_circuits half b a k higher m

  pub line_other : (i j : ℕ) → ((i ≡ a) → (j ≡ b) → ⊥) → ((i ≡ b) → (j ≡ a) → ⊥) → SameSeen rows (with_line rows a b k) i j
  unfolding with_line
  line_other i j n m = same_after (end_there rows a b k lower i j n) (end_there half b a k higher i j m)

  -- of two buses, the lower first, the other way round is no other line
  pub line_there : (i j : ℕ) → Pair i j → ((i ≡ a) → (j ≡ b) → ⊥) → SameSeen rows (with_line rows a b k) i j
  line_there i j q n = line_other i j n (λ e f. omega (arith, p.less, q.less))

  -- there are still as many sets
  pub line_rows : length (with_line rows a b k) ≡ rows_length
  unfolding with_line
  line_rows = end_length half b a k higher ∙ end_length rows a b k lower ∙ l
