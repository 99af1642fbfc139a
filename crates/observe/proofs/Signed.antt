-- A signed sum of small numbers fits, and is what the integers say. `mag z` is n for n and for -(n + 1).
use mathlib.Core.Path.{◌≡◌, sym, ap, ◌∙◌}
use Prim.Native.Nat.{ℕ, suc, ◌+◌, ◌≤◌, ◌<◌, ◌^◌}
use native.Mathlib.Omega.{arith}
use lib.IntN.{ℤ, pos, ◌+ℤ◌, ◌-ℤ◌, +ℤ_assoc, pos-+ℤ-pos}
use mir.Syntax.{w32}
use mir.Val.{to_z}
use mir.Facts.{to_z-of_z}
use Rattle.busset.specs.Sets.{bit, meet, less, size, Both, Without, width}
use Rattle.busset.proofs.Members.{both_meet, without-less}
use Rattle.rules.specs.Figures.{figure}

-- ---- how large a sum is, from its parts

-- ---- the sum, as the machine makes it

-- an unsigned number below the half is itself, read as signed
to_pos : (n : ℕ) → n < 2 ^ 31 → to_z w32 n ≡ pos n
to_pos n h = to_z-of_z {w = w32} {z = pos n} (record { sfits = h })

module _ (degree observed : ℕ) (hd : degree ≤ width) (ho : observed ≤ suc width) where
  degree_is : to_z w32 degree ≡ pos degree
  degree_is = to_pos degree (omega arith)

-- ---- the figure

pub figure_law : (nbr : ℕ → ℕ) (s i j : ℕ) {m b o degree seen others : ℕ} {z : ℤ} → m ≡ nbr i → degree ≡ size m → Both m s b → Without b j o
    → others ≡ size o → seen ≡ bit s i
    → z ≡ pos 1 -ℤ pos degree +ℤ pos (seen + others) → z ≡ figure nbr s i j
unfolding figure
figure_law nbr s i j {m} {b} {o} {degree} {seen} {others} {z} em ed both without eo es ez =
    ez ∙ ap (λ (y : ℤ). pos 1 -ℤ pos degree +ℤ y) (sym (pos-+ℤ-pos seen others))
    ∙ sym (+ℤ_assoc (pos 1 -ℤ pos degree) (pos seen) (pos others))
    ∙ (λ k. pos 1 -ℤ pos (degree_is k) +ℤ pos (es k) +ℤ pos (others_is k))
  where
    degree_is : degree ≡ size (nbr i)
    degree_is = ed ∙ ap size em

    others_is : others ≡ size (less (meet (nbr i) s) j)
    others_is = eo ∙ ap size (without-less without ∙ ap (λ (x : ℕ). less x j) (both_meet both ∙ ap (λ (x : ℕ). meet x s) em))
