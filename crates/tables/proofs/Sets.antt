-- The tables of sets: those of operations are computed, and of what is said of every bus, the digits from some bus on are 0.
use mathlib.Core.Path.{◌≡◌, refl}
use mathlib.Core.Bool.{true, false}
use mathlib.Core.List.{List, [], ◌∷◌}
use Prim.Native.Nat.{ℕ, zero, suc, ◌-◌, ◌<◌, max, min}
use native.Mathlib.Omega.{arith}
use Rattle.std.specs.Int.{abs_diff}
use Rattle.busset.specs.Sets.{bit, Out, Within, set_of}
use Rattle.basics.proofs.Tests.{decides-yes, decides-no}
use Rattle.busset.proofs.Members.{add-there, less-there}
use Rattle.busset.proofs.Words.{set-zero}
use Rattle.rules.specs.Grids.{total}
use Rattle.tables.proofs.Words.{set_words, test_words}
use Rattle.tables.proofs.Tests.{within_test, within_passes, sub_passes}
use Rattle.tables.proofs.Listed.{by_bus, all-buses}
use Rattle.tables.proofs.Rows.{◌&◌}
use Rattle.tables.specs.Starred.{word_with}
use Rattle.tables.specs.Tables.{AllRight}
use Rattle.tables.specs.Drawings.{set}
use Rattle.tables.specs.Sets as sets

-- ---- computed

pub digits-right : sets.DigitsRight
unfolding set_of
digits-right = refl

pub words_right : sets.WordsRight
unfolding set_words
words_right = refl

pub holding_right : sets.HoldingRight
unfolding set_words
holding_right = refl

pub holding_if_right : sets.HoldingIfRight
unfolding set_words
holding_if_right = refl

pub bytes-right : sets.BytesRight
unfolding set_words
bytes-right = refl

pub adds-right : sets.AddsRight
unfolding set_words
adds-right = refl

pub lesses_right : sets.LessesRight
unfolding set_words
lesses_right = refl

pub meets-right : sets.MeetsRight
unfolding set_words
meets-right = refl

pub lacks-right : sets.LacksRight
unfolding set_words
lacks-right = refl

pub up_tos_right : sets.UpTosRight
unfolding set_words
up_tos_right = refl

pub sizes_right : sets.SizesRight
unfolding set_words
sizes_right = refl

-- ---- what is said of sets

-- the buses of a list are 1 to 3
inside : (bs : List ℕ) → within_test 3 (set bs) ≡ 0 → Within 3 (set bs)
inside bs e = within_passes 3 (set bs) (set-zero (word_with bs)) e

-- what an operation on digits says of three such lists
listed : (f : ℕ → ℕ → ℕ) (bs cs ds : List ℕ) → f 0 0 ≡ 0 → within_test 3 (set bs) ≡ 0 → within_test 3 (set cs) ≡ 0
    → within_test 3 (set ds) ≡ 0
    → total 3 (λ b. abs_diff (bit (set ds) b) (f (bit (set bs) b) (bit (set cs) b))) ≡ 0
    → (b : ℕ) → bit (set ds) b ≡ f (bit (set bs) b) (bit (set cs) b)
listed f bs cs ds z wb wc wd e = by_bus 3 f (set bs) (set cs) (set ds) z (inside bs wb) (inside cs wc) (inside ds wd) e

pub said-right : AllRight sets.set_table
unfolding test_words
said-right =
    record { some = omega arith; most = omega arith }
    & record { some = omega arith; most = omega arith }
    & (λ h. omega arith)
    & (λ h. omega arith)
    & refl
    & (λ h. omega arith)
    & refl
    & (λ h. omega arith)
    & sub_passes 3 (set (2 ∷ [])) (set (2 ∷ 3 ∷ [])) (inside (2 ∷ []) refl) refl
    & (λ h. omega (arith, h 3))
    & inside (1 ∷ 3 ∷ []) refl
    & (λ h. omega (arith, (h 4 refl).most))
    & record { at = listed max (1 ∷ 2 ∷ []) (2 ∷ 3 ∷ []) (1 ∷ 2 ∷ 3 ∷ []) refl refl refl refl refl }
    & (λ h. omega (arith, h.at 2))
    & record { at = listed min (1 ∷ 2 ∷ []) (2 ∷ 3 ∷ []) (2 ∷ []) refl refl refl refl refl }
    & (λ h. omega (arith, h.at 1))
    & record { at = listed ◌-◌ (1 ∷ 2 ∷ []) (2 ∷ 3 ∷ []) (1 ∷ []) refl refl refl refl refl }
    & (λ h. omega (arith, h.at 3))
    & record { here = refl; there = add-there (set (1 ∷ [])) 2 }
    & (λ h. omega (arith, h.there 1 (λ e. omega arith)))
    & record { here = refl; there = less-there (set (1 ∷ 2 ∷ [])) 2; fewer = λ i. refl }
    & (λ h. omega (arith, h.there 1 (λ e. omega arith)))
    & record { has = refl; below = below; bus = record { some = omega arith; most = omega arith } }
    & (λ h. omega (arith, h.below 3 (omega arith)))
    & record { is = refl; most = omega arith }
    & (λ h. omega (arith, h.is))
    & all-buses 3
    & (λ h. omega (arith, h.has 3 (record { some = omega arith; most = omega arith })))
    & (λ h. omega (arith, (h.only 4 refl).most))
    & decides-yes (omega arith)
    & decides-no (λ l. omega arith)
    & (λ h. let z : false ≡ true = h.no (omega arith) in let y : ◌≡◌ {A = ℕ} 0 1 = cc in omega arith)
    & (λ h. omega (arith, h.yes refl))
    & tt
  where
    below : (a : ℕ) → a < 3 → Out (set (3 ∷ 5 ∷ [])) a
    below zero l = refl
    below (suc zero) l = refl
    below (suc (suc zero)) l = refl
    below (suc (suc (suc a))) l = absurd (omega arith)
