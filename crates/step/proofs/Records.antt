-- Steps put into lent records one after another: the records stay as many, and in the end hold the list.
use mathlib.Core.Path.{◌≡◌, sym, ap, ◌∙◌, subst}
use mathlib.Core.List.{List, ◌++◌}
use Prim.Native.Nat.{ℕ, zero, suc, ◌+◌, ◌≤◌, ◌<◌}
use native.Mathlib.Numerals.{add-one}
use native.Mathlib.Omega.{arith}
use lib.ListN.{length, take, drop, get_or, set}
use Rattle.step.specs.declared.Step.{Step}
use Rattle.step.specs.Records.{no_step, put_first}
use Rattle.step.proofs.Writing.{WrittenSoFar, written_none, written-more}

pub put_next : (k : ℕ) (told : ℕ → Step) (before : List Step) (x : Step) → x ≡ told k
    → set (put_first k told before) k x ≡ put_first (k + 1) told before
put_next k told before x e = ap (set (put_first k told before) k) e ∙ ap (λ (j : ℕ). put_first j told before) (sym (add-one k))

put_written : (xs before : List Step) (told : ℕ → Step) (k : ℕ) → ((i : ℕ) → i < k → told i ≡ get_or xs i no_step) → k ≤ length xs
    → k ≤ length before
    → WrittenSoFar xs before (put_first k told before) k
put_written xs before told zero is few fits = written_none xs before
put_written xs before told (suc k) is few fits =
    subst (λ (x : Step). WrittenSoFar xs before (set (put_first k told before) k x) (suc k)) (sym (is k (omega arith)))
    (subst (WrittenSoFar xs before (set (put_first k told before) k (get_or xs k no_step))) (add-one k)
    (written-more no_step (put_written xs before told k (λ i l. is i (omega arith)) (omega arith) (omega arith)) few fits))

-- the first k records hold the first k steps of xs, and the others what they held
pub put_first_lem : (xs before : List Step) (told : ℕ → Step) (k : ℕ) → ((i : ℕ) → i < k → told i ≡ get_or xs i no_step) → k ≤ length xs
    → k ≤ length before
    → put_first k told before ≡ take k xs ++ drop k before
put_first_lem xs before told k is few fits = (put_written xs before told k is few fits).is
