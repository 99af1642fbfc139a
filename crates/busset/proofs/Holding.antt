-- A word with one bus more: what is in it, and that it is what `With` gives.
use mathlib.Core.Path.{◌≡◌, refl, sym, ap, ◌∙◌}
use mathlib.Core.Bool.{Bool, true, false, cond}
use Prim.Native.Nat.{ℕ, ◌≤◌}
use native.Mathlib.Omega.{arith}
use Rattle.busset.specs.Sets.{bit, In, Out, add, set_of, With}
use Rattle.busset.specs.Held.{SetWord, word_of, IsWord, hold, hold_if}
use Rattle.busset.proofs.Digits.{bit-low}
use Rattle.busset.proofs.Members.{add-here, add-there, with-add}
use Rattle.busset.proofs.Words.{set-zero, set_inj}

-- every word is the word of its set
pub word_own : (w : SetWord) → IsWord w
unfolding set_of word_of
word_own w = omega arith

-- so a set has one word
pub same_word : {v w : SetWord} → IsWord v → IsWord w → set_of v ≡ set_of w → v ≡ w
same_word p q e = p ∙ ap word_of e ∙ sym q

pub word_set : (s : ℕ) → Out s 0 → set_of (word_of s) ≡ s
unfolding set_of word_of
word_set s z = omega (arith, bit-low s)

pub word_add : (s b : ℕ) → Out s 0 → 1 ≤ b → set_of (word_of (add s b)) ≡ add s b
word_add s b z l = word_set (add s b) (add-there s b 0 (λ e. omega arith) ∙ z)

pub set-hold : (w b : ℕ) → 1 ≤ b → set_of (hold w b) ≡ add (set_of w) b
unfolding hold
set-hold w b l = word_add (set_of w) b (set-zero w) l

pub hold-here : (w b : ℕ) → 1 ≤ b → In (set_of (hold w b)) b
hold-here w b l = ap (λ (s : ℕ). bit s b) (set-hold w b l) ∙ add-here (set_of w) b

pub hold-there : (w b a : ℕ) → 1 ≤ b → (a ≡ b → ⊥) → bit (set_of (hold w b)) a ≡ bit (set_of w) a
hold-there w b a l ne = ap (λ (s : ℕ). bit s a) (set-hold w b l) ∙ add-there (set_of w) b a ne

pub hold-is : (w b : ℕ) {r : ℕ} → 1 ≤ b → With (set_of w) b (set_of r) → r ≡ hold w b
hold-is w b {r} l h = set_inj r (hold w b) (with-add h ∙ sym (set-hold w b l))

-- the same, of a word that holds s
pub with-is : (v : SetWord) {r : SetWord} (s b : ℕ) → 1 ≤ b → set_of v ≡ s → With (set_of v) b (set_of r) → r ≡ word_of (add s b)
unfolding hold
with-is v s b l e w = hold-is v b l w ∙ ap (λ (x : ℕ). word_of (add x b)) e

-- ---- with the bus, or as it was

pub if_here : (t : Bool) (w b : ℕ) → 1 ≤ b → Out (set_of w) b → bit (set_of (hold_if t w b)) b ≡ cond t 1 0
if_here true w b l o = hold-here w b l
if_here false w b l o = o

pub if_there : (t : Bool) (w b a : ℕ) → 1 ≤ b → (a ≡ b → ⊥) → bit (set_of (hold_if t w b)) a ≡ bit (set_of w) a
if_there true w b a l ne = hold-there w b a l ne
if_there false w b a l ne = refl
