-- One round, bus after bus; and the rounds, one after another.
use mathlib.Core.Path.{◌≡◌, refl, ap, subst, subst⁻¹}
use mathlib.Core.Logic.{⊎_elim}
use mathlib.Core.List.{List, [], ◌∷◌, ◌++◌, append_assoc, append-nil}
use Prim.Native.Nat.{ℕ, ◌+◌, ◌-◌, ◌≤◌, ◌<◌}
use native.Mathlib.Omega.{arith}
use lib.ListN.{length, get_or, length-append, get_or-append}
use lib.Seq.{get_or_at}
use Rattle.basics.proofs.Tests.{same_or, below_or}
use Rattle.busset.specs.Sets.{Bus, bit, In, Within, Union, With, empty, size, set_of}
use Rattle.busset.specs.Held.{SetWord, empty_word}
use Rattle.busset.proofs.Digits.{bit-zero, ext}
use Rattle.busset.proofs.Members.{out_of, empty_of, add-of, with-add}
use Rattle.busset.proofs.Sizes.{size-most}
use Rattle.rules.specs.Grids.{Grid, Proper}
use Rattle.rules.specs.Placing.{placed}
use Rattle.rules.specs.Rounds.{Gives, Round, AddsBus, RoundsFrom, RoundsOf}
use Rattle.rules.proofs.Reasons.{allowed-bus}
use Rattle.rules.proofs.Covering.{rising-to, placed_of, placed_max}
use Rattle.rules.proofs.Rising.{rising-same, members-set, Listing, listing}
use Rattle.rules.proofs.Rounds.{round-size, adds-some}
use Rattle.grid.specs.Limits.{most_buses}
use Rattle.round_list.specs.Rounds.{RoundSet, HoldsBuses, HeldRounds, HasRounds}

-- ---- one round

gives-bus : {g : Grid} {s b : ℕ} → Proper g → Gives g s b → Bus g.n b
gives-bus v h = allowed-bus v h.allowed

-- of the buses below b, those that the round adds are gathered
pub record Gathered (g : Grid) (s new b : ℕ) : Type 0 where
  pub all : (a : ℕ) → a < b → Gives g s a → In new a
  pub only : (a : ℕ) → In new a → Gives g s a

pub gathered_none : {g : Grid} (s : ℕ) {new : ℕ} → Proper g → new ≡ empty → Gathered g s new 1
gathered_none s v e = record {
  all = λ a l h. absurd (omega (arith, (gives-bus v h).some));
  only = λ a h. absurd (omega (arith, ap (λ (t : ℕ). bit t a) e, bit-zero a));
}

-- of those below b + 1: b itself is all that may be new
gathered-more : {g : Grid} {s new t b : ℕ} → Gathered g s new b → ((a : ℕ) → In new a → In t a) → (Gives g s b → In t b)
    → ((a : ℕ) → In t a → Gives g s a) → Gathered g s t (b + 1)
gathered-more {g} {s} {new} {t} {b} h more here only = record {
  all = λ a l k. ⊎_elim (λ (m : a < b). more a (h.all a m k))
      (λ (m : b ≤ a). let e : a ≡ b = omega arith in subst⁻¹ (In t) e (here (subst (Gives g s) e k))) (below_or a b);
  only = only;
}

pub gathered-yes : {g : Grid} {s new t b : ℕ} → Gathered g s new b → Gives g s b → With new b t → Gathered g s t (b + 1)
gathered-yes {g} {s} {new} {t} {b} h k w =
    gathered-more h
    (λ a i. ⊎_elim (λ (e : a ≡ b). subst⁻¹ (In t) e w.here) (λ (ne : a ≡ b → ⊥). omega (arith, w.there a ne)) (same_or a b))
    (λ i. w.here)
    (λ a i. add-of {P = Gives g s} new b k h.only a (subst (λ (x : ℕ). In x a) (with-add w) i))

pub gathered-no : {g : Grid} {s new b : ℕ} → Gathered g s new b → (Gives g s b → ⊥) → Gathered g s new (b + 1)
gathered-no h none = gathered-more h (λ a i. i) (λ k. absurd (none k)) h.only

-- past the last bus all are gathered
pub gathered-all : {g : Grid} {s new b : ℕ} → Proper g → g.n < b → Gathered g s new b → RoundSet g s new
gathered-all v l h = record { all = λ a k. h.all a (omega (arith, (gives-bus v k).most)) k; only = h.only }

pub gathered-to : {g : Grid} {s : ℕ} {v w : SetWord} {b : ℕ} → v ≡ w → Gathered g s (set_of w) b → Gathered g s (set_of v) b
gathered-to {g} {s} {b = b} e h = subst⁻¹ (λ (x : SetWord). Gathered g s (set_of x) b) e h

-- ---- the rounds

-- the rounds so far reach s, and whatever rounds come from there on complete them
pub record RoundsSoFar (g : Grid) (s : ℕ) (sets : List SetWord) : Type 0 where
  pub rounds : List (List ℕ)
  pub held : HeldRounds sets rounds
  pub grown : length sets ≤ size s
  pub within : Within g.n s
  pub whole : (later : List (List ℕ)) → RoundsFrom g s later → RoundsOf g (rounds ++ later)

pub sofar-none : (g : Grid) {s : ℕ} {sets : List SetWord} → s ≡ empty → sets ≡ [] → RoundsSoFar g s sets
sofar-none g {s} {sets} e none = let few : length sets ≡ 0 = ap length none in record {
  rounds = [];
  held = record { count = omega arith; most = omega arith; each = λ i l. absurd (omega arith) };
  grown = omega arith;
  within = λ b h. absurd (omega (arith, ap (λ (t : ℕ). bit t b) e, bit-zero b));
  whole = λ later p. subst (λ (t : ℕ). RoundsFrom g t later) e p;
}

-- a round that adds no bus is the last, and is not listed
pub sofar-all : {g : Grid} {s : ℕ} (new : SetWord) {sets : List SetWord} → RoundSet g s (set_of new) → set_of new ≡ empty
    → RoundsSoFar g s sets → HasRounds g sets
sofar-all {g} {s} new r e a = record {
  rounds = a.rounds;
  are = subst (RoundsOf g) (append-nil a.rounds) (a.whole [] last);
  held = a.held;
}
  where
    last : Round g s []
    last = record { rising = tt; all = λ b h. absurd (omega (arith, r.all b h, ap (λ (t : ℕ). bit t b) e, bit-zero b)) }

members-by : {v w : SetWord} {xs ys : List ℕ} → v ≡ w → xs ≡ ys → HoldsBuses w ys → HoldsBuses v xs
members-by {v} {w} {xs} {ys} e f m = subst⁻¹ (λ (x : SetWord). HoldsBuses x xs) e (subst⁻¹ (HoldsBuses w) f m)

-- one round more: from s it adds the buses of the word `new`, of which there are some
module _ {g : Grid} {s : ℕ} (new : SetWord) (v : Proper g) (r : RoundSet g s (set_of new)) (some : set_of new ≡ empty → ⊥) where
  added : Listing (set_of new)
  added = listing g.n (set_of new) (λ b h. gives-bus v (r.only b h))

  round : Round g s added.list
  round = rising-same r.only r.all added.members

  adds : AddsBus added.list
  adds = go added.list added.members
    where
      go : (xs : List ℕ) → HoldsBuses new xs → AddsBus xs
      go [] m = absurd (some (empty_of (set_of new) (λ b. out_of (set_of new) b (m.all b))))
      go (x ∷ xs) m = tt

  after : {t : ℕ} → Union s (set_of new) t → t ≡ placed s added.list
  after {t} u =
      ext t (placed s added.list)
      (λ b. omega (
        arith,
        u.at b,
        placed_max added.list s b,
        ap (λ (x : ℕ). bit x b) (members-set (set_of new) added.list added.members),
      ))

  larger : size s < size (placed s added.list)
  larger = omega (arith, round-size s added.list round, adds-some added.list adds)

  within : Within g.n s → Within g.n (placed s added.list)
  within w = placed_of 0 added.list s (rising-to 0 0 added.list (omega arith) (λ b l h. gives-bus v h) round.rising) w

  -- there is a place for it
  pub sofar_place : {sets : List SetWord} → g.n ≤ most_buses → RoundsSoFar g s sets → length sets < most_buses
  sofar_place few a = omega (arith, a.grown, larger, size-most g.n (placed s added.list) (within a.within))

  -- and what it leaves is less
  pub sofar_less : {t : ℕ} {sets : List SetWord} → g.n ≤ most_buses → Union s (set_of new) t → RoundsSoFar g s sets
      → most_buses - size t < most_buses - size s
  sofar_less few u a = omega (arith, ap size (after u), larger, size-most g.n (placed s added.list) (within a.within))

  pub sofar_more : {t : ℕ} {sets more : List SetWord} → g.n ≤ most_buses → Union s (set_of new) t → more ≡ sets ++ new ∷ []
      → RoundsSoFar g s sets → RoundsSoFar g t more
  sofar_more {t} {sets} few u e a = subst⁻¹ (RoundsSoFar g t) e (record {
    rounds = a.rounds ++ added.list ∷ [];
    held = record {
      count = omega (arith, length-append a.rounds (added.list ∷ []), a.held.count, long);
      most = omega (arith, sofar_place few a, long);
      each = each;
    };
    grown = omega (arith, a.grown, larger, ap size (after u), long);
    within = subst⁻¹ (Within g.n) (after u) (within a.within);
    whole = λ later p.
        subst⁻¹ (RoundsOf g) (append_assoc a.rounds (added.list ∷ []) later)
        (a.whole (added.list ∷ later) (round, adds, subst (λ (x : ℕ). RoundsFrom g x later) (after u) p));
  })
    where
      long : length (sets ++ new ∷ []) ≡ length sets + 1
      long = length-append sets (new ∷ [])

      HeldAt : ℕ → Type 0
      HeldAt i = HoldsBuses (get_or (sets ++ new ∷ []) i empty_word) (get_or (a.rounds ++ added.list ∷ []) i [])

      each : (i : ℕ) → i < length (sets ++ new ∷ []) → HeldAt i
      each i l =
          ⊎_elim
          (λ (e : i ≡ length sets). subst⁻¹ HeldAt e
          (members-by (get_or_at sets new [] empty_word (length sets) refl)
          (get_or_at a.rounds added.list [] [] (length sets) a.held.count) added.members))
          (λ (ne : i ≡ length sets → ⊥). let m : i < length sets = omega (arith, ne, long) in
          members-by (get_or-append sets (new ∷ []) empty_word i m)
          (get_or-append a.rounds (added.list ∷ []) [] i (omega (arith, a.held.count))) (a.held.each i m))
          (same_or i (length sets))
