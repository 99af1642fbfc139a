-- What a call tries: why covers with the units that are chosen have one of each kept group, and why a site that was tried may go.
use mathlib.Core.Path.{◌≡◌, ap, ◌∙◌, subst, subst⁻¹}
use mathlib.Core.List.{List}
use mathlib.Core.Logic.{⊎_elim}
use Prim.Native.Nat.{ℕ, ◌-◌, ◌≤◌, ◌<◌, max}
use native.Mathlib.Omega.{arith}
use native.Mathlib.Nat.{le_refl}
use lib.Bits.{bit_or}
use lib.ListN.{get_or}
use Rattle.basics.proofs.Tests.{same_or}
use Rattle.busset.specs.Sets.{bit, In, Out, Sub, empty, add, less, meet, lack, size, set_of, Both, With, Without}
use Rattle.busset.specs.Held.{SetWord}
use Rattle.busset.proofs.Digits.{bit-or, bit-zero}
use Rattle.busset.proofs.Members.{in_or, meet-at, lack-at, without_sub, with-add}
use Rattle.busset.proofs.Sizes.{size-le, size-some}
use Rattle.rules.specs.Grids.{Grid, with_sites_and_units}
use Rattle.rules.specs.Observation.{Closed, ObservedSet}
use Rattle.rules.specs.Placing.{with_units, Full}
use Rattle.rules.proofs.Covering.{closed-fewer}
use Rattle.place_light.specs.Ways.{Group, direct, Cover, Uncoverable}
use Rattle.place_light.proofs.Covers.{closed-more, meets-to, meets-none, meets-few, without-less, without_out, cover_less}
use Rattle.place_pool.specs.Pool.{KeptGroups}
use Rattle.place_pool.specs.Asking.{MeetsKept, Says}
use Rattle.place_bound.specs.Shrinking.{Beside}
use Rattle.place_bound.specs.Branches.{ChosenUnits, ToTry, Open}
use Rattle.place_pool.specs.declared.Hints.{Hints}
use Rattle.place_bound.proofs.Grouping.{beside-group}
use Rattle.place_pool.proofs.Saying.{meets-left}

-- ---- the units that are chosen

pub chosen_none : (g : Grid) (free : ℕ) → ChosenUnits g free g.units
chosen_none g free = record { holds = λ b. le_refl (bit g.units b); of = λ x h o. absurd (omega arith) }

pub chosen_more : {g : Grid} {free units x more : ℕ} → ChosenUnits g free units → In free x → With units x more → ChosenUnits g free more
chosen_more {g} {free} {units} {x} {more} c h w = record {
  holds = λ b. ⊎_elim
      (λ (e : b ≡ x). subst⁻¹ (λ (z : ℕ). bit g.units z ≤ bit more z) e (omega (arith, w.here)))
      (λ (ne : b ≡ x → ⊥). omega (arith, c.holds b, w.there b ne))
      (same_or b x);
  of = λ b i o. ⊎_elim
      (λ (e : b ≡ x). subst⁻¹ (In free) e h)
      (λ (ne : b ≡ x → ⊥). c.of b (omega (arith, w.there b ne)) o)
      (same_or b x);
}

-- a cover beside them is, with those that are new, a cover of the free sites
chosen_cover : (g : Grid) {free units sites k v : ℕ} → ChosenUnits g free units → Sub sites free → Cover (with_units g units) sites k v
    → Cover g free (size (bit_or v (lack units g.units))) (bit_or v (lack units g.units))
chosen_cover g {free} {units} {sites} {k} {v} c sub w = record {
  of = λ b. ⊎_elim
      (λ (p : In (lack units g.units) b).
      let i = c.of b (omega (arith, lack-at units g.units b)) (omega (arith, lack-at units g.units b)) in
      omega (arith, has b))
      (λ (p : Out (lack units g.units) b). omega (arith, has b, w.of b, sub b))
      (in_or (lack units g.units) b);
  few = le_refl (size (bit_or v (lack units g.units)));
  full = λ s cl gives. w.full s
      (closed-more g units cl (λ x h o. gives x (omega (arith, has x, lack-at units g.units x))))
      (λ x h. gives x (omega (arith, has x)));
}
  where
    has : (b : ℕ) → bit (bit_or v (lack units g.units)) b ≡ max (bit v b) (bit (lack units g.units) b)
    has b = bit-or v (lack units g.units) b

-- so that it has one of each kept group that they do not meet
pub kept_cover : (g : Grid) {free units sites k v : ℕ} {pool : List SetWord} → ChosenUnits g free units
    → KeptGroups g (direct g.neighbours) free pool
    → Sub sites free → Cover (with_units g units) sites k v
    → MeetsKept pool units v
kept_cover g {free} {units} {sites} {k} {v} {pool} c kept sub w = record {
  met = λ i d l some none. meets-to (set_of (get_or pool i d)) v
      (λ b p q. (
        p,
        omega (
          arith,
          bit-or v (lack units g.units) b,
          lack-at units g.units b,
          meet-at (set_of (get_or pool i d)) units b,
          ap (λ (s : ℕ). bit s b) none,
          bit-zero b,
        ),
      ))
      ((kept.groups i d l some).met _ _ (chosen_cover g c sub w));
}

-- no rule reads the sites
pub observed_whatever : {g : Grid} {s : ℕ} (sites : ℕ) → ObservedSet g s → ObservedSet (with_sites_and_units g sites g.units) s
observed_whatever sites l = record {
  closed = record { direct = l.closed.direct; zeros = l.closed.zeros };
  least = λ t cl. l.least t (record { direct = cl.direct; zeros = cl.zeros });
}

-- what is found beside a set that satisfies the rules with them is a group of the free sites
pub chosen-group : {g : Grid} {free units s r : ℕ} → ChosenUnits g free units → Closed (with_units g units) s → (Full g.n s → ⊥)
    → Beside g.n g.neighbours g.zeros free s r
    → Group g (direct g.neighbours) free r
chosen-group {g} {free} ch cl misses b = beside-group free (closed-fewer g ch.holds cl) misses (λ x. le_refl (bit free x)) b

-- ---- what is tried

-- those that were asked say so much of every cover
pub try_said : {g : Grid} {sites k tries : ℕ} (a : Hints) → ((v : ℕ) → Cover g sites k v → Says a v) → 0 < a.apart
    → Both (set_of a.tries) sites tries
    → ToTry g sites k sites tries
try_said a says some t = record { within = λ v w. w.of; meets = λ v w. meets-left t w.of ((says v w).meets some) }

-- a group of the sites
pub try_group : {g : Grid} {sites k w tries : ℕ} → Group g (direct g.neighbours) sites w → Both w sites tries
    → ToTry g sites k sites tries
try_group {k = k} group t = record { within = λ v w. w.of; meets = λ v w. meets-left t w.of (group.met k v w) }

-- nothing, where there is no cover
pub try_none : {g : Grid} {sites k : ℕ} (tries : ℕ) → Uncoverable g sites k → ToTry g sites k sites tries
try_none tries none = record { within = λ v w. w.of; meets = λ v w. absurd (none v w) }

-- more groups apart than units
pub said-apart : {g : Grid} {sites k : ℕ} (a : Hints) → ((v : ℕ) → Cover g sites k v → Says a v) → k < a.apart → Uncoverable g sites k
said-apart a says many v w =
    omega (arith, (says v w).apart, w.few, size-le (meet (set_of a.used) v) v (λ b. omega (arith, meet-at (set_of a.used) v b)))

-- a bus is missing, and no unit is left
pub missing_none : {g : Grid} {s sites k : ℕ} → Closed g s → (Full g.n s → ⊥) → k ≡ 0 → Uncoverable g sites k
missing_none {s = s} cl misses e v w = misses (w.full s cl (λ x h. let some = size-some v x h in absurd (let few = w.few in omega arith)))

-- a group, and no unit
pub group-none : {g : Grid} {sites k w : ℕ} → Group g (direct g.neighbours) sites w → k ≡ 0 → Uncoverable g sites k
group-none {k = k} group e v w = omega (arith, meets-few (group.met k v w), w.few)

-- ---- which sites these are

pub open_none : {sites k tries : ℕ} → tries ≡ empty → Open sites k tries
open_none e = record {
  of = λ b. omega (arith, ap (λ (s : ℕ). bit s b) e, bit-zero b);
  some = λ x h. absurd (omega (arith, ap (λ (s : ℕ). bit s x) e, bit-zero x));
}

pub open_fewer : {sites k tries x rest : ℕ} → Open sites k tries → Without tries x rest → Open sites k rest
open_fewer o w = record {
  of = λ b. omega (arith, o.of b, without_sub w b);
  some = λ x h. o.some x (omega (arith, without_sub w x));
}

-- ---- one after another

-- where no cover has x, it goes from those left and from those to try
pub try_more : {g : Grid} {sites k x left tries left' tries' more : ℕ} → ToTry g sites k left tries → Without left x left'
    → Without tries x tries'
    → With g.units x more → 0 < k → Uncoverable (with_units g more) left' (k - 1)
    → ToTry g sites k left' tries'
try_more {g} {sites} {k} {x} {left} {tries} {left'} {tries'} t w o m some none = record {
  within = λ v c. without_out w v (t.within v c) (out v c);
  meets = λ v c. meets-to tries' v (λ b p q. (o.there b (λ e. here v c b e q) ∙ p, q)) (t.meets v c);
}
  where
    less_none : Uncoverable (with_units g (add g.units x)) left' (k - 1)
    less_none = subst (λ (u : ℕ). Uncoverable (with_units g u) left' (k - 1)) (with-add m) none

    out : (v : ℕ) → Cover g sites k v → Out v x
    out v c =
        ⊎_elim
        (λ (p : In v x). absurd (less_none (less v x) (cover_less x c p (without-less w v (t.within v c)) some)))
        (λ (p : Out v x). p)
        (in_or v x)

    here : (v : ℕ) → Cover g sites k v → (b : ℕ) → b ≡ x → In v b → ⊥
    here v c b e q = omega (arith, out v c, ap (bit v) e)

-- none is left to try
pub try_ended : {g : Grid} {sites k left tries : ℕ} → ToTry g sites k left tries → tries ≡ empty → Uncoverable g sites k
try_ended t e v w = meets-none e (t.meets v w)
