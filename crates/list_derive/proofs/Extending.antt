-- The derivation, step after step.
use mathlib.Core.Path.{◌≡◌, sym, ap, ◌∙◌, subst, subst⁻¹}
use mathlib.Core.List.{List, [], ◌∷◌, ◌++◌, append-nil, append_assoc}
use Prim.Native.Nat.{ℕ, ◌≤◌, ◌<◌}
use native.Mathlib.Omega.{arith}
use lib.ListN.{length, length-append, drop}
use Rattle.grid.specs.Limits.{most_buses}
use Rattle.busset.specs.Sets.{Bus, bit, Within, With, empty, add, size}
use Rattle.busset.proofs.Digits.{bit-zero}
use Rattle.busset.proofs.Members.{with-add, add-of}
use Rattle.busset.proofs.Sizes.{size-add, size-empty, size-most}
use Rattle.step.specs.declared.Step.{Step}
use Rattle.rules.specs.Grids.{Grid, Proper}
use Rattle.rules.specs.Steps.{Finished}
use Rattle.rules.specs.Derivation.{NextIs, DerivedFrom, finished, next, Derivation}
use Rattle.rules.proofs.Reasons.{allowed-bus}
use Rattle.list_value.specs.Lists.{StepList, list_of}
use Rattle.list_value.proofs.Listing.{pushed-list}
use Rattle.list_derive.specs.Deriving.{Derives}

-- the list so far reaches s, and whatever derives the rest from there derives the whole
pub record Extends (g : Grid) (s : ℕ) (l : StepList) : Type 0 where
  pub is : l ≡ list_of l.items
  pub count : length l.items ≡ size s
  pub within : Within g.n s
  pub whole : (ys : List Step) → DerivedFrom g s ys → Derivation g (l.items ++ ys)

pub extends-none : (g : Grid) {s : ℕ} {l : StepList} → s ≡ empty → l ≡ list_of [] → Extends g s l
extends-none g {s} {l} e q = subst⁻¹ (Extends g s) q (record {
  is = cc;
  count = sym (ap size e ∙ size-empty);
  within = λ b h. absurd (omega (arith, ap (λ (x : ℕ). bit x b) e, bit-zero b));
  whole = λ ys d. subst (λ (x : ℕ). DerivedFrom g x ys) e d;
})

-- as many steps as buses, which are those of the grid
pub extends-few : {g : Grid} {s : ℕ} {l : StepList} {x : Step} → Proper g → g.n ≤ most_buses → NextIs g s x → Extends g s l
    → length l.items < most_buses
extends-few {g} {s} {l} {x} v most n e =
    omega (
      arith,
      e.count,
      size-add s x.bus n.allowed.new,
      size-most g.n (add s x.bus)
          (add-of {P = Bus g.n} s x.bus (allowed-bus v n.allowed) e.within),
    )

pub extends-more : {g : Grid} {s : ℕ} {l m : StepList} {x : Step} {t : ℕ} → Proper g → g.n ≤ most_buses → NextIs g s x
    → Extends g s l → m.items ≡ l.items ++ (x ∷ []) → m.free ≡ drop 1 l.free → With s x.bus t → Extends g t m
extends-more {g} {s} {l} {m} {x} {t} v most n e p f w = record {
  is = pushed-list x e.is (extends-few v most n e) p f;
  count = ap length p ∙ length-append l.items (x ∷ []) ∙ omega (arith, e.count, size-add s x.bus n.allowed.new, ap size (with-add w));
  within = subst⁻¹ (Within g.n) (with-add w) (add-of {P = Bus g.n} s x.bus (allowed-bus v n.allowed) e.within);
  whole = λ ys d.
      subst⁻¹ (λ (zs : List Step). Derivation g (zs ++ ys)) p
      (subst⁻¹ (Derivation g) (append_assoc l.items (x ∷ []) ys)
      (e.whole (x ∷ ys) (next n (subst (λ (z : ℕ). DerivedFrom g z ys) (with-add w) d))));
}

pub extends-all : {g : Grid} {s : ℕ} {l : StepList} → Extends g s l → Finished g s → Derives g l
extends-all {g} {s} {l} e f = record {
  derived = subst (Derivation g) (append-nil l.items) (e.whole [] (finished f));
  is = e.is;
}
