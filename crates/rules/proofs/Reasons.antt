-- The reasons: they go on holding in a larger set, and a set is closed under O1 and O2 exactly when it is closed under them.
-- A later rule adds a case to each of these laws, and no other theorem names a reason.
use Rattle.std.specs.Prelude.{Option, Some, None}
use Prim.Native.Nat.{ℕ, ◌≤◌}
use native.Mathlib.Omega.{arith}
use Rattle.busset.specs.Sets.{Bus, In, Sub}
use Rattle.busset.proofs.Members.{sub_of, bus-more}
use Rattle.step.specs.declared.Reason.{Reason}
use Rattle.step.specs.declared.Reason.TheVariants.{OwnUnit, NeighbourOf, ZeroInjection}
use Rattle.step.specs.declared.Step.{Step}
use Rattle.step.specs.Reasons.{named_by}
use Rattle.rules.specs.Grids.{Grid, with_sites_and_units, Proper}
use Rattle.rules.specs.Observation.{Closed}
use Rattle.rules.specs.Steps.{Holds, Allowed, BusIfNamed, ReasonNames, Names}

-- on the way: s is closed under the reasons, that is, it has every bus for which one holds
abbrev pub HasReasoned : Grid → ℕ → Type 0
HasReasoned g s = (b : ℕ) (r : Reason) → Holds g s b r → In s b

-- a reason that holds goes on holding in a larger set
pub holds_more : (g : Grid) (s t b : ℕ) → Sub s t → (r : Reason) → Holds g s b r → Holds g t b r
holds_more g s t b sub OwnUnit h = h
holds_more g s t b sub (NeighbourOf p) h = h
holds_more g s t b sub (ZeroInjection w) h = record {
  class = h.class;
  observed = omega (arith, sub w, h.observed);
  joined = h.joined;
  others = λ a m ne. omega (arith, sub a, h.others a m ne);
}

-- no reason reads the sites
pub holds-sites : (g : Grid) (sites s b : ℕ) (r : Reason) → Holds g s b r → Holds (with_sites_and_units g sites g.units) s b r
holds-sites g sites s b OwnUnit h = h
holds-sites g sites s b (NeighbourOf p) h = h
holds-sites g sites s b (ZeroInjection w) h = h

pub closed_reasoned : (g : Grid) (s : ℕ) → Closed g s → HasReasoned g s
closed_reasoned g s cl b OwnUnit h = cl.direct.own b h
closed_reasoned g s cl b (NeighbourOf p) h = omega (arith, cl.direct.near p h.unit b, h.joined)
closed_reasoned g s cl b (ZeroInjection w) h = cl.zeros.o2 w h.class h.observed b h.joined h.others

pub reasoned_closed : (g : Grid) (s : ℕ) → HasReasoned g s → Closed g s
reasoned_closed g s has = record {
  direct = record {
    own = λ b h. has b OwnUnit h;
    near = λ p h. sub_of (g.neighbours p) s (λ b j. has b (NeighbourOf p) (record { unit = h; joined = j }));
  };
  zeros = record { o2 = λ w z o b j rest. has b (ZeroInjection w) (record { class = z; observed = o; joined = j; others = rest }) };
}

-- a bus for which a reason holds is a bus of the grid, and so is the one that the reason names
pub holds-bus : (g : Grid) (s b : ℕ) → Proper g → (r : Reason) → Holds g s b r → Bus g.n b
holds-bus g s b v OwnUnit h = v.units b h
holds-bus g s b v (NeighbourOf p) h = (v.lines p b h.joined).to
holds-bus g s b v (ZeroInjection w) h = (v.lines w b h.joined).to

pub allowed-bus : {g : Grid} {s : ℕ} {x : Step} → Proper g → Allowed g s x → Bus g.n x.bus
allowed-bus {g} {s} {x} v a = holds-bus g s x.bus v x.reason a.holds

pub holds-names : (g : Grid) (s b : ℕ) → Proper g → (r : Reason) → Holds g s b r → ReasonNames g.n r
holds-names g s b v OwnUnit h = tt
holds-names g s b v (NeighbourOf p) h = (v.lines p b h.joined).from
holds-names g s b v (ZeroInjection w) h = (v.lines w b h.joined).from

-- buses 1 to n are buses 1 to m
pub names_more : {n m : ℕ} {x : Step} → Names n x → n ≤ m → Names m x
names_more {n} {m} {x} h l = record { bus = bus-more h.bus l; reason = go (named_by x.reason) h.reason }
  where
    go : (b : Option ℕ) → BusIfNamed n b → BusIfNamed m b
    go None q = tt
    go (Some p) q = bus-more q l

-- an allowed step names buses of the grid
pub allowed-names : {g : Grid} {s : ℕ} {x : Step} → Proper g → Allowed g s x → Names g.n x
allowed-names {g} {s} {x} v a = record { bus = allowed-bus v a; reason = holds-names g s x.bus v x.reason a.holds }
