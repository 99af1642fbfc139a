-- The report of a case: the steps of its derivation, and the text that it asks for.
use mathlib.Core.Path.{◌≡◌, ◌∙◌}
use mathlib.Core.List.{List, [], ◌∷◌}
use Prim.Native.Nat.{ℕ, ◌≤◌}
use native.Mathlib.Omega.{arith}
use lib.ListN.{length}
use Rattle.busset.specs.Sets.{Counted, empty, width, set_of}
use Rattle.step.specs.declared.Step.{Step}
use Rattle.rules.specs.Grids.{Grid, Proper}
use Rattle.rules.specs.Steps.{Names, reached}
use Rattle.basics.specs.Lists.{Each}
use Rattle.rules.specs.Derivation.{Derivation}
use Rattle.rules.specs.Confirming.{UnconfirmedSet}
use Rattle.rules.proofs.Reasons.{names_more}
use Rattle.rules.proofs.Leasts.{observed-few}
use Rattle.rules.proofs.Lists.{accepted-names}
use Rattle.rules.proofs.Derivations.{derived-accepted, derivation-least, derivation_length}
use Rattle.grid.specs.Rows.{neighbours}
use Rattle.grid.specs.Cases.{grid_of, Valid}
use Rattle.grid.specs.declared.Case.{Case}
use Rattle.report_day.specs.Day.{day_text, DayReport}
use Rattle.report_day.specs.Listing.{Named}

-- ---- the derivation

each_more : {n m : ℕ} → n ≤ m → (xs : List Step) → Each (Names n) xs → Each (Names m) xs
each_more h [] e = tt
each_more h (x ∷ xs) e = (names_more e.0 h, each_more h xs e.1)

-- its steps name buses 1 to width
pub derivation-named : {g : Grid} {xs : List Step} → Proper g → g.n ≤ width → Derivation g xs → Each (Names width) xs
derivation-named {g} {xs} v h d = each_more h xs (accepted-names v empty xs (derived-accepted d).0)

pub derived-named : {c : Case} {xs : List Step} → Valid c → Derivation (grid_of c) xs → Named xs
derived-named {c} {xs} v d = record {
  few =
      omega (
        arith,
        derivation_length (grid_of c) xs d,
        observed-few v.proper (derivation-least (grid_of c) xs d),
        v.buses.most,
      );
  named = derivation-named v.proper v.buses.most d;
}

-- ---- its text

-- the text put is the report: the list has one step for each observed bus
pub reported : {c : Case} {xs : List Step} {alone k : ℕ} → Derivation (grid_of c) xs
    → UnconfirmedSet (neighbours c.nbr) (set_of c.units) alone → Counted width alone k
    → (t : List ℕ) → t ≡ day_text (length xs) c.n xs k → DayReport c t
reported {c} {xs} {alone} d u counted t e = record {
  observed = reached xs;
  least = derivation-least (grid_of c) xs d;
  steps = xs;
  derived = d;
  unconfirmed = alone;
  verdict = u;
  is = e ∙ (λ i. day_text (derivation_length (grid_of c) xs d i) c.n xs (counted.is i));
}
