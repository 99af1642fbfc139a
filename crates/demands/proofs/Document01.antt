-- What document 01 says besides the demands: each sentence is a theorem of a lower crate, said of the call's promise.
use mathlib.Core.Path.{sym, ◌∙◌, subst⁻¹}
use Prim.Native.Nat.{◌-◌}
use Rattle.grid.specs.Limits.{most_buses}
use Rattle.rules.specs.Figures.{Runs}
use Rattle.rules.proofs.Leasts.{least-empty}
use Rattle.rules.proofs.Figures.{figure-runs, figure-one, one-figure}
use Rattle.grid.specs.Cases.{grid_of}
use Rattle.case_inverse.proofs.Inverse as inverse
use Rattle.step_text.proofs.Found as found
use Rattle.observe_calls.specs.Replies.{stated}
use Rattle.demands.specs.Document01.{Document01}
use Rattle.demands.proofs.Listing.{◌also◌}
use Rattle.demands.proofs.EstimatorResults as results

pub document_01 : Document01
document_01 = record {
  least-empty = least-empty;
  figure_range = λ c s i j z p.
      subst⁻¹ (Runs (most_buses - 2)) p.1
      (figure-runs (grid_of c) (most_buses - 2) (stated c s) i j p.0.0.proper p.0.0.buses.most p.0.1.1.0);
  figure_usable = λ c s i j z p. record {
    observed = λ e. one-figure (grid_of c).neighbours (stated c s) i j p.0.1.1.0 (sym p.1 ∙ e);
    one = λ h b. p.1 ∙ figure-one (grid_of c).neighbours (stated c s) i j p.0.1.1.0 h b;
  };
  one-text = λ x y c p q. inverse.one-text x y c (sym p) (sym q);
  read-valid = λ text c e. (inverse.read-valid text c (sym e)).valid;
  text-within = inverse.text-within;
  written_then_read = λ c z v. sym (inverse.read-written c z v);
  read_then_written = λ text c e. inverse.written-text text c (sym e);
  steps_counted = λ text count e. found.steps-count text count (sym e);
  steps_few = λ text count e. (found.steps-found text count (sym e)).few;
  steps_named = λ text count e. (found.steps-found text count (sym e)).named;
  estimator = results.wz_observed also results.wz_unconfirmed also results.wz_fewest also results.wz_replay also tt;
}
