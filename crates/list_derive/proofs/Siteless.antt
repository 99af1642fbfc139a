-- No reason reads the sites: what is proved of the grid with no site is so of the grid with any.
use Rattle.std.specs.Prelude.{Option, Some, None}
use Prim.Native.Nat.{ℕ}
use mathlib.Core.Path.{ap}
use native.Mathlib.Omega.{arith}
use Rattle.busset.specs.Sets.{bit, Within, set_of}
use Rattle.busset.specs.Held.{SetWord, empty_word}
use Rattle.busset.proofs.Digits.{bit-zero}
use Rattle.busset.proofs.Words.{set-empty}
use Rattle.step.specs.declared.Step.{Step}
use Rattle.rules.specs.Grids.{Proper}
use Rattle.rules.proofs.Reasons.{holds-sites}
use Rattle.rules.proofs.Derivations.{SameReasons, finished-to, next-to, derived-to}
use Rattle.grid.specs.Rows.{Rows, neighbours}
use Rattle.grid.specs.Cases.{grid_with, Lines}
use Rattle.list_value.specs.Lists.{StepList}
use Rattle.list_derive.specs.Deriving.{Derives}
use Rattle.list_derive.specs.Searching.{NextAnswer}

module _ (n : ℕ) (rows : Rows) (zeros units : SetWord) where
  pub siteless_proper : Lines n (neighbours rows) → Within n (set_of zeros) → Within n (set_of units)
      → Proper (grid_with n rows zeros empty_word units)
  siteless_proper l z u = record {
    lines = l;
    zeros = z;
    sites = λ b h. absurd (omega (arith, ap (λ (s : ℕ). bit s b) set-empty, bit-zero b));
    units = u;
  }

  any_sites : (sites : SetWord) → SameReasons (grid_with n rows zeros empty_word units) (grid_with n rows zeros sites units)
  any_sites sites = record {
    to = holds-sites (grid_with n rows zeros empty_word units) (set_of sites);
    from = holds-sites (grid_with n rows zeros sites units) (set_of empty_word);
  }

  pub derives_sites : (sites : SetWord) {l : StepList} → Derives (grid_with n rows zeros empty_word units) l
      → Derives (grid_with n rows zeros sites units) l
  derives_sites sites d = record { derived = derived-to (any_sites sites) d.derived; is = d.is }

  pub next_sites : (sites s : ℕ) (answer : Option Step) → NextAnswer (grid_with n rows zeros empty_word units) s answer
      → NextAnswer (grid_with n rows zeros sites units) s answer
  next_sites sites s (Some x) n = next-to (any_sites sites) n
  next_sites sites s None f = finished-to (any_sites sites) f
