-- The sets are in bus order, so set i of bus b is at bus_sets * (b - 1) + i.
use mathlib.Core.Path.{ap, ◌∙◌}
use native.Mathlib.Omega.{arith}
use Rattle.std.proofs.lemmas.List.{get_or_default}
use Rattle.busset.specs.Sets.{set_of}
use Rattle.busset.specs.Held.{empty_word}
use Rattle.grid.proofs.Rows.{set-at}
use Rattle.grid.proofs.set_at.Goals as goal

pub returns : goal.returns
returns c = let b = c.requires.0 in
    ap set_of (get_or_default c.args.nbr.now _ _ empty_word (omega arith))
    ∙ set-at c.args.nbr.now c.args.b c.args.i b.some
