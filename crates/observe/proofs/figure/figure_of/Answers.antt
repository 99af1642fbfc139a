-- The two counts are the sizes that `figure` adds and subtracts. The sum fits an i32, so the word is the integer itself.
use mathlib.Core.Path.{◌∙◌}
use mir.Syntax.{w32}
use mir.Val.{SFits}
use mir.Facts.{to_z-of_z}
use Rattle.busset.specs.Sets.{set_of}
use Rattle.grid.specs.Rows.{neighbours}
use Rattle.observe.proofs.Signed.{figure_law}
use borrow.Author.Rules.{rules}
use Rattle.observe.proofs.figure.figure_of.Goals as goal

pub returns : goal.returns
returns c = let fits : SFits w32 c.signed_sum.result = search rules in
    to_z-of_z fits
    ∙ figure_law (neighbours c.args.case.now.nbr) (set_of c.args.s) c.args.i c.args.j
    c.neighbours-m.ensures c.count-degree.ensures.is
    c.both.ensures c.without.ensures c.count-others.ensures.is c.seen.ensures
    c.signed_sum.ensures
