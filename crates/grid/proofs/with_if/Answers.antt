-- A word is determined by its set.
use mathlib.Core.Path.{refl, ap, ◌∙◌}
use Rattle.busset.specs.Held.{word_of}
use Rattle.busset.proofs.Holding.{with-is, word_own}
use Rattle.busset.proofs.Members.{without-less}
use Rattle.grid.proofs.with_if.Goals as goal

pub returns-then-t : goal.returns-then-t
returns-then-t c = rw c.if-t.true (with-is _ _ _ c.requires.some refl c.with.ensures)

pub returns : goal.returns
returns c = rw c.if-t.false (word_own _ ∙ ap word_of (without-less c.without.ensures))
