-- Where a line, and what follows it, is in a text.
use Rattle.std.specs.Prelude.{List, ℕ, ◌≤◌, ◌<◌, length}
use Rattle.asked.specs.declared.Line.{Line}

-- its name is within the text, and the next line starts after it
pub record LineAt (text : List ℕ) (at : ℕ) (l : Line) : Type 0 where
  pub named : l.name ≤ l.end
  pub within : l.end ≤ l.next
  pub onward : at < l.next
  pub high : l.next ≤ length text
