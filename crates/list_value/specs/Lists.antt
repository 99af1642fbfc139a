-- Lists of steps by value, as a contract sees them.
use Rattle.std.specs.Prelude.{ℕ, List, ◌-◌, length, get_or, replicate}
use Rattle.fixed_list.specs.Lists.{ListParts}
use Rattle.grid.specs.Limits.{most_buses}
use Rattle.step.specs.Records.{no_step}
use Rattle.step.specs.declared.Step.{Step}

-- a list by value
abbrev pub StepList : Type 0
StepList = ListParts Step

-- the steps of a list by value
abbrev pub listed_steps : StepList → List Step
listed_steps l = l.items

-- the step at i, counted from 0, and a blank past the last one
abbrev pub nth_of : StepList → ℕ → Step
nth_of l i = get_or l.items i no_step

-- the list by value that has the steps xs, and blanks after them
abbrev pub list_of : List Step → StepList
list_of xs = record { items = xs; free = replicate (most_buses - length xs) no_step }
