-- Steps in lent records.
use Rattle.std.specs.Prelude.{List, ◌++◌, ℕ, zero, suc, length, drop, set}
use Rattle.step.specs.declared.Reason.TheVariants.{OwnUnit}
use Rattle.step.specs.declared.Step.{Step}

-- what stands past the end of a list
abbrev pub no_step : Step
no_step = record { bus = 0; reason = OwnUnit }

-- the first records hold the list, and the others what they held
abbrev pub written_into : List Step → List Step → List Step
written_into xs before = xs ++ drop (length xs) before

-- the records with the first k steps in their places, where the step at each place, counted from 0, is told
abbrev pub put_first : ℕ → (ℕ → Step) → List Step → List Step
put_first zero told before = before
put_first (suc k) told before = set (put_first k told before) k (told k)
