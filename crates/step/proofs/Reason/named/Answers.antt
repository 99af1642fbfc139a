-- By the reason, as `named_by`.
use Rattle.step.proofs.Reason.named.Goals as goal

pub returns-in-NeighbourOf : goal.returns-in-NeighbourOf
returns-in-NeighbourOf c = cc

pub returns-in-ZeroInjection : goal.returns-in-ZeroInjection
returns-in-ZeroInjection c = cc
