-- By whether a bus is named: the letters are asked as `reason_of` asks them.
use Rattle.step.proofs.Reason.of.Goals as goal

pub returns-in-None : goal.returns-in-None
returns-in-None c = rw c.in-None.is c.if_letter.ensures

pub returns-in-Some : goal.returns-in-Some
returns-in-Some c = rw (c.in-Some.is, ← c.if_letter-zero.ensures) c.if_letter-in-Some.ensures
