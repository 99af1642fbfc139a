-- A list with a bad step stays as it is; else the step goes as the single-step test says.
use Rattle.rules.proofs.Reasons.{names_more}
use Rattle.grid.specs.Cases.{case_of}
use Rattle.list_follow.proofs.Going.{bad-stays, taken, kept}
use Rattle.list_follow.proofs.apply.Goals as goal

pub returns-in_default : goal.returns-in_default
returns-in_default c sites = bad-stays _ c.in_default.is

pub with-requires : goal.with-requires
with-requires c = (names_more (c.in-Ok-tested_at.ensures 0).0 c.if-case-gt-MOST_BUSES.false).bus

pub returns-in-Ok-tested_at : goal.returns-in-Ok-tested_at
returns-in-Ok-tested_at c sites =
    taken (case_of c.args.case.now.n c.args.case.now.nbr c.args.case.now.zero sites c.args.case.now.units) c.args.st c.args.x
    c.next_number-read.result c.in-Ok.is c.next_number-read.ensures (c.in-Ok-tested_at.ensures sites) c.with.ensures

pub returns-in-Err : goal.returns-in-Err
returns-in-Err c sites =
    kept (case_of c.args.case.now.n c.args.case.now.nbr c.args.case.now.zero sites c.args.case.now.units) c.args.st c.args.x
    c.next_number-read.result c.in-Ok.is c.next_number-read.ensures c.in-Err.q (c.in-Err.ensures sites) c.after_refusal.ensures
