-- The engine's sets hold the rounds, and the text put is their report.
use borrow.Author.Rules.{rules}
use Rattle.report_lines.proofs.Printed.{printed-by}
use Rattle.report_rounds.specs.Rounds.{rounds_text}
use Rattle.report_rounds.proofs.report.Goals as goal

pub returns : goal.returns
returns c = let has = c.rounds-sets.ensures in
    printed-by (λ t e. record { rounds = has.rounds; are = has.are; is = e }) _ _ _
    (c.print.ensures (rounds_text has.rounds) (λ lent left k told. search rules))
