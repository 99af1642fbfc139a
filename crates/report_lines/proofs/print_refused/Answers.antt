-- What is put is the refusal's line.
use borrow.Author.Rules.{rules}
use Rattle.report_lines.specs.Printing.{refused_text}
use Rattle.report_lines.proofs.print_refused.Goals as goal

pub returns : goal.returns
returns c = c.print.ensures (refused_text c.args.q) (λ lent left k put. search rules)
