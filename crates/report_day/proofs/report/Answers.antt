-- Each step of a derivation names buses 1 to n, which is what putting the list requires; and the text put is the report.
use borrow.Author.Rules.{rules}
use lib.ListN.{length}
use Rattle.report_lines.proofs.Printed.{printed-by}
use Rattle.report_day.specs.Day.{day_text}
use Rattle.report_day.specs.Listing.{Named}
use Rattle.report_day.proofs.Reports.{derived-named, reported}
use Rattle.report_day.proofs.report.Goals as goal

pub print-requires : goal.print-requires
print-requires c =
    let derived = (c.derive-steps.ensures c.args.case.now.site).derived in
    let named : Named c.derive-steps.result.items = derived-named c.requires derived in search rules

pub returns : goal.returns
returns c =
    let steps = c.derive-steps.result.items in
    printed-by (reported (c.derive-steps.ensures c.args.case.now.site).derived c.unconfirmed.ensures c.count-alone.ensures) _ _ _
    (c.print.ensures (day_text (length steps) c.args.case.now.n steps c.count-alone.result) (λ lent left k told. search rules))
