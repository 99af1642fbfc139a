-- A refusal of the list is given as it is.
use borrow.Author.Rules.{rules}
use Rattle.list_follow.specs.Replies.{AnswersReplay}
use Rattle.step_replay.proofs.Onward.{replaying}
use Rattle.step_replay.proofs.replay_text.Goals as goal

pub returns-in_err-ended : goal.returns-in_err-ended
returns-in_err-ended c =
    let answers : AnswersReplay c.args.case c.follow_text.result c.ended.result = c.ended.ensures c.args.case.n c.args.case.site in
    search (rules, replaying)
