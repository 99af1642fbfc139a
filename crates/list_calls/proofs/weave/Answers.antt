-- The list is followed, its answer settled, and where that is no refusal, what weaving writes is put into the records.
use Rattle.std.proofs.lemmas.Result.{err_from_is_err_and}
use Rattle.list_follow.proofs.Ends.{can_put, weave_law, weave_refused}
use Rattle.list_calls.proofs.weave.Goals as goal

pub returns-in_err-woven : goal.returns-in_err-woven
returns-in_err-woven c =
    let p = err_from_is_err_and c.from_residual.result c.from_residual.ensures.1 in
    rw (p.1, p.2)
    (weave_refused c.args.case c.follow-st.result c.args.steps.now c.args.out.now c.follow-st.ensures c.in_err-woven.ensures)

pub put-requires : goal.put-requires
put-requires c = can_put c.args.case c.follow-st.result c.args.steps.now c.args.out.now c.follow-st.ensures c.in_ok-woven.ensures

pub returns : goal.returns
returns c =
    weave_law c.args.case c.follow-st.result c.args.steps.now c.args.out.now c.put.new.out c.follow-st.ensures c.in_ok-woven.ensures
    c.put.ensures
