-- By the standing: a good list's set is what its steps reach, and a bad one's refusal is the first check that fails.
use Rattle.list_follow.proofs.Ends.{ended-good}
use Rattle.list_follow.proofs.ended.Goals as goal

pub returns : goal.returns
returns c n sites = ended-good c.in_ok-st.was (c.is_finished.ensures n sites)
