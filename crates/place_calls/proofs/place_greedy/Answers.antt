-- The checks 5, 10, 6 in this order. Greedy's list is the only one, so refusal 6 is asked of the list itself.
use native.Mathlib.Omega.{arith}
use lib.ListN.{length}
use Prim.Native.Nat.{◌≤◌}
use Rattle.grid.specs.Limits.{most_greedy_budget}
use Rattle.place_greedy.proofs.Comparing.{greedy-fits}
use Rattle.place_calls.proofs.place_greedy.Goals as goal

pub returns : goal.returns
returns c =
    let few : c.args.budget ≤ most_greedy_budget = omega arith in
    let fits : length c.greedy-sites.result.items ≤ length c.args.room.now = omega arith in (
      (
        c.in_ok-check.ensures.0,
        (few, (greedy-fits _ _ _ (c.greedy-sites.ensures _) fits, tt)),
      ),
      record {
        list = c.greedy-sites.result.items;
        greedy = c.greedy-sites.ensures _;
        count = c.len-count.ensures;
        written = cc (c.copy_from_slice.ensures.after, c.deref.ensures);
      },
    )
