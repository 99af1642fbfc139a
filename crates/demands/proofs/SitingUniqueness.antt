-- For each of the siting group's calls: its promise determines the reply, and the room that it leaves.
use mathlib.Core.Path.{◌≡◌, refl, sym, ap, ◌∙◌}
use mathlib.Core.List.{List, ◌++◌}
use Prim.Native.Nat.{ℕ}
use lib.ListN.{length, drop}
use Rattle.busset.specs.Sets.{set_of}
use Rattle.busset.proofs.Holding.{same_word}
use Rattle.rules.proofs.Ordering.{fewest-set-unique}
use Rattle.rules.proofs.Choices.{unconfirmed-unique, greedy-unique}
use Rattle.grid.specs.Cases.{grid_of}
use Rattle.place_calls.specs.Replies.{verdict_checks, VerdictReply, cross_validate_call, greedy_checks, GreedyReply}
use Rattle.place_calls.specs.Replies.{place_greedy_call, fewest_checks, FewestReply, place_fewest_call}
use Rattle.demands.specs.Determined.{OneReply}
use Rattle.demands.proofs.Uniqueness.{one-reply}

pub cross_validate : OneReply cross_validate_call
cross_validate c lent =
    one-reply (λ m r. VerdictReply c r) (verdict_checks c) lent (λ r m p. (p, refl)) (λ s m p. p.0)
    (λ s t m n p q. (same_word p.2 q.2 (unconfirmed-unique (set_of s) (set_of t) p.1 q.1), refl))

pub place-greedy : OneReply place_greedy_call
place-greedy (c, budget) entry =
    one-reply (λ exit r. GreedyReply c budget entry exit r) (greedy_checks c budget entry) entry (λ r exit p. p) (λ k exit p. p.0)
    (λ j k left right p q.
    let same = greedy-unique (grid_of c) budget p.1.list q.1.list p.1.greedy q.1.greedy in
    let count : j ≡ k = p.1.count ∙ ap length same ∙ sym q.1.count in (
      count,
      p.1.written ∙ ap (λ (xs : List ℕ). xs ++ drop j entry) same ∙ ap (λ (i : ℕ). q.1.list ++ drop i entry) count
          ∙ sym q.1.written,
    ))

pub place-fewest : OneReply place_fewest_call
place-fewest (c, budget) lent =
    one-reply (λ m r. FewestReply c budget r) (fewest_checks c budget) lent (λ r m p. (p, refl)) (λ s m p. p.0)
    (λ s t m n p q. (same_word p.2 q.2 (fewest-set-unique p.1 q.1), refl))
