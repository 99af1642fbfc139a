-- A promise of an answer or a refusal determines the reply where it determines the answer; and so for each call on a case and a stated set.
use Rattle.std.specs.Prelude.{Result, Ok, Err}
use mathlib.Core.Path.{◌≡◌, refl, sym, ap, ◌∙◌}
use mathlib.Core.List.{List}
use Rattle.busset.specs.Sets.{set_of}
use Rattle.busset.proofs.Holding.{same_word}
use Rattle.rules.proofs.Leasts.{least-unique}
use Rattle.grid.specs.Cases.{grid_of}
use Rattle.refusals.specs.declared.Refusal.{Refusal}
use Rattle.refusals.specs.Refusals.{Check, Passed, Failed}
use Rattle.refusals.proofs.Orders.{failed-unique, failed_or_passed}
use Rattle.observe_calls.specs.Replies.{observed_checks, ObservedReply, observed_set_call, figure_checks, FigureReply, firing_figure_call}
use Rattle.observe_calls.specs.Replies.{step_checks, StepReply, test_step_call}
use Rattle.demands.specs.Determined.{OneReply}

-- a refusal is that of the first check that fails, and leaves what is lent; where all pass, two answers are one
pub one-reply : {A M : Type 0} (P : M → Result A Refusal → Type 0) (checks : List Check) (lent : M)
    → ((r : Refusal) (left : M) → P left (Err r) → Failed checks r × (left ≡ lent))
    → ((x : A) (left : M) → P left (Ok x) → Passed checks)
    → ((x y : A) (left right : M) → P left (Ok x) → P right (Ok y) → (x ≡ y) × (left ≡ right))
    → (a b : Result A Refusal) (left right : M) → P left a → P right b → (a ≡ b) × (left ≡ right)
one-reply P checks lent fails passes one (Ok x) (Ok y) left right p q = let e = one x y left right p q in (ap Ok e.0, e.1)
one-reply P checks lent fails passes one (Ok x) (Err r) left right p q =
    absurd (failed_or_passed checks r (fails r right q).0 (passes x left p))
one-reply P checks lent fails passes one (Err r) (Ok y) left right p q =
    absurd (failed_or_passed checks r (fails r left p).0 (passes y right q))
one-reply P checks lent fails passes one (Err r) (Err k) left right p q =
    let f = fails r left p in
    let g = fails k right q in (ap Err (failed-unique checks r k f.0 g.0), f.1 ∙ sym g.1)

pub observed-set : OneReply observed_set_call
observed-set c lent =
    one-reply (λ m r. ObservedReply c r) (observed_checks c) lent (λ r m p. (p, refl)) (λ s m p. p.0)
    (λ s t m n p q. (same_word p.2 q.2 (least-unique (grid_of c) (set_of s) (set_of t) p.1 q.1), refl))

pub firing_figure : OneReply firing_figure_call
firing_figure (c, s, i, j) lent =
    one-reply (λ m r. FigureReply c s i j r) (figure_checks c i j) lent (λ r m p. (p, refl)) (λ z m p. p.0)
    (λ y z m n p q. (p.1 ∙ sym q.1, refl))

pub test_step : OneReply test_step_call
test_step (c, s, x) lent =
    one-reply (λ m r. StepReply c s x r) (step_checks c s x) lent (λ r m p. (p, refl)) (λ u m p. p) (λ u v m n p q. (refl, refl))
