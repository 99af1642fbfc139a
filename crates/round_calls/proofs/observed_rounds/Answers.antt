-- The checks 5 and 6 in this order. What is put, where it has room, is the list itself, so that is what refusal 6 is asked of.
use Rattle.std.specs.Prelude.{◌≡◌, Some, None}
use mathlib.Core.Logic.{inl, inr}
use native.Mathlib.Omega.{arith}
use borrow.Author.Rules.{rules}
use Rattle.std.proofs.lemmas.Result.{err_from_is_err_and}
use Rattle.refusals.specs.declared.Refusal.TheVariants.{NoRoom}
use Rattle.refusals.proofs.Orders.{itself}
use Rattle.round_calls.specs.Replies.{round_numbers}
use Rattle.round_calls.proofs.Writing.{no_room, rounds_written}
use Rattle.round_calls.proofs.observed_rounds.Goals as goal

pub returns-in_err-numbers : goal.returns-in_err-numbers
returns-in_err-numbers c =
    let has = c.rounds-sets.ensures in
    let put = c.put_whole.ensures (round_numbers has.rounds) (λ lent left k told. search rules) in
    let none : c.put_whole.result ≡ None = grind arith in
    let kept = rw none at put in
    let p = err_from_is_err_and c.from_residual-in_err-numbers.result c.from_residual-in_err-numbers.ensures.1 in
    let refusal : c.in_err-numbers.field-0.0 ≡ NoRoom = grind arith in
    rw (p.1, p.2, refusal) (inr (c.in_ok-check.ensures.0, inl (no_room _ has _ _ kept, itself NoRoom)), kept.1)

pub returns : goal.returns
returns c =
    let has = c.rounds-sets.ensures in
    let put = c.put_whole.ensures (round_numbers has.rounds) (λ lent left k told. search rules) in
    let some : c.put_whole.result ≡ Some c.in_ok-numbers.numbers = grind arith in
    let written = rounds_written _ has _ _ (rw some at put) c.len-rounds.ensures in
    ((c.in_ok-check.ensures.0, (written.0, tt)), written.1)
