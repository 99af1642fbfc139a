-- Invariant: the rounds so far reach s, and the rounds from s on complete them. What s leaves of the buses falls.
-- A round that adds a bus makes s larger, so that there is always a place for its set.
use borrow.Author.Rules.{rules}
use Rattle.busset.proofs.Words.{empty-set}
use Rattle.basics.proofs.Tests.{refutes}
use Rattle.round_list.proofs.Gathering.{sofar-none, sofar_place, sofar_less, sofar_more, sofar-all}
use Rattle.round_list.proofs.rounds.Goals as goal

pub loop-s-init : goal.loop-s-init
loop-s-init c = sofar-none _ (empty-set c.none-s.ensures) c.blank-sets.ensures.items

pub returns-then-is_none : goal.returns-then-is_none
returns-then-is_none c =
    sofar-all _ (c.round-new.ensures _ c.requires.proper) (c.is_none.ensures.yes c.if-is_none.true) c.loop-s.invariant

pub push-requires : goal.push-requires
push-requires c = let some = refutes c.is_none.ensures c.if-is_none.false in
    (search rules, sofar_place _ c.requires.proper (c.round-new.ensures _ c.requires.proper) some c.requires.buses.most c.loop-s.invariant)

pub loop-s-smaller : goal.loop-s-smaller
loop-s-smaller c =
    let some = refutes c.is_none.ensures c.if-is_none.false in
    sofar_less _ c.requires.proper (c.round-new.ensures _ c.requires.proper) some c.requires.buses.most
    c.union-s.ensures c.loop-s.invariant

pub loop-s-preserved : goal.loop-s-preserved
loop-s-preserved c =
    let some = refutes c.is_none.ensures c.if-is_none.false in
    sofar_more _ c.requires.proper (c.round-new.ensures _ c.requires.proper) some c.requires.buses.most
    c.union-s.ensures c.push.ensures.items c.loop-s.invariant
