-- The step that is taken is the next one whatever the sites are, so also with none. A step's bus is new and 1 to n, so the list has
-- fewer than 64 steps before it, and there is room.
use mathlib.Core.Path.{ap}
use mathlib.Core.List.{[], ◌∷◌}
use native.Mathlib.Omega.{arith}
use lib.ListN.{length, length-append}
use Rattle.busset.specs.Held.{empty_word}
use Rattle.busset.proofs.Words.{empty-set}
use Rattle.busset.proofs.Members.{bus-more}
use Rattle.rules.proofs.Reasons.{allowed-bus}
use Rattle.list_derive.proofs.Extending.{extends-none, extends-few, extends-more, extends-all}
use Rattle.list_derive.proofs.Siteless.{siteless_proper, derives_sites}
use Rattle.list_derive.proofs.derive.Goals as goal

pub loop-x-init : goal.loop-x-init
loop-x-init c = extends-none _ (empty-set c.none-s.ensures) c.no_steps-list.ensures

pub push-requires : goal.push-requires
push-requires c =
    let case = c.args.case.now in
    let proper = siteless_proper case.n case.nbr case.zero case.units c.requires.lines c.requires.zeros c.requires.units in
    (omega arith, extends-few proper c.requires.few (c.in-Some.ensures empty_word) c.loop-x.invariant)

pub with-s-requires : goal.with-s-requires
with-s-requires c =
    let case = c.args.case.now in
    let proper = siteless_proper case.n case.nbr case.zero case.units c.requires.lines c.requires.zeros c.requires.units in
    bus-more (allowed-bus proper (c.in-Some.ensures empty_word).allowed) c.requires.few

pub loop-x-smaller : goal.loop-x-smaller
loop-x-smaller c =
    let case = c.args.case.now in
    let proper = siteless_proper case.n case.nbr case.zero case.units c.requires.lines c.requires.zeros c.requires.units in
    omega (
      arith,
      extends-few proper c.requires.few (c.in-Some.ensures empty_word) c.loop-x.invariant,
      ap length c.push.ensures.items,
      length-append c.loop-x.list.items (c.in-Some.x ∷ []),
    )

pub loop-x-preserved : goal.loop-x-preserved
loop-x-preserved c =
    let case = c.args.case.now in
    let proper = siteless_proper case.n case.nbr case.zero case.units c.requires.lines c.requires.zeros c.requires.units in
    extends-more proper c.requires.few (c.in-Some.ensures empty_word) c.loop-x.invariant c.push.ensures.items c.push.ensures.free
    c.with-s.ensures

pub returns : goal.returns
returns c sites =
    let case = c.args.case.now in
    derives_sites case.n case.nbr case.zero case.units sites (extends-all c.loop-x.invariant (c.in_default.ensures empty_word))
