-- Sites are tried from the lowest, so a larger count alone replaces the site held: the lowest number wins a tie.
use Rattle.place_light.proofs.Lighting.{lit-least}
use Rattle.place_greedy.proofs.Comparing.{compared_yes, compared_no, compared-all}
use Rattle.place_greedy.proofs.best.Goals as goal

pub loop-x-preserved-then-most-size : goal.loop-x-preserved-then-most-size
loop-x-preserved-then-most-size c = λ n sites units m l. compared_yes (c.loop-x.invariant n sites units m l)
    c.in-Some.ensures.steps.0 c.in-Some.ensures.steps.1 (lit-least l c.lit.ensures) c.count-size.ensures.is c.if-most-size.true

pub loop-x-preserved : goal.loop-x-preserved
loop-x-preserved c = λ n sites units m l. compared_no (c.loop-x.invariant n sites units m l)
    c.in-Some.ensures.steps.0 c.in-Some.ensures.steps.1 (lit-least l c.lit.ensures) c.count-size.ensures.is c.if-most-size.false

pub returns : goal.returns
returns c = λ n sites units m l. compared-all c.in-None.ensures.steps.0 l _ (c.loop-x.invariant n sites units m l)
