-- What s, x and its neighbours spread to is the smallest such set: a set that has these three holds their union.
use Rattle.place_light.proofs.Lighting.{lit-by}
use Rattle.place_light.proofs.lit.Goals as goal

pub returns : goal.returns
returns c = lit-by c.neighbours.ensures c.with-here.ensures c.union.ensures c.spread.ensures
