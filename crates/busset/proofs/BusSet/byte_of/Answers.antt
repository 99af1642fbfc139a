-- A shift by 8 i and the mask 255 give byte i, since 256 ^ i is 2 ^ (8 i).
use native.Mathlib.Omega.{arith}
use Rattle.busset.proofs.Packing.{byte_cut, byte_small}
use Rattle.busset.proofs.BusSet.byte_of.Goals as goal

pub overflow_cast-result : goal.overflow_cast-result
overflow_cast-result c = omega (arith, byte_cut c.self.inside.0 c.args.i, byte_small c.self.inside.0 c.args.i)

pub returns : goal.returns
returns c = rw (← c.self.view_is) (byte_cut c.self.inside.0 c.args.i)
