-- The first c from `from` on ends the piece. Where there is none, the end of s does.
use Rattle.std.proofs.Common.{◌-◌, ◌==◌, arith, rules, take, drop, length, length-drop}
use lib.Seq.{take_all}
use Rattle.std.proofs.lemmas.Iterator.{YieldsList-from_slice}
use Rattle.std.proofs.lemmas.Iterator.Search.{position_from_yields_List}
use Rattle.text_field.proofs.Cutting.{piece-found}
use Rattle.text_field.proofs.piece_end.Goals as goal

pub returns : goal.returns
returns c =
    let rest = take (length c.args.s.now - c.args.from) (drop c.args.from c.args.s.now) in
    let found =
    position_from_yields_List (λ x. x == c.args.c) _ _ c.position.result c.position.ensures.ran
    (YieldsList-from_slice rest cc) (λ x b q k. search rules)
    in
    piece-found c.requires (take_all _ _ (omega (arith, length-drop c.args.from c.args.s.now))) found c.unwrap_or.ensures
