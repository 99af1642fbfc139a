-- One group more that is apart is one item more. As many groups as items: the items are all in them.
use native.Mathlib.Omega.{arith}
use Rattle.busset.specs.Sets.{set_of}
use Rattle.place_light.proofs.Covers.{meets-all}
use Rattle.place_pool.proofs.Saying.{apart_more}
use borrow.Author.Rules.{rules}
use Rattle.place_pool.proofs.apart.Goals as goal

pub returns-then-apart-k : goal.returns-then-apart-k
returns-then-apart-k c = record {
  most = search rules;
  says = λ v few s t m.
      let more = apart_more _ c.union-used.ensures c.requires.2 m s.apart in
      record {
        within = λ b. omega (arith, c.both-left.ensures.at b, s.within b, meets-all (set_of c.union-used.result) v (omega arith) b);
        apart = more;
        meets = λ p. t;
      };
}

pub returns : goal.returns
returns c = record {
  most = search rules;
  says = λ v few s t m. record {
    within = s.within;
    apart = apart_more _ c.union-used.ensures c.requires.2 m s.apart;
    meets = λ p. t;
  };
}
