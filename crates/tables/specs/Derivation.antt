-- The derivation: which step is next, and the one fixed finished list.
use Rattle.std.specs.Prelude.{List, [], ◌∷◌, ◌≡◌}
use Rattle.step.specs.declared.Reason.TheVariants.{OwnUnit, NeighbourOf, ZeroInjection}
use Rattle.step.specs.declared.Step.{Step}
use Rattle.rules.specs.Derivation.{TakenFirst, NextIs, Derivation}
use Rattle.list_value.specs.Lists.{list_of}
use Rattle.list_derive.specs.Deriving.{Derives}
use Rattle.tables.specs.Tables.{Row, holds, fails}
use Rattle.tables.specs.Drawings.{set, own, near, zero_at, drawn_grid, seven_grid, sweep, ring}
use Rattle.tables.specs.Steps.{derivation_steps}

-- which reason is taken first: O, else N with the lowest p, else Z with the lowest w
abbrev pub taken_first_table : List Row
taken_first_table =
    holds (TakenFirst OwnUnit (NeighbourOf 1))
    ∷ fails (TakenFirst (NeighbourOf 1) OwnUnit)
    ∷ holds (TakenFirst (NeighbourOf 1) (NeighbourOf 3))
    ∷ fails (TakenFirst (NeighbourOf 3) (NeighbourOf 1))
    ∷ holds (TakenFirst (NeighbourOf 3) (ZeroInjection 1))
    ∷ fails (TakenFirst (ZeroInjection 1) (NeighbourOf 3))
    ∷ holds (TakenFirst (ZeroInjection 2) (ZeroInjection 3))
    ∷ fails (TakenFirst (ZeroInjection 3) (ZeroInjection 2))
    ∷ fails (TakenFirst (ZeroInjection 1) OwnUnit)
    ∷ holds (TakenFirst (ZeroInjection 2) (ZeroInjection 2))
    ∷ []

-- which step is next where these buses are observed
abbrev pub next_step_table : List Row
next_step_table =
    -- the lowest bus that any rule reaches, also where a higher one has a unit
    holds (NextIs (seven_grid (3 ∷ [])) (set []) (near 2 3))
    ∷ fails (NextIs (seven_grid (3 ∷ [])) (set []) (own 3))
    -- after each step from bus 1 on again
    ∷ holds (NextIs (seven_grid (3 ∷ [])) (set (2 ∷ 3 ∷ [])) (zero_at 1 2))
    ∷ fails (NextIs (seven_grid (3 ∷ [])) (set (2 ∷ 3 ∷ [])) (near 4 3))
    -- O before N
    ∷ holds (NextIs (seven_grid (1 ∷ 2 ∷ [])) (set []) (own 1))
    ∷ fails (NextIs (seven_grid (1 ∷ 2 ∷ [])) (set []) (near 1 2))
    -- N with the lowest p
    ∷ holds (NextIs (seven_grid (1 ∷ 3 ∷ [])) (set (1 ∷ [])) (near 2 1))
    ∷ fails (NextIs (seven_grid (1 ∷ 3 ∷ [])) (set (1 ∷ [])) (near 2 3))
    -- N before Z
    ∷ holds (NextIs (drawn_grid (ring (3 ∷ 4 ∷ []))) (set (2 ∷ 3 ∷ 4 ∷ [])) (near 1 3))
    ∷ fails (NextIs (drawn_grid (ring (3 ∷ 4 ∷ []))) (set (2 ∷ 3 ∷ 4 ∷ [])) (zero_at 1 2))
    -- Z with the lowest w
    ∷ holds (NextIs (drawn_grid (ring (4 ∷ []))) (set (2 ∷ 3 ∷ 4 ∷ [])) (zero_at 1 2))
    ∷ fails (NextIs (drawn_grid (ring (4 ∷ []))) (set (2 ∷ 3 ∷ 4 ∷ [])) (zero_at 1 3))
    -- the step is allowed
    ∷ fails (NextIs (seven_grid (3 ∷ [])) (set []) (own 1))
    ∷ []

-- the derivation, and lists that are not it
abbrev pub derivation_table : List Row
derivation_table =
    holds (Derivation (seven_grid (3 ∷ [])) derivation_steps)
    -- it is exactly document 01's five steps
    ∷ holds ((xs : List Step) → Derivation (seven_grid (3 ∷ [])) xs → xs ≡ derivation_steps)
    ∷ fails (Derivation (seven_grid (3 ∷ [])) (own 3 ∷ near 2 3 ∷ zero_at 1 2 ∷ near 4 3 ∷ near 7 3 ∷ []))
    ∷ fails (Derivation (seven_grid (3 ∷ [])) (near 2 3 ∷ own 3 ∷ near 4 3 ∷ near 7 3 ∷ zero_at 1 2 ∷ []))
    -- it is not finished
    ∷ fails (Derivation (seven_grid (3 ∷ [])) (near 2 3 ∷ own 3 ∷ zero_at 1 2 ∷ near 4 3 ∷ []))
    ∷ holds (Derivation (seven_grid []) [])
    ∷ holds (Derivation (drawn_grid sweep) (near 3 4 ∷ own 4 ∷ zero_at 2 3 ∷ zero_at 1 2 ∷ []))
    ∷ fails (Derivation (drawn_grid sweep) (own 4 ∷ near 3 4 ∷ zero_at 2 3 ∷ zero_at 1 2 ∷ []))
    ∷ holds (Derives (seven_grid (3 ∷ [])) (list_of derivation_steps))
    ∷ fails (Derives (seven_grid (3 ∷ [])) (list_of []))
    ∷ []
