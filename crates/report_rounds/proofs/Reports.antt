-- What the rounds report asks for is one text, and how long it is at most: every round adds a bus, and no bus is added twice.
use Rattle.std.specs.Prelude.{Result, Ok, Err}
use mathlib.Core.Path.{◌≡◌, refl, sym, ap, ◌∙◌}
use mathlib.Core.List.{List, [], ◌∷◌, ◌++◌}
use Prim.Native.Nat.{ℕ, suc, ◌+◌, ◌*◌, ◌≤◌}
use native.Mathlib.Omega.{arith}
use lib.ListN.{length, length-append}
use Rattle.busset.specs.Sets.{Bus, size, width, empty}
use Rattle.busset.proofs.Members.{bus-more}
use Rattle.busset.proofs.Sizes.{size-empty}
use Rattle.rules.specs.Grids.{Grid, Proper}
use Rattle.rules.specs.Placing.{Rising, placed}
use Rattle.rules.specs.Rounds.{Gives, RoundsFrom, after_rounds}
use Rattle.rules.proofs.Reasons.{allowed-bus}
use Rattle.rules.proofs.Leasts.{observed-few}
use Rattle.rules.proofs.Covering.{rising-to}
use Rattle.rules.proofs.Rounds.{round-size, rounds-unique, rounds-least, rounds-few}
use Rattle.text_field.specs.Split.{join, bytes, line_feed}
use Rattle.text_field.specs.Number.{number_text}
use Rattle.text_field.proofs.Digits.{text-two}
use Rattle.grid.specs.Cases.{grid_of, Valid}
use Rattle.grid.specs.declared.Case.{Case}
use Rattle.case_read.specs.Reading.{read_case}
use Rattle.case_inverse.proofs.Answers.{read-good}
use Rattle.refusals.specs.declared.Refusal.{Refusal}
use Rattle.round_list.specs.Rounds.{each_bus}
use Rattle.report_lines.specs.Printing.{printed_line}
use Rattle.report_lines.proofs.Printed.{refused_length}
use Rattle.report_rounds.specs.Rounds.{round_line, round_lines, rounds_text, rounds_room, RoundsReport, RoundsFor, RoundsPrinted}
use Rattle.report_rounds.specs.Lines.{tabbed}
use Rattle.report_rounds.proofs.Texts.{line-parts}

-- ---- one text

pub rounds-text-unique : (text s t : List ℕ) → RoundsPrinted text s → RoundsPrinted text t → s ≡ t
rounds-text-unique text s t = go (read_case text)
  where
    go : (a : Result Case Refusal) → RoundsFor a s → RoundsFor a t → s ≡ t
    go (Ok c) p q = p.is ∙ ap rounds_text (rounds-unique (grid_of c) empty p.rounds q.rounds p.are q.are) ∙ sym q.is
    go (Err r) p q = p ∙ sym q

-- ---- how long it is

-- a tab and at most two digits for each bus
buses_length : (low : ℕ) (buses : List ℕ) → Rising (Bus width) low buses → length (each_bus tabbed buses) ≤ 3 * length buses
unfolding each_bus
buses_length low [] r = omega arith
buses_length low (b ∷ buses) r =
    omega (
      arith,
      length-append (number_text b) (each_bus tabbed buses),
      text-two b (omega (arith, r.1.most)),
      buses_length b buses r.2,
    )

-- `round`, a tab, at most two digits and a line feed for each round
line_length : (i : ℕ) (buses : List ℕ) → i ≤ width → length (round_line i buses) ≤ 9 + length (each_bus tabbed buses)
line_length i buses h =
    omega (
      arith,
      ap length (line-parts i buses),
      length-append ((bytes "round\t" ++ number_text i) ++ each_bus tabbed buses) (line_feed ∷ []),
      length-append (bytes "round\t" ++ number_text i) (each_bus tabbed buses),
      text-two i (omega arith),
    )

-- the lines of the rounds from s on: 3 bytes for each bus that they add, which are as many as the set grows by
lines_length : (g : Grid) (i s : ℕ) (rounds : List (List ℕ)) → Proper g → g.n ≤ width → i + length rounds ≤ width + 1
    → RoundsFrom g s rounds → length (round_lines i rounds) + 3 * size s ≤ 9 * length rounds + 3 * size (after_rounds s rounds)
unfolding round_lines
lines_length g i s [] v few h p = omega arith
lines_length g i s (r ∷ rounds) v few h p =
    omega (
      arith,
      length-append (round_line i r) (round_lines (suc i) rounds),
      line_length i r (omega arith),
      buses_length 0 r (rising-to 0 0 r (omega arith) (λ b l h. bus b h) p.0.rising),
      round-size s r p.0,
      lines_length g (suc i) (placed s r) rounds v few (omega arith) p.2,
    )
  where
    bus : (b : ℕ) → Gives g s b → Bus width b
    bus b h = bus-more (allowed-bus v h.allowed) few

end_length : length (printed_line (bytes "end") []) ≡ 4
unfolding join
end_length = refl

-- a report of a valid case
report-fits : (c : Case) (t : List ℕ) → Valid c → RoundsReport c t → length t ≤ rounds_room
report-fits c t v p =
    let most = v.buses.most in
    let few = rounds-few v.proper p.rounds p.are in
    omega (
      arith,
      ap length p.is,
      length-append (round_lines 1 p.rounds) (printed_line (bytes "end") []),
      end_length,
      lines_length (grid_of c) 1 empty p.rounds v.proper most (omega arith) p.are,
      observed-few v.proper (rounds-least (grid_of c) p.rounds p.are),
      size-empty,
    )

pub rounds-fits : (text t : List ℕ) → RoundsPrinted text t → length t ≤ rounds_room
rounds-fits text t = go (read_case text) refl
  where
    go : (a : Result Case Refusal) → read_case text ≡ a → RoundsFor a t → length t ≤ rounds_room
    go (Ok c) e p = report-fits c t (read-good text refl e) p
    go (Err q) e p = omega (arith, ap length p, refused_length q)
