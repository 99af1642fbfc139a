-- What the day report asks for is one text, and how long it is at most.
use Rattle.std.specs.Prelude.{Result, Ok, Err}
use mathlib.Core.Path.{◌≡◌, refl, sym, ap, ◌∙◌}
use mathlib.Core.List.{List, [], ◌∷◌, ◌++◌}
use Prim.Native.Nat.{ℕ, ◌≤◌}
use native.Mathlib.Omega.{arith}
use lib.ListN.{length, length-append}
use Rattle.busset.specs.Sets.{size, width}
use Rattle.busset.proofs.Sizes.{size-most}
use Rattle.step.specs.declared.Step.{Step}
use Rattle.rules.specs.Steps.{Names}
use Rattle.basics.specs.Lists.{Each}
use Rattle.rules.proofs.Leasts.{least-unique, observed-few}
use Rattle.rules.proofs.Lists.{finished_length}
use Rattle.rules.proofs.Derivations.{derived-unique, derived-accepted}
use Rattle.rules.proofs.Choices.{unconfirmed-unique}
use Rattle.text_field.specs.Split.{join, bytes}
use Rattle.text_field.specs.Number.{number_text}
use Rattle.grid.specs.Cases.{grid_of, Valid}
use Rattle.grid.specs.declared.Case.{Case}
use Rattle.case_read.specs.Reading.{read_case}
use Rattle.refusals.specs.declared.Refusal.{Refusal}
use Rattle.case_inverse.proofs.Answers.{read-good}
use Rattle.report_lines.specs.Printing.{printed_line}
use Rattle.report_lines.proofs.Printed.{refused_length}
use Rattle.report_day.specs.Day.{steps_text, verdict_fields, day_text, day_room, DayReport, DayFor, DayPrinted}
use Rattle.report_day.proofs.Texts.{steps_length, verdict_length, observed_length}
use Rattle.report_day.proofs.Reports.{derivation-named}

-- ---- one text

report-unique : (c : Case) (s t : List ℕ) → DayReport c s → DayReport c t → s ≡ t
report-unique c s t p q =
    let sets = least-unique (grid_of c) p.observed q.observed p.least q.least in
    let lists = derived-unique p.derived q.steps q.derived in
    let alone = unconfirmed-unique p.unconfirmed q.unconfirmed p.verdict q.verdict in
    p.is ∙ (λ i. day_text (size (sets i)) c.n (lists i) (size (alone i))) ∙ sym q.is

pub day-unique : (text s t : List ℕ) → DayPrinted text s → DayPrinted text t → s ≡ t
day-unique text s t = go (read_case text)
  where
    go : (a : Result Case Refusal) → DayFor a s → DayFor a t → s ≡ t
    go (Ok c) p q = report-unique c s t p q
    go (Err r) p q = p ∙ sym q

-- ---- how long it is

text-fits : (count n alone : ℕ) (xs : List Step) → count ≤ width → n ≤ width → alone ≤ width → length xs ≤ width → Each (Names width) xs
    → length (day_text count n xs alone) ≤ day_room
text-fits count n alone xs h k l m e =
    let first = printed_line (bytes "observed") (number_text count ∷ number_text n ∷ []) in
    let verdict = printed_line (bytes "xv") (verdict_fields alone) in
    let end = printed_line (bytes "end") [] in
    omega (
      arith,
      length-append first (steps_text xs ++ (verdict ++ end)),
      length-append (steps_text xs) (verdict ++ end),
      length-append verdict end,
      observed_length count n h k,
      steps_length xs e,
      verdict_length alone l,
      end_length,
    )
  where
    end_length : length (printed_line (bytes "end") []) ≡ 4
    end_length = unfold join in refl

-- a report of a valid case: 15 bytes, 13 for each step, 9 and 4
pub report-fits : (c : Case) (t : List ℕ) → Valid c → DayReport c t → length t ≤ day_room
report-fits c t v p =
    let seen = observed-few v.proper p.least in
    let alone = size-most c.n p.unconfirmed (λ b h. v.proper.units b (p.verdict.only b h).unit) in
    let accepted = derived-accepted p.derived in
    let count = finished_length (grid_of c) p.steps p.observed accepted.0 accepted.1 p.least in
    let most = v.buses.most in
    omega (
      arith,
      ap length p.is,
      text-fits (size p.observed) c.n (size p.unconfirmed) p.steps (omega arith) most (omega arith) (omega arith)
          (derivation-named v.proper most p.derived),
    )

pub day-fits : (text t : List ℕ) → DayPrinted text t → length t ≤ day_room
day-fits text t = go (read_case text) refl
  where
    go : (a : Result Case Refusal) → read_case text ≡ a → DayFor a t → length t ≤ day_room
    go (Ok c) e p = report-fits c t (read-good text refl e) p
    go (Err q) e p = omega (arith, ap length p, refused_length q)
