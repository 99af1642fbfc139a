-- The tables of texts: each is computed.
use mathlib.Core.Path.{refl, ap}
use native.Mathlib.Omega.{arith}
use lib.ListN.{length}
use Rattle.text_field.specs.Split.{split, join, Pieces}
use Rattle.text_field.specs.Number.{digits}
use Rattle.case_line.specs.Fields.{mark_of}
use Rattle.tables.proofs.Words.{case_text_words, field_words, step_text_words}
use Rattle.tables.proofs.Rows.{◌&◌}
use Rattle.tables.specs.Tables.{AllRight}
use Rattle.tables.specs.Fields as fields
use Rattle.tables.specs.Records as records

-- ---- fields

pub cuts_right : fields.CutsRight
unfolding split
cuts_right = refl

pub joins-right : fields.JoinsRight
unfolding join
joins-right = refl

pub sames_right : fields.SamesRight
sames_right = refl

pub ends-right : AllRight fields.piece_end_table
unfolding field_words
ends-right =
    record { low = omega arith; high = omega arith; cut = refl }
    & record { low = omega arith; high = omega arith; cut = refl }
    & record { low = omega arith; high = omega arith; cut = refl }
    & (λ h. omega (arith, ap (λ (p : Pieces). length p.first) h.cut))
    & (λ h. omega (arith, ap (λ (p : Pieces). length p.first) h.cut))
    & (λ h. omega arith)
    & tt

pub numbers-right : fields.NumbersRight
unfolding field_words
numbers-right = refl

pub numerals_right : fields.NumeralsRight
unfolding digits
numerals_right = refl

-- ---- lines

pub classes_right : records.ClassesRight
unfolding mark_of
classes_right = refl

pub sites-right : records.SitesRight
unfolding mark_of
sites-right = refl

pub records-right : records.RecordsRight
unfolding case_text_words
records-right = refl

pub record_lines-right : records.RecordTextsRight
unfolding case_text_words
record_lines-right = refl

pub formed-right : AllRight records.formed_table
formed-right =
    omega arith
    & (λ h. omega arith)
    & omega arith
    & (λ h. omega arith)
    & (omega arith, omega arith)
    & (λ h. omega arith)
    & (omega arith, omega arith, omega arith)
    & (λ h. omega arith)
    & omega arith
    & tt
    & (λ h. h)
    & tt

pub step-lines-right : records.StepLinesRight
unfolding step_text_words
step-lines-right = refl

pub step_texts_right : records.StepTextsRight
unfolding step_text_words
step_texts_right = refl
