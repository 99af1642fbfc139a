-- The tables of what a C program gets: each is computed.
use mathlib.Core.Path.{refl}
use Rattle.tables.proofs.Words.{set_words}
use Rattle.tables.specs.Results.{CodesRight, ResultsRight, SetBytesRight, LeftByRight}

pub codes_right : CodesRight
codes_right = refl

pub results_right : ResultsRight
results_right = refl

pub bytes-right : SetBytesRight
unfolding set_words
bytes-right = refl

pub lefts_right : LeftByRight
unfolding set_words
lefts_right = refl
