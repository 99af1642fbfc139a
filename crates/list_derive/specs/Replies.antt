-- What the derivation promises. The promises of replay and weaving are beside their functions (list_follow, specs/Replies.antt).
use Rattle.std.specs.Prelude.{List, [], ◌∷◌, Result, Ok, Err}
use Rattle.grid.specs.declared.Case.{Case}
use Rattle.grid.specs.Cases.{grid_of, Valid}
use Rattle.refusals.specs.declared.Refusal.{Refusal}
use Rattle.refusals.specs.Refusals.{Check, check_that, Passed, Failed}
use Rattle.refusals.specs.Calls.{Call, Refuses}
use Rattle.list_value.specs.Lists.{StepList}
use Rattle.list_derive.specs.Deriving.{Derives}

-- the case is valid, or 5
abbrev pub derivation_checks : Case → List Check
derivation_checks c = check_that (Valid c) 5 0 ∷ []

-- the derivation, or the refusal
abbrev pub DerivationReply : Case → Result StepList Refusal → Type 0
DerivationReply c (Ok l) = Passed (derivation_checks c) × Derives (grid_of c) l
DerivationReply c (Err r) = Failed (derivation_checks c) r

-- `derivation`
abbrev pub derivation_call : Call
derivation_call = record {
  Input = Case;
  Lent = Unit {0};
  Reply = Result StepList Refusal;
  promise = λ c before after r. DerivationReply c r;
  checks = λ c lent. derivation_checks c;
  refuses = Refuses Err;
}
