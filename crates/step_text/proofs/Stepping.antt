-- A step text, line after line: what is read of the whole is what is read from where the reader stands.
use Rattle.refusals.specs.declared.Refusal.{Refusal}
use Rattle.refusals.specs.declared.Refusal.TheVariants.{TextTooLong, WrongForm}
use Rattle.std.specs.Prelude.{Result, Ok, Err}
use mathlib.Core.Path.{◌≡◌, refl, sym}
use mathlib.Core.List.{List}
use Prim.Native.Nat.{ℕ, ◌+◌, ◌-◌, ◌≤◌, ◌<◌}
use borrow.Author.Tests.{lt-ltb, le-ltb}
use lib.ListN.{length, drop}
use Rattle.text_field.specs.Split.{split}
use Rattle.grid.specs.Limits.{most_step_bytes}
use Rattle.case_read.proofs.Lines.{end_none, end_more}
use Rattle.step_text.specs.Steps.{ended, step_lines, read_steps}

-- what is read from a text that is still to be cut into lines
abbrev from : ℕ → List ℕ → Result ℕ Refusal
from k t = step_lines k (split 10 t).first (split 10 t).rest

pub too_long : (text : List ℕ) → most_step_bytes < length text → read_steps text ≡ Err TextTooLong
unfolding read_steps
too_long text h = rw (lt-ltb _ _ h)

pub from_start : (text : List ℕ) → length text ≤ most_step_bytes → read_steps text ≡ from 1 text
unfolding read_steps
from_start text h = rw (le-ltb _ _ h)

-- line k starts at index at, and what is read of the text is what is read from there
pub record Going (text : List ℕ) (k at : ℕ) : Type 0 where
  pub some : 1 ≤ k
  pub high : at ≤ length text
  pub few : k ≤ at + 1
  pub long : length text ≤ most_step_bytes
  pub is : read_steps text ≡ from k (drop at text)

-- what is said after `end`, by whether the text goes on
abbrev ending : ℕ → List ℕ → Result ℕ Refusal
ending k t = ended k (split 10 t).first (split 10 t).rest

pub ended_all : (k : ℕ) (text : List ℕ) (at : ℕ) → length text ≤ at → ending k (drop at text) ≡ Ok (k - 1)
ended_all k text at h = sym (end_none (ended k) text at h)

pub ended_more : (k : ℕ) (text : List ℕ) (at : ℕ) → at < length text → ending k (drop at text) ≡ Err (WrongForm (k + 1))
ended_more k text at h = sym (end_more (ended k) text at (λ m ms. refl) (λ b l ms. refl) h)

-- what the search takes where a text is read
pub ruleset reading = (too_long, from_start, ended_all, ended_more)
