-- A text's steps taken one by one, and the records that are left.
use Rattle.std.specs.Prelude.{Result, Ok, Err}
use mathlib.Core.Path.{◌≡◌, refl, sym, ap, ◌∙◌}
use mathlib.Core.Bool.{Bool, true, false, cond}
use mathlib.Core.List.{List, [], ◌++◌}
use Prim.Native.Nat.{ℕ, ◌+◌, ◌≤◌, ◌<◌}
use native.Mathlib.Omega.{arith}
use borrow.Author.Tests.{ltb-false}
use lib.Dec.{ltb}
use lib.ListN.{length, take, drop, get_or, drop_of_length-le}
use lib.Seq.{take-length, get_or-drop, drop-drop}
use Rattle.text_field.specs.Split.{split}
use Rattle.step.specs.Records.{no_step, put_first}
use Rattle.step.specs.declared.Step.{Step}
use Rattle.step.proofs.Records.{put_first_lem}
use Rattle.refusals.specs.declared.Refusal.{Refusal}
use Rattle.refusals.specs.declared.Refusal.TheVariants.{NoRoom}
use Rattle.step_text.specs.Steps.{read_steps, steps_in, steps_from, steps_of}
use Rattle.step_text.specs.Taking.{with_room, leaves, StepsReadReply, count_read, Takes}
use Rattle.step_text.specs.declared.taking.Taken.{Taken}
use Rattle.step_text.proofs.Found.{not_steps, steps-count}

-- ---- a step taken

pub past : (text : List ℕ) (a : ℕ) → length text < a → steps_from text a ≡ []
unfolding steps_from steps_in split
past text a l = let h : length text ≤ a = omega arith in rw (drop_of_length-le text h)

-- ---- into lent records

-- a text that is said to have n steps, where there is room, has them, and there is
said_fits : (room n : ℕ) (said : Result ℕ Refusal) → Ok n ≡ with_room room said → (said ≡ Ok n) × (n ≤ room)
said_fits room n (Ok m) e = go (ltb room m) refl e
  where
    go : (b : Bool) → ltb room m ≡ b → Ok n ≡ cond b (Err NoRoom) (Ok m) → (◌≡◌ {A = Result ℕ Refusal} (Ok m) (Ok n)) × (n ≤ room)
    go true t e = absurd (not_steps _ (sym e))
    go false t e = let f : n ≡ m = cc in (sym e, omega (arith, ltb-false room m t))
said_fits room n (Err q) e = absurd (not_steps q (sym e))

-- the step at a place of a list, counted from 0
abbrev pub nth_step : List Step → ℕ → Step
nth_step xs i = get_or xs i no_step

-- where i steps of xs are taken, the next is the one at i, and those after it are left
pub takes-next : {text : List ℕ} {a : ℕ} {r : Taken} (i : ℕ) (xs : List Step) → steps_from text a ≡ drop i xs → Takes text a r
    → (r.step ≡ nth_step xs i) × (steps_from text r.next ≡ drop (i + 1) xs)
takes-next i xs e t = (
  t.step ∙ ap (λ (l : List Step). nth_step l 0) e ∙ get_or-drop i xs 0 no_step ∙ ap (nth_step xs) (omega arith),
  t.rest ∙ ap (drop 1) e ∙ drop-drop 1 i xs,
)

-- the reply, where as many of the text's steps are put into the records as it says
pub read_law : (text : List ℕ) (before : List Step) (r : Result ℕ Refusal) → r ≡ with_room (length before) (read_steps text)
    → StepsReadReply text before (put_first (count_read r) (nth_step (steps_of text)) before) r
read_law text before r e = (e, go r e)
  where
    xs : List Step
    xs = steps_of text

    go : (r : Result ℕ Refusal) → r ≡ with_room (length before) (read_steps text)
        → put_first (count_read r) (nth_step xs) before ≡ leaves r xs before
    go (Ok n) e =
        let f = said_fits (length before) n (read_steps text) e in
        let c = steps-count text n f.0 in
        put_first_lem xs before (nth_step xs) n (λ i l. refl) (omega (arith, c)) f.1
        ∙ ap (λ (k : ℕ). take k xs ++ drop k before) (sym c) ∙ ap (λ (l : List Step). l ++ drop (length xs) before) (take-length xs)
    go (Err q) e = refl
