-- How a list that was followed ends: whether it is finished, and that replay and weaving answer what they promise.
use Rattle.std.specs.Prelude.{Result, Ok, Err}
use mathlib.Core.Path.{◌≡◌, refl, sym, ap, ◌∙◌, subst, subst⁻¹}
use mathlib.Core.List.{List, [], ◌∷◌}
use mathlib.Core.Logic.{inl}
use mathlib.Core.Bool.{Bool, true, false, cond}
use Prim.Native.Nat.{ℕ, ◌≤◌}
use native.Mathlib.Omega.{arith}
use lib.Dec.{leb}
use lib.ListN.{length}
use lib.Seq.{take_all}
use Rattle.basics.specs.Deciding.{Decides}
use Rattle.busset.specs.Sets.{Sub, size, empty, set_of}
use Rattle.basics.proofs.Tests.{decides-le, decides-by, decides-no, refutes}
use Rattle.busset.proofs.Holding.{word_own}
use Rattle.busset.proofs.Members.{sub_of, sub_antisym}
use Rattle.step.specs.Records.{written_into}
use Rattle.step.specs.declared.Step.{Step}
use Rattle.rules.specs.Grids.{Grid}
use Rattle.rules.specs.Observation.{Closed}
use Rattle.rules.specs.Steps.{Finished}
use Rattle.rules.specs.Weaving.{woven}
use Rattle.rules.proofs.Lists.{finished-closed, closed-finished}
use Rattle.grid.specs.declared.Case.{Case}
use Rattle.grid.specs.Cases.{grid_of}
use Rattle.refusals.specs.declared.Refusal.{Refusal}
use Rattle.refusals.specs.declared.Refusal.TheVariants.{NoRoom}
use Rattle.refusals.specs.Refusals.{Check, check_that, Passed, CheckedBy}
use Rattle.refusals.proofs.Orders.{itself, passed_then, failed_sooner, failed-later}
use Rattle.grid.specs.Near.{WithNeighbours}
use Rattle.observe.specs.Passes.{Swept}
use Rattle.list_follow.specs.Following.{list_checks, Carries, StandsAfter}
use Rattle.list_follow.specs.Replies.{replay_checks, WeaveReply, AnswersReplay, wove_at, CanPut, put_woven}
use Rattle.list_follow.specs.declared.Task.TheVariants.{Weave}
use Rattle.list_follow.specs.declared.Following.{Following}
use Rattle.list_follow.specs.declared.Wove.{Wove}
use Rattle.list_follow.proofs.Joining.{each-bus, woven-reaches, woven-size}

-- ---- finished is closed: it has what O1 gives, and a sweep of O2 changes nothing

started_in : {g : Grid} {s o : ℕ} → WithNeighbours g.neighbours g.units o → Closed g s → Sub o s
started_in {g} {s} st cl = st.least s (sub_of g.units s cl.direct.own) cl.direct.near

pub finished_unless_started : {g : Grid} {s o : ℕ} → WithNeighbours g.neighbours g.units o → (Sub o s → ⊥)
    → Decides (Finished g s) false
finished_unless_started {g} {s} st f = decides-no (λ fin. f (started_in {g = g} st (finished-closed g s fin)))

pub finished_test : {g : Grid} {s o r : ℕ} {b : Bool} → WithNeighbours g.neighbours g.units o → Sub o s
    → Swept g.neighbours g.zeros s r
    → Decides (r ≡ s) b → Decides (Finished g s) b
finished_test {g} {s} {o} {r} st sub sw d =
    decides-by
    (λ e. closed-finished g s (record {
      direct = record { own = λ b h. omega (arith, st.own b, sub b); near = λ b h a. omega (arith, st.near b h a, sub a) };
      zeros = sw.settled e;
    }))
    (λ fin. sub_antisym r s (sw.sound s (λ b. omega arith) (finished-closed g s fin).zeros) sw.grows) d

-- ---- replay

pub ended-good : {c : Case} {st : Following} {f : Bool} → st.standing ≡ Ok tt → Decides (Finished (grid_of c) (set_of st.set)) f
    → AnswersReplay c st (Ok (record { set = st.set; finished = f }))
ended-good {c} {st} {f} e d xs s =
    let set = (s.carries e).set in
    (subst (CheckedBy (replay_checks c xs)) e s.standing, set, subst (λ (t : ℕ). Decides (Finished (grid_of c) t) f) set d, word_own _)

-- ---- weaving

module _ (c : Case) (st : Following) (xs before : List Step) where
  abbrev checks : List Check
  checks = list_checks Weave c (length xs) xs

  abbrev room : List Check
  room = check_that (length (woven xs) ≤ length before) 6 0 ∷ []

  -- how many buses are reached
  abbrev count : ℕ
  count = size (set_of st.set)

  -- weaving writes one step for each bus that the list reaches
  counts : Carries xs st → count ≡ length (woven xs)
  counts h = ap size h.set ∙ sym (woven-size xs)

  -- what is answered, where it is w: its steps can be put, and where they are put, it is right
  abbrev RightOf : Wove → Type 0
  RightOf w = CanPut w.count xs before
      × ((after : List Step) → after ≡ put_woven w.count xs before → WeaveReply c xs before after (Ok w))

  -- r is right; a refusal is where no record is written
  abbrev Right : Result Wove Refusal → Type 0
  Right (Ok w) = RightOf w
  Right (Err q) = WeaveReply c xs before before (Err q)

  fits : Passed checks → Carries xs st → count ≤ length before → RightOf (record { count = count; set = st.set })
  fits ok h l = (
    record {
      buses = λ p. each-bus Weave c 1 empty xs ok.0.buses.most ok.1.1;
      some = omega (arith, counts h);
      room = l;
    },
    λ after put. (
      passed_then checks room ok (omega (arith, l, counts h), tt),
      counts h,
      h.set ∙ sym (woven-reaches xs),
      put ∙ ap (λ (ys : List Step). written_into ys before) (take_all count (woven xs) (omega (arith, counts h))),
      word_own _,
    ),
  )

  full : Passed checks → Carries xs st → (count ≤ length before → ⊥) → Right (Err NoRoom)
  full ok h f = (failed-later checks room NoRoom ok (inl (λ l. f (omega (arith, counts h, l)), itself NoRoom)), refl)

  right : (w : Result (Unit {0}) Refusal) → CheckedBy checks w → (w ≡ Ok tt → Carries xs st) → Right (wove_at st (length before) w)
  right (Ok u) ok h = go (leb count (length before)) (decides-le count (length before))
    where
      go : (b : Bool) → Decides (count ≤ length before) b
          → Right (cond b (Ok (record { count = count; set = st.set })) (Err NoRoom))
      go true d = fits ok (h refl) (d.yes refl)
      go false d = full ok (h refl) (refutes d refl)
  right (Err q) f h = (failed_sooner checks room q f, refl)

  settles : {r : Result Wove Refusal} → StandsAfter c Weave (length xs) xs st → r ≡ wove_at st (length before) st.standing → Right r
  settles s e = subst⁻¹ Right e (right st.standing s.standing s.carries)

  pub can_put : {w : Wove} → StandsAfter c Weave (length xs) xs st → Ok w ≡ wove_at st (length before) st.standing
      → CanPut w.count xs before
  can_put s e = (settles s e).0

  pub weave_law : {w : Wove} (after : List Step) → StandsAfter c Weave (length xs) xs st
      → Ok w ≡ wove_at st (length before) st.standing → after ≡ put_woven w.count xs before
      → WeaveReply c xs before after (Ok w)
  weave_law after s e = (settles s e).1 after

  pub weave_refused : {q : Refusal} → StandsAfter c Weave (length xs) xs st → Err q ≡ wove_at st (length before) st.standing
      → WeaveReply c xs before before (Err q)
  weave_refused s e = settles s e
