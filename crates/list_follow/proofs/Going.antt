-- One step further: each way that the next step can go, for replay and for weaving; and step after step.
use Rattle.std.specs.Prelude.{Result, Ok, Err}
use mathlib.Core.Path.{◌≡◌, refl, sym, ap, ◌∙◌, subst, subst⁻¹}
use mathlib.Core.List.{List, [], ◌∷◌, ◌++◌, append-nil}
use mathlib.Core.Logic.{inl, inr, ⊎_elim}
use Prim.Native.Nat.{ℕ, suc, ◌+◌, ◌<◌}
use native.Mathlib.Numerals.{add-one}
use native.Mathlib.Omega.{arith}
use lib.ListN.{length, take, get_or, length-append, length-take}
use lib.Seq.{take-suc}
use Rattle.busset.specs.Sets.{In, With, add, set_of}
use Rattle.busset.proofs.Members.{in_or, with-add, add_again}
use Rattle.step.specs.Records.{no_step}
use Rattle.step.specs.declared.Step.{Step}
use Rattle.rules.specs.Steps.{reached}
use Rattle.grid.specs.declared.Case.{Case}
use Rattle.grid.specs.Limits.{most_steps}
use Rattle.grid.specs.Cases.{grid_of}
use Rattle.refusals.specs.declared.Refusal.{Refusal}
use Rattle.refusals.specs.declared.Refusal.TheVariants.{NoSuchBus, AlreadyObserved, ReasonFails}
use Rattle.refusals.specs.Refusals.{Check, Passed, Failed, CheckedBy}
use Rattle.refusals.proofs.Orders.{failed_sooner, refusal-unique, itself}
use Rattle.observe.specs.Testing.{step_checks_at}
use Rattle.list_follow.specs.Following.{checks_from, list_checks, Carries, StandsAfter, Follows, after_refusal}
use Rattle.list_follow.specs.declared.Task.{Task}
use Rattle.list_follow.specs.declared.Task.TheVariants.{Replay, Weave}
use Rattle.list_follow.specs.declared.Following.{Following}
use Rattle.list_follow.proofs.Joining.{standing_then, list-checks_append, reached_append}

-- ---- step after step

pub follows-none : (c : Case) (st : Following) → Follows c st [] st
follows-none c st = record { leads = λ task count ys l s. subst⁻¹ (λ (zs : List Step). StandsAfter c task count zs st) (append-nil ys) s }

-- the steps xs, one after another: i of them are followed
pub stands-more : {c : Case} {task : Task} (xs : List Step) (i : ℕ) {st r : Following} → StandsAfter c task (length xs) (take i xs) st
    → i < length xs → Follows c st (get_or xs i no_step ∷ []) r → StandsAfter c task (length xs) (take (i + 1) xs) r
stands-more {c} {task} xs i {st} {r} s l f =
    let taken : take i xs ++ (get_or xs i no_step ∷ []) ≡ take (i + 1) xs =
    sym (take-suc xs i no_step l) ∙ ap (λ (k : ℕ). take k xs) (sym (add-one i)) in
    subst (λ (ys : List Step). StandsAfter c task (length xs) ys r) taken
    (f.leads task (length xs) (take i xs) (omega (arith, ap length taken, length-take (i + 1) xs)) s)

good_or_bad : {q : Refusal} {w : Result (Unit {0}) Refusal} → w ≡ Err q → w ≡ Ok tt → ⊥
good_or_bad {q} {w} b g = let z : ◌≡◌ {A = ℕ} 0 1 = cc in omega arith

-- the first bad step stays, whatever steps come after it
pub bad-stays : {c : Case} {st : Following} {q : Refusal} (xs : List Step) → st.standing ≡ Err q → Follows c st xs st
bad-stays {c} {st} {q} xs e = record {
  leads = λ task count ys l s. record {
    is_task = s.is_task;
    standing =
        subst⁻¹ (CheckedBy (list_checks task c count (ys ++ xs))) e
        (subst⁻¹ (λ (qs : List Check). Failed qs q) (list-checks_append task c count ys xs)
        (failed_sooner (list_checks task c count ys) (checks_from task c (suc (length ys)) (reached ys) xs) q
        (subst (CheckedBy (list_checks task c count ys)) e s.standing)));
    carries = λ g. absurd (good_or_bad e g);
  };
}

-- ---- one step, of a list with no bad step

-- what is known where step x comes after the steps ys
record Here (c : Case) (st : Following) (task : Task) (count : ℕ) (ys : List Step) : Type 0 where
  pub is_task : st.task ≡ task
  pub passed : Passed (list_checks task c count ys)
  pub carries : Carries ys st
  pub more : st.read < most_steps

one_further : {c : Case} {st r : Following} {x : Step} → st.standing ≡ Ok tt
    → ((task : Task) (count : ℕ) (ys : List Step) → Here c st task count ys → StandsAfter c task count (ys ++ (x ∷ [])) r)
    → Follows c st (x ∷ []) r
one_further {c} {st} {r} {x} e f = record {
  leads = λ task count ys l s.
      let p : Passed (list_checks task c count ys) = subst (CheckedBy (list_checks task c count ys)) e s.standing in
      f task count ys (record {
        is_task = s.is_task;
        passed = p;
        carries = s.carries e;
        more = omega (arith, l, length-append ys (x ∷ []), (s.carries e).read, p.1.0);
      });
}

module _ (c : Case) (st : Following) (x : Step) (k : ℕ) (good : st.standing ≡ Ok tt) (nth : st.read < most_steps → k ≡ suc st.read) where
  -- where the list is after x, from what is checked of x
  goes : (task : Task) (count : ℕ) (ys : List Step) (r : Following) → Here c st task count ys → r.task ≡ st.task
      → CheckedBy (checks_from task c k (set_of st.set) (x ∷ [])) r.standing → (r.standing ≡ Ok tt → Carries (ys ++ (x ∷ [])) r)
      → StandsAfter c task count (ys ++ (x ∷ [])) r
  goes task count ys r h e s carries =
      let place : k ≡ suc (length ys) = nth h.more ∙ ap suc h.carries.read in
      record {
        is_task = e ∙ h.is_task;
        standing =
            subst⁻¹ (λ (qs : List Check). CheckedBy qs r.standing) (list-checks_append task c count ys (x ∷ []))
            (standing_then (list_checks task c count ys) (checks_from task c (suc (length ys)) (reached ys) (x ∷ [])) r.standing
            h.passed
            (subst (λ (j : ℕ). CheckedBy (checks_from task c j (reached ys) (x ∷ [])) r.standing) place
            (subst (λ (s : ℕ). CheckedBy (checks_from task c k s (x ∷ [])) r.standing) h.carries.set s)));
        carries = carries;
      }

  counted : (task : Task) (count : ℕ) (ys : List Step) → Here c st task count ys → k ≡ length (ys ++ (x ∷ []))
  counted task count ys h = nth h.more ∙ omega (arith, h.carries.read, length-append ys (x ∷ []))

  -- ---- the step is allowed

  module _ (ok : Passed (step_checks_at (grid_of c) k (set_of st.set) x)) where
    allowed_passes : (task : Task) → Passed (checks_from task c k (set_of st.set) (x ∷ []))
    allowed_passes Replay = ok
    allowed_passes Weave = (ok.0, (λ o. ok.1.1.0, tt))

    pub taken : {set : ℕ} → With (set_of st.set) x.bus (set_of set)
        → Follows c st (x ∷ []) (record { task = st.task; set = set; read = k; standing = st.standing })
    taken {set} with-x = one_further good (λ task count ys h.
        goes task count ys _ h refl
        (subst⁻¹ (CheckedBy (checks_from task c k (set_of st.set) (x ∷ []))) good (allowed_passes task)) (λ e. record {
          set = with-add with-x ∙ ap (λ (s : ℕ). add s x.bus) h.carries.set ∙ sym (reached_append _ ys (x ∷ []));
          read = counted task count ys h;
        }))

  -- ---- the test refuses the step

  module _ (q : Refusal) (refused : Failed (step_checks_at (grid_of c) k (set_of st.set) x) q) where
    -- where the standing after x is w: x passes the task's checks and its bus is observed, or x is refused
    abbrev Leaves : Task → Result (Unit {0}) Refusal → Type 0
    Leaves task w = CheckedBy (checks_from task c k (set_of st.set) (x ∷ [])) w × (w ≡ Ok tt → In (set_of st.set) x.bus)

    bad : (task : Task) → Failed (checks_from task c k (set_of st.set) (x ∷ [])) q → Leaves task (Err q)
    bad task f = (f, λ g. absurd (good_or_bad refl g))

    -- which refusal q is says which check fails
    left_after : (task : Task) → Leaves task (after_refusal task q)
    left_after Replay = bad Replay refused
    left_after Weave = go refused
      where
        is : (r : Refusal) → q ≡ r → Leaves Weave (after_refusal Weave r) → Leaves Weave (after_refusal Weave q)
        is r e h = subst⁻¹ (λ (p : Refusal). Leaves Weave (after_refusal Weave p)) e h

        refused_as : (r : Refusal) → q ≡ r → Failed (checks_from Weave c k (set_of st.set) (x ∷ [])) q
            → Leaves Weave (Err r)
        refused_as r e f = subst (λ (p : Refusal). Leaves Weave (Err p)) e (bad Weave f)

        go : Failed (step_checks_at (grid_of c) k (set_of st.set) x) q → Leaves Weave (after_refusal Weave q)
        go (inl a) = let e = refusal-unique a.1 (itself (NoSuchBus k)) in is (NoSuchBus k) e (refused_as (NoSuchBus k) e (inl a))
        go (inr (n, inl a)) =
            let seen : In (set_of st.set) x.bus = ⊎_elim (λ i. i) (λ o. absurd (a.0 o)) (in_or (set_of st.set) x.bus) in
            is (AlreadyObserved k) (refusal-unique a.1 (itself (AlreadyObserved k))) ((n, (λ o. absurd (a.0 o), tt)), λ g. seen)
        go (inr (n, inr (o, inl a))) =
            let e = refusal-unique a.1 (itself (ReasonFails k)) in
            is (ReasonFails k) e (refused_as (ReasonFails k) e (inr (n, inl (λ h. a.0 (h o), a.1))))
        go (inr (n, inr (o, inr z))) = absurd z.1

    pub kept : {w : Result (Unit {0}) Refusal} → w ≡ after_refusal st.task q
        → Follows c st (x ∷ []) (record { task = st.task; set = st.set; read = k; standing = w })
    kept {w} e = one_further good (λ task count ys h.
        let s : Leaves task w = subst⁻¹ (Leaves task) (e ∙ ap (λ (t : Task). after_refusal t q) h.is_task) (left_after task) in
        goes task count ys _ h refl s.0 (λ g.
        let seen : In (reached ys) x.bus = subst (λ (t : ℕ). In t x.bus) h.carries.set (s.1 g) in
        record {
          set = h.carries.set ∙ sym (add_again (reached ys) x.bus seen) ∙ sym (reached_append _ ys (x ∷ []));
          read = counted task count ys h;
        }))
