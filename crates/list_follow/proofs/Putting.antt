-- The second pass of weaving: each step goes to the record that the number of buses reached before it says. So a step for a bus that is
-- already reached goes where the next new one goes, and is written over.
use mathlib.Core.Path.{◌≡◌, refl, sym, ap, ◌∙◌, subst, subst⁻¹}
use mathlib.Core.List.{List, [], ◌∷◌, ◌++◌, append-nil}
use mathlib.Core.Logic.{⊎_elim}
use Prim.Native.Nat.{ℕ, zero, suc, ◌+◌, ◌≤◌, ◌<◌}
use native.Mathlib.Numerals.{add-one}
use native.Mathlib.Omega.{arith}
use lib.ListN.{length, take, drop, get_or, set as put, length-append, length-set, take-append-drop}
use lib.Seq.{take-suc, take_all, take_at, drop-cons, set_at, set-set, append_snoc}
use Rattle.basics.specs.Lists.{Each}
use Rattle.basics.proofs.Tests.{below_or}
use Rattle.busset.specs.Sets.{Bus, In, Out, With, Counted, bit, width, empty, add, size, set_of}
use Rattle.busset.proofs.Members.{in_or, with-add}
use Rattle.step.specs.Records.{no_step, written_into}
use Rattle.step.specs.declared.Step.{Step}
use Rattle.rules.specs.Steps.{reached}
use Rattle.rules.specs.Weaving.{unless_seen, woven, woven_from}
use Rattle.list_follow.specs.Replies.{CanPut, put_woven}
use Rattle.list_follow.proofs.Joining.{reached_append, woven_append, woven-size}

-- zs holds what weaving writes of the first i steps, but that the record after those may hold anything until m are written
pub record PutSoFar (m : ℕ) (xs before : List Step) (i s k : ℕ) (zs : List Step) : Type 0 where
  pub reaches : set_of s ≡ reached (take i xs)
  pub count : k ≡ length (woven (take i xs))
  pub le : k ≤ m
  pub long : length zs ≡ length before
  pub next : (x : Step) → put zs k x ≡ put (written_into (woven (take i xs)) before) k x
  pub all : k ≡ m → zs ≡ written_into (woven (take i xs)) before

pub put-none : (m : ℕ) (xs before : List Step) {s : ℕ} → set_of s ≡ empty → PutSoFar m xs before 0 s 0 before
put-none m xs before e = record { reaches = e; count = refl; le = omega arith; long = refl; next = λ x. refl; all = λ h. refl }

-- ---- while fewer than m are written

each_at : (P : Step → Type 0) (xs : List Step) (i : ℕ) → Each P xs → i < length xs → P (get_or xs i no_step)
each_at P [] i h l = absurd (omega arith)
each_at P (x ∷ xs) zero h l = h.0
each_at P (x ∷ xs) (suc i) h l = each_at P xs i h.1 (omega arith)

module _ {m : ℕ} {xs before : List Step} {i s k : ℕ} {zs : List Step} (can : CanPut m xs before) (w : PutSoFar m xs before i s k zs)
    (l : k < m) where
  abbrev x : Step
  x = get_or xs i no_step

  -- what is written, and what is written with the next step
  abbrev ws : List Step
  ws = woven (take i xs)

  abbrev more : List Step
  more = woven (take (i + 1) xs)

  -- there is a step to come
  pub step_comes : i < length xs
  step_comes =
      ⊎_elim (λ (h : i < length xs). h)
      (λ (h : length xs ≤ i). absurd (omega (arith, can.some, w.count, ap (λ (ys : List Step). length (woven ys)) (take_all i xs h))))
      (below_or i (length xs))

  pub bus_comes : Bus width x.bus
  bus_comes = each_at (λ y. Bus width y.bus) xs i (can.buses (omega arith)) step_comes

  taken : take (i + 1) xs ≡ take i xs ++ (x ∷ [])
  taken = ap (λ (j : ℕ). take j xs) (add-one i) ∙ take-suc xs i no_step step_comes

  more_is : more ≡ ws ++ unless_seen (bit (reached (take i xs)) x.bus) x []
  more_is = ap woven taken ∙ woven_append empty (take i xs) (x ∷ [])

  module _ (t : ℕ) {j : ℕ} (with-x : With (set_of s) x.bus (set_of t)) (counted : Counted width (set_of t) j) where
    reaches_more : set_of t ≡ reached (take (i + 1) xs)
    reaches_more =
        with-add with-x ∙ ap (λ (z : ℕ). add z x.bus) w.reaches ∙ sym (reached_append empty (take i xs) (x ∷ []))
        ∙ ap reached (sym taken)

    counts_more : j ≡ length more
    counts_more = counted.is ∙ ap size reaches_more ∙ sym (woven-size (take (i + 1) xs))

    after : length more ≤ m → ((y : Step) → put (put zs k x) (length more) y ≡ put (written_into more before) (length more) y)
        → (length more ≡ m → put zs k x ≡ written_into more before) → PutSoFar m xs before (i + 1) t j (put zs k x)
    after le next all = record {
      reaches = reaches_more;
      count = counts_more;
      le = omega (arith, counts_more);
      long = length-set zs k x ∙ w.long;
      next = λ y. subst⁻¹ (λ (n : ℕ). put (put zs k x) n y ≡ put (written_into more before) n y) counts_more (next y);
      all = λ e. all (sym counts_more ∙ e);
    }

    -- the bus is not yet reached: the step stays where it is put
    new : Out (reached (take i xs)) x.bus → PutSoFar m xs before (i + 1) t j (put zs k x)
    new o = after (omega (arith, long, w.count)) (λ y. ap (λ (r : List Step). put r (length more) y) same) (λ e. same)
      where
        is : more ≡ ws ++ (x ∷ [])
        is = more_is ∙ ap (λ (d : ℕ). ws ++ unless_seen d x []) o

        long : length more ≡ suc (length ws)
        long = ap length is ∙ omega (arith, length-append ws (x ∷ []))

        same : put zs k x ≡ written_into more before
        same =
            w.next x
            ∙ ap (λ (r : List Step). put (ws ++ r) k x) (drop-cons before (length ws) no_step (omega (arith, can.room, w.count)))
            ∙ set_at ws (get_or before (length ws) no_step) (drop (suc (length ws)) before) x k (sym w.count)
            ∙ sym (append_snoc ws x (drop (suc (length ws)) before))
            ∙ ap (λ (r : List Step). r ++ drop (suc (length ws)) before) (sym is)
            ∙ ap (λ (n : ℕ). more ++ drop n before) (sym long)

    -- the bus is reached: the next step is put over this one
    seen : In (reached (take i xs)) x.bus → PutSoFar m xs before (i + 1) t j (put zs k x)
    seen h =
        after (omega (arith, ap length is, w.count))
        (λ y. subst⁻¹ (λ (us : List Step). put (put zs k x) (length us) y ≡ put (written_into us before) (length us) y) is (over y))
        (λ e. absurd (omega (arith, ap length is, w.count)))
      where
        is : more ≡ ws
        is = more_is ∙ ap (λ (d : ℕ). ws ++ unless_seen d x []) h ∙ append-nil ws

        over : (y : Step) → put (put zs k x) (length ws) y ≡ put (written_into ws before) (length ws) y
        over y =
            subst (λ (n : ℕ). put (put zs k x) n y ≡ put (written_into ws before) n y) w.count (set-set zs k x y ∙ w.next y)

    pub put_more : PutSoFar m xs before (i + 1) t j (put zs k x)
    put_more = ⊎_elim seen new (in_or (reached (take i xs)) x.bus)

-- ---- m are written

pub put_all : {m : ℕ} {xs before : List Step} {i s k : ℕ} {zs : List Step} → PutSoFar m xs before i s k zs → m ≤ k
    → zs ≡ put_woven m xs before
put_all {m} {xs} {before} {i} w l =
    let ws = woven (take i xs) in
    let rest = woven_from (reached (take i xs)) (drop i xs) in
    let parted : woven xs ≡ ws ++ rest =
    ap woven (sym (take-append-drop i xs)) ∙ woven_append empty (take i xs) (drop i xs) in
    w.all (omega (arith, w.le))
    ∙ ap (λ (us : List Step). written_into us before) (sym (ap (take m) parted ∙ take_at ws rest m (omega (arith, w.le, w.count))))
