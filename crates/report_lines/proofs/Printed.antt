-- What is printed into lent bytes: from a text put where there is room for it; and two replies that print what is asked are one.
use Rattle.std.specs.Prelude.{Option, Some, None, Result, Ok, Err}
use Rattle.std.specs.Option.{ok_or}
use Rattle.std.specs.Result.{result_unwrap_or}
use mathlib.Core.Path.{◌≡◌, refl, sym, ap, ◌∙◌, subst⁻¹}
use mathlib.Core.List.{List, ◌++◌}
use Prim.Native.Nat.{ℕ, ◌+◌, ◌*◌, ◌≤◌}
use native.Mathlib.Omega.{arith}
use lib.ListN.{length, drop, length-append}
use Rattle.text_field.specs.Split.{join}
use Rattle.text_field.specs.Number.{most_digits}
use Rattle.text_field.proofs.Digits.{text_length}
use Rattle.refusals.specs.Refusals.{number_of, place_of}
use Rattle.refusals.specs.declared.Refusal.{Refusal}
use Rattle.refusals.specs.declared.Refusal.TheVariants.{NoRoom}
use Rattle.refusals.proofs.Orders.{itself, refusal-unique}
use Rattle.text_put.specs.Put.{PutWhole}
use Rattle.report_lines.specs.Printing.{refused_text, Printed, PrintedReply}

-- a text put whole is printed; where it has no room, that is refusal 6
pub printed-whole : (t lent left : List ℕ) {r : Result ℕ Refusal} (o : Option ℕ) → PutWhole t lent left o → r ≡ ok_or o NoRoom
    → PrintedReply (λ x. x ≡ t) lent left r
printed-whole t lent left (Some k) p e = rw e (record { text = t; asked = refl; room = p.0; count = p.1; written = p.2 })
printed-whole t lent left None p e = rw e (record { text = t; asked = refl; more = p.0; refusal = itself NoRoom; kept = p.1 })

-- what is printed is within the bytes left
pub printed-within : {P : List ℕ → Type 0} {lent left : List ℕ} {k : ℕ} → Printed P lent left k → k ≤ length left
printed-within {lent = lent} p = omega (arith, p.count, ap length p.written, length-append p.text (drop (length p.text) lent))

-- where there is room for every text that P asks for, the reply is no refusal, and its count is the length
pub always-printed : {P : List ℕ → Type 0} (lent left : List ℕ) (r : Result ℕ Refusal) {k : ℕ} → PrintedReply P lent left r
    → ((t : List ℕ) → P t → length t ≤ length lent) → k ≡ result_unwrap_or r 0 → Printed P lent left k
always-printed {P} lent left (Ok n) p fits e = subst⁻¹ (Printed P lent left) e p
always-printed lent left (Err q) p fits e = absurd (omega (arith, p.more, fits p.text p.asked))

-- where Q asks for every text that P asks for
pub printed-by : {P Q : List ℕ → Type 0} → ((t : List ℕ) → P t → Q t) → (lent left : List ℕ) (r : Result ℕ Refusal)
    → PrintedReply P lent left r → PrintedReply Q lent left r
printed-by f lent left (Ok k) p = record {
  text = p.text;
  asked = f p.text p.asked;
  room = p.room;
  count = p.count;
  written = p.written;
}
printed-by f lent left (Err r) p = record {
  text = p.text;
  asked = f p.text p.asked;
  more = p.more;
  refusal = p.refusal;
  kept = p.kept;
}

-- a reply, with the bytes that it leaves
pub record PrintReply : Type 0 where
  pub reply : Result ℕ Refusal
  pub left : List ℕ

-- where P asks for one text, two replies are equal
pub printed-unique : {P : List ℕ → Type 0} → ((s t : List ℕ) → P s → P t → s ≡ t) → (lent : List ℕ) (a b : Result ℕ Refusal)
    (left right : List ℕ) → PrintedReply P lent left a → PrintedReply P lent right b
    → ◌≡◌ {A = PrintReply} (record { reply = a; left = left }) (record { reply = b; left = right })
printed-unique one lent (Ok k) (Ok m) left right p q =
    let e : p.text ≡ q.text = one _ _ p.asked q.asked in
    let f : Ok k ≡ Ok m = ap Ok (p.count ∙ ap length e ∙ sym q.count) in
    let g : left ≡ right = p.written ∙ ap (λ (t : List ℕ). t ++ drop (length t) lent) e ∙ sym q.written in
    λ i. record { reply = f i; left = g i }
printed-unique one lent (Ok k) (Err r) left right p q =
    absurd (omega (arith, p.room, q.more, ap length (one _ _ p.asked q.asked)))
printed-unique one lent (Err r) (Ok k) left right p q =
    absurd (omega (arith, p.more, q.room, ap length (one _ _ p.asked q.asked)))
printed-unique one lent (Err r) (Err s) left right p q =
    let f : Err r ≡ Err s = ap Err (refusal-unique p.refusal q.refusal) in
    let g : left ≡ right = p.kept ∙ sym q.kept in
    λ i. record { reply = f i; left = g i }

-- how long a refusal's line is: `refused`, two tabs, two numbers and a line feed
abbrev pub refused_room : ℕ
refused_room = 10 + 2 * most_digits

pub refused_length : (q : Refusal) → length (refused_text q) ≤ refused_room
unfolding refused_text join
refused_length q = simp length-append (omega (arith, text_length (number_of q), text_length (place_of q)))
