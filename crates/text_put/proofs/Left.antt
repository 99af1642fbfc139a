-- A text put piece after piece: putting the whole from where it begins is putting what is left from here.
use mathlib.Core.Path.{◌≡◌, refl, sym, ap, ◌∙◌}
use mathlib.Core.List.{List, [], ◌++◌}
use Prim.Native.Nat.{ℕ, ◌+◌}
use native.Mathlib.Omega.{arith}
use lib.ListN.{length, length-append}
use lib.Seq.{sets}
use Rattle.text_put.specs.Put.{Put}
use Rattle.text_put.proofs.Putting.{sets_append, put_length}

pub record Left (l : List ℕ) (at : ℕ) (whole m : List ℕ) (k : ℕ) (rest : List ℕ) : Type 0 where
  pub is : sets m k rest ≡ sets l at whole
  pub next : k + length rest ≡ at + length whole
  pub size : length m ≡ length l

pub left-none : {l whole rest : List ℕ} {at : ℕ} → rest ≡ whole → Left l at whole l at rest
left-none {l} {at = at} e = record { is = ap (sets l at) e; next = ap (λ (t : List ℕ). at + length t) e; size = refl }

pub left-more : {l whole m rest t u n : List ℕ} {at k q : ℕ} → Left l at whole m k rest → rest ≡ t ++ u → Put m k t n q
    → Left l at whole n q u
left-more {l} {whole} {m} {rest} {t} {u} {n} {at} {k} {q} w e p = record {
  is = rw (p.put, p.next) (sets_append m t u k) ∙ ap (sets m k) (sym e) ∙ w.is;
  next = omega (arith, w.next, p.next, ap length e, length-append t u);
  size = put_length p ∙ w.size;
}

pub left-all : {l whole m rest : List ℕ} {at k : ℕ} → Left l at whole m k rest → rest ≡ [] → Put l at whole m k
left-all {l} {whole} {m} {rest} {at} {k} w e = record {
  put = ap (sets m k) (sym e) ∙ w.is;
  next = omega (arith, w.next, ap length e);
}
