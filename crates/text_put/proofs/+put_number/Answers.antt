-- Below 10 the number is its one digit. From 10 on, the digits of n / 10 and then n % 10 are the digits of n.
use Prim.Native.Nat.{◌/◌}
use native.Mathlib.Omega.{arith}
use borrow.Author.Rules.{rules}
use Rattle.text_field.proofs.Digits.{text_length}
use Rattle.text_put.proofs.Putting.{put-digit, put-digits}
use Rattle.text_put.proofs.+put_number.Goals as goal

pub put_byte-requires-else-n-lt10 : goal.put_byte-requires-else-n-lt10
put_byte-requires-else-n-lt10 t c = omega (arith, text_length (c.args.n / 10))

pub returns-then-n-lt10 : goal.returns-then-n-lt10
returns-then-n-lt10 t c = search (rules, put-digit)

pub returns-else-n-lt10 : goal.returns-else-n-lt10
returns-else-n-lt10 t c = search (rules, put-digits)
