-- A recursion in which n falls: from 10 on, n / 10 is below n.
use Rattle.text_put.proofs.+put_number.Given as goal

abbrev pub decreases-put_number : goal.decreases-put_number
decreases-put_number l = l.n
