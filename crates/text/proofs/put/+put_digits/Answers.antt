use mathlib.Core.Path.{◌∙◌}
use native.Mathlib.Omega.{arith}
use Rattle.text.proofs.Puts.{digits_none, digits_one, digits_more}
use Rattle.text.proofs.put.+put_digits.Goals as goal

pub returns-then-k-eq0 : goal.returns-then-k-eq0
returns-then-k-eq0 t c =
    record { written = digits_none c.args.n c.args.k c.if-k-eq0.true; upper_bound = omega arith }

pub digit-requires : goal.digit-requires
digit-requires t c =
    omega arith

pub put_byte-requires : goal.put_byte-requires
put_byte-requires t c =
    omega arith

pub shape_of-out-then-n-lt10 : goal.shape_of-out-then-n-lt10
shape_of-out-then-n-lt10 t c =
    c.put_byte.ensures.written.len

pub returns-then-n-lt10 : goal.returns-then-n-lt10
returns-then-n-lt10 t c =
    record { written = digits_one c.args.n c.args.k c.if-k-eq0.false c.if-n-lt10.true c.digit.ensures c.put_byte.ensures.written; upper_bound = omega arith }

pub overflow_sub-k : goal.overflow_sub-k
overflow_sub-k t c =
    omega arith

pub put_digits-next-requires : goal.put_digits-next-requires
put_digits-next-requires t c =
    (omega arith, omega arith)

pub digit-requires-2 : goal.digit-requires-2
digit-requires-2 t c =
    omega arith

pub put_byte-requires-2 : goal.put_byte-requires-2
put_byte-requires-2 t c =
    omega (arith, c.put_digits-next.ensures.written.len)

pub shape_of-out : goal.shape_of-out
shape_of-out t c =
    c.put_byte-2.ensures.written.len ∙ c.put_digits-next.ensures.written.len

pub returns : goal.returns
returns t c =
    record { written = digits_more c.args.n c.args.k c.if-k-eq0.false c.if-n-lt10.false c.put_digits-next.ensures.written c.digit-2.ensures c.put_byte-2.ensures.written; upper_bound = omega (arith, c.put_digits-next.ensures.upper_bound, c.put_byte-2.ensures.value) }
