use Rattle.std.proofs.Common.{◌/◌, length, ap, arith, rules}
use Rattle.std.proofs.lemmas.Fmt.{decimal_digit, length-decimal-le}
use Rattle.print.proofs.Digits.{one_more, two_more}
use Rattle.print.proofs.number.+number_width.Goals as goal

pub overflow_add-result : goal.overflow_add-result
overflow_add-result t c = search (rules, length-decimal-le 20)

pub returns-then-n-lt10 : goal.returns-then-n-lt10
returns-then-n-lt10 t c = search (rules, decimal_digit)

pub returns-then-n-lt100 : goal.returns-then-n-lt100
returns-then-n-lt100 t c =
    let n = c.args.n in
    omega (arith, one_more n (omega (arith, c.if-n-lt10.false)) (search rules), ap length (decimal_digit (n / 10) (omega (arith, c.if-n-lt100.true))))

pub returns-else-n-lt100 : goal.returns-else-n-lt100
returns-else-n-lt100 t c = search (rules, two_more)
