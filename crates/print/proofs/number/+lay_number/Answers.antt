-- A number's digits: the last, and before it those of its tenth.
use Rattle.std.proofs.Common.{◌≡◌, ◌+◌, ◌-◌, ◌/◌, ◌≤◌, [], ◌∷◌, length, decimal, set, ap, ◌∙◌, arith, rules}
use Rattle.std.proofs.lemmas.Fmt.{decimal_nonempty}
use Rattle.print.specs.Places.{laid}
use Rattle.print.proofs.Digits.{one_digit, more_digits, one_more}
use Rattle.print.proofs.Places.{laid_byte, laid_before}
use Rattle.print.proofs.number.+lay_number.Goals as goal

pub overflow_sub-last : goal.overflow_sub-last
overflow_sub-last t c = omega (arith, decimal_nonempty c.args.n (search rules), c.requires.room)

pub bounds-space-last : goal.bounds-space-last
bounds-space-last t c = omega (arith, decimal_nonempty c.args.n (search rules), c.requires.room, c.requires.within)

pub lay_number-requires : goal.lay_number-requires
lay_number-requires t c =
    let long = one_more c.args.n c.if-n-ge10.true (search rules) in
    let room : length (decimal (c.args.n / 10)) ≤ c.args.end - 1 = omega (arith, long, c.requires.room) in
    search (rules, room, c.requires.within)

pub returns-then-n-ge10 : goal.returns-then-n-ge10
returns-then-n-ge10 t c =
    let n = c.args.n in
    let d = c.last_digit.result in
    let end = c.args.end in
    let xs = c.args.space.now in
    let front = decimal (n / 10) in
    let at = end - length (decimal n) in
    let long = one_more n c.if-n-ge10.true (search rules) in
    let first : end - 1 - length front ≡ at = omega (arith, long) in
    let last : end - 1 ≡ at + length front = omega (arith, long, c.requires.room) in
    c.lay_number.ensures
    ∙ ap (λ k. laid k front (set xs (end - 1) d)) first
    ∙ ap (laid at front) (laid_byte xs (end - 1) d (omega (arith, long, c.requires.room, c.requires.within)))
    ∙ ap (λ k. laid at front (laid k (d ∷ []) xs)) last
    ∙ laid_before at front (d ∷ []) xs (omega (arith, long, c.requires.room, c.requires.within))
    ∙ ap (λ w. laid at w xs) (more_digits n d c.if-n-ge10.true (search rules) c.last_digit.ensures)

pub returns-else-n-ge10 : goal.returns-else-n-ge10
returns-else-n-ge10 t c =
    let n = c.args.n in
    let d = c.last_digit.result in
    let end = c.args.end in
    let xs = c.args.space.now in
    let digit = one_digit n d c.if-n-ge10.false c.last_digit.ensures in
    let long : length (decimal n) ≡ 1 = omega (arith, ap length digit) in
    let at : end - 1 ≡ end - length (decimal n) = omega (arith, long) in
    laid_byte xs (end - 1) d (omega (arith, long, c.requires.room, c.requires.within))
    ∙ ap (λ k. laid k (d ∷ []) xs) at
    ∙ ap (λ w. laid (end - length (decimal n)) w xs) digit
