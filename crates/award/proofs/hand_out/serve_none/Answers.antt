use Rattle.std.proofs.Common.{arith}
use Rattle.std.proofs.lemmas.Grind.{common_steps}
use Rattle.award.proofs.Handing.{none_all}
use Rattle.award.proofs.hand_out.serve_none.Goals as goal

pub returns : goal.returns
returns g c =
    let filled = c.fill.ensures.after (λ y k. k) in
    let none = none_all c.args.rows.now in
    grind (arith, common_steps)
