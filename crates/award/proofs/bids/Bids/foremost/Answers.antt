use Rattle.std.proofs.Common.{◌∷◌, arith}
use Rattle.std.proofs.lemmas.Grind.{common_steps}
use Rattle.award.proofs.bids.Bids.foremost.Goals as goal

pub loop-row-preserved-then-stands_where : goal.loop-row-preserved-then-stands_where
loop-row-preserved-then-stands_where g c =
    λ order test h k.
    let steps = c.in-Some.ensures.steps in
    let e = c.stands_where.ensures test k in
    let f = c.earlier.ensures order h in
    let inv = c.loop-row.invariant order test h k in
    (c.in-Some.row.now ∷ inv.0, grind (arith, common_steps), grind (arith, common_steps))

pub loop-row-preserved : goal.loop-row-preserved
loop-row-preserved g c =
    λ order test h k.
    let steps = c.in-Some.ensures.steps in
    let e = c.stands_where.ensures test k in
    let inv = c.loop-row.invariant order test h k in
    (c.in-Some.row.now ∷ inv.0, grind (arith, common_steps), grind (arith, common_steps))

pub returns : goal.returns
returns g c =
    λ order test h k.
    let steps = c.in-None.ensures.steps in
    let inv = c.loop-row.invariant order test h k in
    grind (arith, common_steps)
