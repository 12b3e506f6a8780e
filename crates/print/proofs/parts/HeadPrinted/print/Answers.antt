use Rattle.std.proofs.Common.{◌≡◌, length, sym, subst, rules}
use Rattle.print.specs.Fits.{AwardFits}
use Rattle.print.proofs.Lengths.{head_bound}
use Rattle.print.proofs.parts.HeadPrinted.print.Goals as goal

pub returns-in-Some-clause-bound : goal.returns-in-Some-clause-bound
returns-in-Some-clause-bound g c =
    let h = c.args.self.now in
    let long : length h.series ≡ 8 = search rules in
    λ _. head_bound h long (subst AwardFits (sym c.in-Some.is) c.cut_line.ensures.fits)
