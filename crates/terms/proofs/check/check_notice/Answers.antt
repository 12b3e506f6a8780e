use Rattle.std.proofs.Common.{sym}
use Rattle.terms.proofs.Noticing.{offer_kept, minimum_kept, placement_kept, number_kept, seconds_kept}
use Rattle.terms.proofs.check.check_notice.Goals as goal

pub invariant_of-place : goal.invariant_of-place
invariant_of-place g c =
    let n = c.args.fields.now.notice in
    let fit = c.if-not-numbers_fit.ensures in
    record {
      series = sym c.if-not-series_fits.ensures;
      offer = offer_kept n fit;
      minimum = minimum_kept n fit;
      placement = placement_kept n fit;
      number = number_kept n fit;
      seconds = seconds_kept n fit;
    }
