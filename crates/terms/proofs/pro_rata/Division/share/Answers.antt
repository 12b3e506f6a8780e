use Rattle.terms.specs.ProRata.{pro_rata}
use Rattle.terms.specs.Fairness.{dealt_shares, pro_rata_length}
use Rattle.terms.proofs.Dividing.{ready_of}
use Rattle.terms.proofs.Filling.{laid_from}
use Rattle.terms.proofs.pro_rata.Division.share.Goals as goal

pub returns : goal.returns
returns c =
    let d = c.args.self.now in
    let ds = d.demands.now in
    let s = d.balance in
    let e = dealt_shares ds s d.total (ready_of d) c.firsts.result c.room_below.result c.threshold-bound.result
    c.firsts.ensures.value c.threshold-bound.ensures c.room_below.ensures in
    laid_from (pro_rata ds s) _ c.args.shares.now _ _ e (pro_rata_length ds s) c.deal.ensures
