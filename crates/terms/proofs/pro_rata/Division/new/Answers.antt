use Rattle.terms.specs.Fairness.{made_ready}
use Rattle.terms.proofs.pro_rata.Division.new.Goals as goal

pub invariant_of-result : goal.invariant_of-result
invariant_of-result c =
    let ready = made_ready c.args.demands.now c.args.balance c.total_of.result c.requires c.total_of.ensures in
    record { lots = ready.lots; counted = ready.counted; is = ready.is; some = ready.some; covers = ready.covers }
