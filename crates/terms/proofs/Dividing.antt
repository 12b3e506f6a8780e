-- What a division pro rata stands on, as one record.
use Rattle.terms.specs.declared.pro_rata.Division.{Division}
use Rattle.terms.specs.Dealing.{Ready}

pub ready_of : (d : Division) → Ready d.demands.now d.balance d.total
ready_of d = record { lots = d.lots; counted = d.counted; is = d.is; some = d.some; covers = d.covers }
