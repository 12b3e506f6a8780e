use Rattle.terms.proofs.Serving.{served_in_order}
use Rattle.terms.proofs.pro_rata.ProRata.serves_in_order.Goals as goal

pub returns : goal.returns
returns c = served_in_order
