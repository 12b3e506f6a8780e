-- The shares of the rule that was asked for.
use Rattle.std.specs.Prelude.{ℕ, List}
use Rattle.terms.specs.Arrival.{in_arrival_order}
use Rattle.terms.specs.ProRata.{pro_rata}
use Rattle.share.specs.declared.division.Rule.{Rule}
use Rattle.share.specs.declared.division.Rule.TheVariants.{ProRata, InArrivalOrder}

abbrev pub shares_by : Rule → List ℕ → ℕ → List ℕ
shares_by ProRata = pro_rata
shares_by InArrivalOrder = in_arrival_order
