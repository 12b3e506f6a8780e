-- The digits of the size are taken behind the minus sign, or alone.
use Rattle.std.proofs.Common.{[], ◌∷◌, decimal, subst}
use Rattle.print.specs.Sinks.{Takes}
use Rattle.print.proofs.Digits.{minus_sign, no_sign}
use Rattle.print.proofs.Sinks.{then_takes}
use Rattle.print.proofs.number.print_signed.Goals as goal
use Rattle.print.proofs.number.print_signed.Goals.{then-z-lt0+in_ok-take, else-z-lt0}

pub returns : goal.returns
returns g c =
    let room = g.S.Sink.room in
    let took = g.S.Sink.took in
    let z = c.args.z in
    let size = c.unsigned_abs.result in
    let old = c.args.sink.now in
    let new = c.take_number.new.self in
    let r = c.take_number.result in
    elim c.if-z-lt0.branch [
      | then-z-lt0+in_ok-take w ↦
          let digits = subst (λ s. Takes room took (decimal size) s new r) w.sink-is c.take_number.ensures in
          subst (λ text. Takes room took text old new r) (minus_sign z size c.ranges.z c.unsigned_abs.ensures.value w.if-z-lt0.true)
          (then_takes room took g.met.S.Sink.laws (45 ∷ []) (decimal size) old w.take.new.self new r w.in_ok-take.ensures digits)
      | else-z-lt0 w ↦
          let digits = subst (λ s. Takes room took (decimal size) s new r) w.sink-is c.take_number.ensures in
          subst (λ text. Takes room took text old new r) (no_sign z size c.ranges.z c.unsigned_abs.ensures.value w.if-z-lt0.false) digits
    ]
