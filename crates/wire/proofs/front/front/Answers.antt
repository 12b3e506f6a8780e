-- Against the message that is given no ground holds, so that what `accepted` says of it applies.
use Rattle.wire.proofs.Again.{accepted}
use Rattle.wire.proofs.front.front.Goals as goal

pub returns : goal.returns
returns c =
    let j = c.in_ok-kind.ensures in
    let a = accepted c.args.call c.args.rest.now c.in_ok-kind.kind c.decode.result c.type_inv.rest j.accepted j.kind c.decode.ensures in
    record { reply = a.0; fits = a.1 }
