use Rattle.std.proofs.Common.{◌≡◌, sum_by, rules, arith}
use Rattle.terms.specs.ProRata.{first_share}
use Rattle.terms.specs.Fairness.{firsts_fit, room_fits}
use Rattle.terms.proofs.Dividing.{ready_of}
use Rattle.terms.proofs.pro_rata.Division.firsts.Goals as goal

pub returns : goal.returns
returns c =
    let d = c.args.self.now in
    let all : c.sum.result ≡ sum_by (first_share d.balance d.total) d.demands.now = search rules in
    let fit = firsts_fit d.demands.now d.balance d.total (ready_of d) in
    let room = room_fits d.demands.now d.balance d.total (ready_of d) in
    record { value = all; within = omega arith; room = rw all room }
