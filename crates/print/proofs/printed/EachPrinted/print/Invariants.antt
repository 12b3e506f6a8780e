use Rattle.std.proofs.Common.{◌≡◌, ◌+◌, ◌≤◌, length, take, sum_by}
use Rattle.print.specs.Texts.{texts}
use Rattle.print.proofs.printed.EachPrinted.print.Given as goal

-- what is taken, what room is left, and that the items passed are within their bounds where all bounds fit the room
abbrev pub invariant-loop-item : goal.invariant-loop-item
invariant-loop-item g l =
    let front = texts g.T.Printed.text (take l.item-index l.item-items) in
    let m = g.T.Printed.most in
    let room = g.S.Sink.room in
    record {
      taken : g.S.Sink.took front l.initial.sink l.sink;
      left : room l.sink + length front ≡ room l.initial.sink;
      bound : sum_by m l.item-items ≤ room l.initial.sink → length front ≤ sum_by m (take l.item-index l.item-items);
    }
