-- A message that is written into a space is read from there.
use Rattle.std.proofs.Common.{◌≡◌, ℕ, true, List, ◌++◌, length, drop, Some, Ok, ap, ◌∙◌, arith}
use Rattle.wire.specs.Grounds.{taken}
use Rattle.wire.specs.Messages.{kind_of, encode}
use Rattle.wire.specs.Reading.{reading}
use Rattle.wire.specs.Reads.{bytes_passed}
use Rattle.wire.specs.RoundTrips.{ComesBack, call_for, Returned}
use Rattle.wire.specs.Writes.{Writes}
use Rattle.wire.specs.declared.back.Back.{Back}
use Rattle.wire.specs.declared.fault.WriteFault.{WriteFault}
use Rattle.wire.specs.declared.message.Message.{Message}

takes : (m : Message) → taken (call_for m) (kind_of m) ≡ true
takes m = grind arith

pub returned : (m : Message) (before after : List ℕ) (n : ℕ) (b : Back) → Writes {E = WriteFault} (encode m) before after (Ok n) → ComesBack m → b.read ≡ reading (call_for m) after → b.place ≡ bytes_passed b.read → Returned m before after b
returned m before after n b written back read place =
    let rest = drop (length (encode m)) before in
    let whole : after ≡ encode m ++ rest = written.2 ∙ ap (λ x. encode m ++ drop x before) written.0 in
    let same : b.read ≡ Ok (Some m) = read ∙ ap (reading (call_for m)) whole ∙ back (call_for m) rest (takes m) in
    record { read = same; place = place ∙ ap bytes_passed same; fits = omega arith; space = whole }
