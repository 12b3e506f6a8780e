-- A message that is written and read is the same message.
use Rattle.std.proofs.Common.{◌≡◌, ℕ, ◌+◌, ◌^◌, ◌<◌, ◌≤◌, true, List, ◌++◌, length, get_or, ℤ, Some, Ok, Option, Result, refl, ap, ◌∙◌, arith, w32, SFits, to_z, of_z}
use Rattle.std.proofs.Math.Facts.{Fits-of_z}
use Rattle.std.proofs.lemmas.Int.{to_z-of_z}
use Rattle.std.proofs.lemmas.Nat.{from_be_bytes-to_be_bytes_4}
use Rattle.std.proofs.lemmas.Bool.Decides.{nat_tests}
use Rattle.wire.specs.Grounds.{taken, length_of}
use Rattle.wire.specs.Messages.{kind_of, encode}
use Rattle.wire.specs.Numbers.{two_at, four_at, signed_at, four, signed}
use Rattle.wire.specs.Reading.{decoded, reading}
use Rattle.wire.specs.RoundTrips.{ComesBack}
use Rattle.wire.specs.declared.call.Call.{Call}
use Rattle.wire.specs.declared.fault.ReadFault.{ReadFault}
use Rattle.wire.specs.declared.message.Message.{Message}
use Rattle.wire.specs.declared.message.Message.TheVariants.{Notice, Entry, Change, Withdrawal, Close, Limit}

-- the fields of a message fit their types
abbrev pub Fitting : Message → Type 0
Fitting (Notice c r s0 s1 s2 s3 s4 s5 s6 s7 o m p n a z) = (o < 2 ^ 32) × (m < 2 ^ 32) × (p < 2 ^ 32) × (a < 2 ^ 32) × (z < 2 ^ 32)
Fitting (Entry s0 s1 s2 s3 s4 s5 s6 s7 h t q l) = (h < 2 ^ 32) × (t < 2 ^ 32) × SFits w32 q × (l < 2 ^ 32)
Fitting (Change n h t q l) = (n < 2 ^ 32) × (h < 2 ^ 32) × (t < 2 ^ 32) × SFits w32 q × (l < 2 ^ 32)
Fitting (Withdrawal n h t) = (n < 2 ^ 32) × (h < 2 ^ 32) × (t < 2 ^ 32)
Fitting (Close t) = t < 2 ^ 32
Fitting (Limit q) = SFits w32 q

-- a number out of its own bytes
four_back : (n : ℕ) → n < 2 ^ 32 → four_at (four n) 0 ≡ n
four_back n h = omega (arith, from_be_bytes-to_be_bytes_4 n h)

signed_back : (z : ℤ) → SFits w32 z → signed_at (signed z) 0 ≡ z
signed_back z f = ap (to_z w32) (four_back (of_z w32 z) (omega (arith, (Fits-of_z f).fits))) ∙ to_z-of_z w32 z f

-- the head of a message's bytes says how long they are
long : (m : Message) (more : List ℕ) → 2 + length_of (kind_of m) ≤ length (encode m ++ more)
long m more = grind arith

says : (m : Message) (more : List ℕ) → two_at (encode m ++ more) 0 ≡ length_of (kind_of m)
says m more = grind arith

-- so there is no ground against it
accepts : (call : Call) (b : List ℕ) → taken call (get_or b 3 0) ≡ true → 2 + length_of (get_or b 3 0) ≤ length b → two_at b 0 ≡ length_of (get_or b 3 0) → get_or b 2 0 ≡ 1 → reading call b ≡ Ok (Some (decoded (get_or b 3 0) b))
accepts call b takes long says version =
    let head : 2 ≤ length_of (get_or b 3 0) = grind (arith, nat_tests) in
    grind (arith, nat_tests)

-- and its fields are those that were written
fields_back : (m : Message) (more : List ℕ) → Fitting m → decoded (kind_of m) (encode m ++ more) ≡ m
unfolding decoded
fields_back m more f = grind (arith, four_back, signed_back)

pub comes_back : (m : Message) → Fitting m → ComesBack m
comes_back m f call more takes =
    let given : Message → Result (Option Message) ReadFault = λ x. Ok (Some x) in
    accepts call (encode m ++ more) takes (long m more) (says m more) refl ∙ ap given (fields_back m more f)
