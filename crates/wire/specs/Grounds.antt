-- On which grounds a call refuses the message at the front of some bytes.
use Rattle.std.specs.Prelude.{ℕ, ◌+◌, Bool, cond, not, ◌&&◌, ◌||◌, List, [], ◌∷◌, length, Ok, Err, Result, ◌==◌, nat_le, nat_lt, slice_index}
use Rattle.terms.specs.Grounds.{Ground, when}
use Rattle.wire.specs.Numbers.{two_at}
use Rattle.wire.specs.declared.call.Call.{Call}
use Rattle.wire.specs.declared.call.Call.TheVariants.{Opening, Session}
use Rattle.wire.specs.declared.fault.ReadFault.{ReadFault}
use Rattle.wire.specs.declared.fault.ReadFault.TheVariants.{Truncated, LengthBelowTwo, WrongVersion, WrongKind, WrongLength}

-- The kinds that a call takes: 0 for the notice, 1 to 5 in a session.
abbrev pub taken : Call → ℕ → Bool
taken Opening k = k == 0
taken Session k = nat_le 1 k && nat_le k 5

-- The length of a message of a kind.
abbrev pub length_of : ℕ → ℕ
length_of k = cond (k == 0) 33 (cond (k == 1) 26 (cond (k == 2) 22 (cond (k == 3) 14 6)))

-- The grounds against the message at the front of some bytes, in the order of their numbers.
abbrev pub grounds : Call → List ℕ → List (Ground ReadFault)
grounds call b =
    when (nat_lt (length b) 2 || nat_lt (length b) (2 + two_at b 0)) Truncated
    ∷ when (nat_lt (two_at b 0) 2) LengthBelowTwo
    ∷ when (not (slice_index b 2 == 1)) WrongVersion
    ∷ when (not (taken call (slice_index b 3))) WrongKind
    ∷ when (not (two_at b 0 == length_of (slice_index b 3))) WrongLength
    ∷ []

-- The first ground that holds is the refusal.
abbrev pub verdict : List (Ground ReadFault) → Result (Unit {0}) ReadFault
verdict [] = Ok tt
verdict (g ∷ gs) = cond g.holds (Err g.fault) (verdict gs)
