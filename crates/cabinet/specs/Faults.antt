-- The number of each fault of a session, and how a lower fault becomes one.
use Rattle.std.specs.Prelude.{ℕ, Ok, Err, Result}
use Rattle.terms.specs.Faults.{notice_fault_number}
use Rattle.book.specs.Faults.{book_fault_number}
use Rattle.wire.specs.Faults.{read_number}
use Rattle.cabinet.specs.declared.fault.LowerFault.{LowerFault}
use Rattle.cabinet.specs.declared.fault.LowerFault.TheVariants.{Read, Notice, Book}
use Rattle.cabinet.specs.declared.fault.SessionFault.{SessionFault}
use Rattle.cabinet.specs.declared.located.Located.{Located}

-- a lower fault keeps its number
abbrev pub lower_number : LowerFault → ℕ
lower_number (Read f) = read_number f
lower_number (Notice f) = notice_fault_number f
lower_number (Book f) = book_fault_number f

abbrev pub session_number : SessionFault → ℕ
session_number f = lower_number f.fault

-- an answer whose fault is told with an ordinal and a place
abbrev pub located : {T F : Type 0} → ℕ → ℕ → Result T F → Result T (Located F)
located ordinal place (Ok x) = Ok x
located ordinal place (Err f) = Err (record { ordinal = ordinal; place = place; fault = f })
