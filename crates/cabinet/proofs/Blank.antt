-- A sale over rows that are known by another name.
use Rattle.std.proofs.Common.{◌≡◌, ℕ, Bool, List, replicate, ℤ, Option, Result, subst}
use Rattle.award.specs.declared.row.Row.{Row}
use Rattle.wire.specs.declared.fault.WriteFault.{WriteFault}
use Rattle.wire.specs.Writes.{Writes}
use Rattle.cabinet.specs.Prints.{sale_print}

pub same_rows : {Q : Type 0} (number : Q → ℤ) (read : ℤ → Option Q) (no_worse : Q → Q → Bool) (share : List ℕ → ℕ → List ℕ) (kind rule : ℕ) (word bytes before after : List ℕ) (r : Result ℕ WriteFault)
    (count : ℕ) (row other : Row Q) → row ≡ other
    → Writes (sale_print number read no_worse share kind rule word (replicate count row) bytes) before after r
    → Writes (sale_print number read no_worse share kind rule word (replicate count other) bytes) before after r
same_rows number read no_worse share kind rule word bytes before after r count row other e h =
    subst (λ x. Writes (sale_print number read no_worse share kind rule word (replicate count x) bytes) before after r) e h
