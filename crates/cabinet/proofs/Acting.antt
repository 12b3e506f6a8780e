-- Rows of an act, one number after another.
use Rattle.std.proofs.Common.{◌≤◌, length, Some, None, Option, arith}
use Rattle.cabinet.specs.Tables.{as_list}

pub one_at_most : {A : Type 0} (o : Option A) → length (as_list o) ≤ 1
one_at_most None = omega arith
one_at_most (Some x) = omega arith
