use Rattle.std.proofs.Common.{◌≡◌, drop}
use Rattle.book.specs.Told.{row_of}
use Rattle.book.proofs.questions.row_of.Given as goal

-- the row is among those that are left
abbrev pub invariant-loop-row : goal.invariant-loop-row
invariant-loop-row g l = row_of l.number (drop l.row-index l.rows) ≡ row_of l.number l.rows
