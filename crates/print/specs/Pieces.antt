-- The pieces of a line, as bytes.
use Rattle.std.specs.Prelude.{ℕ, List, decimal}
use Rattle.std.specs.Fmt.{signed_decimal}
use Rattle.print.specs.declared.piece.Piece.{Piece}
use Rattle.print.specs.declared.piece.Piece.TheVariants.{Number, Signed, Text}

-- The bytes of a piece.
abbrev pub spelled : Piece → List ℕ
spelled (Number n) = decimal n
spelled (Signed z) = signed_decimal z
spelled (Text bytes) = bytes.now
