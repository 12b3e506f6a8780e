-- The values of what is printed fit their types.
use Rattle.std.specs.Prelude.{◌^◌, ◌<◌, Some, None, Option, FitsSigned}
use Rattle.std.specs.Int.{w32}
use Rattle.print.specs.declared.head.Cut.{Cut}
use Rattle.print.specs.declared.refusal.Refusal.{Refusal}
use Rattle.print.specs.declared.row.ActRow.{ActRow}

-- Those of a refusal.
abbrev pub RefusalFits : Refusal → Type 0
RefusalFits r = (r.ordinal < 2 ^ 64) × (r.number < 2 ^ 8) × (r.place < 2 ^ 64)

-- Those of an award.
abbrev pub AwardFits : Option Cut → Type 0
AwardFits None = Unit {0}
AwardFits (Some c) = FitsSigned w32 c.cut × (c.placed < 2 ^ 64) × (c.offer < 2 ^ 32)

-- Those of a row.
abbrev pub RowFits : ActRow → Type 0
RowFits r = (r.number < 2 ^ 32) × (r.house < 2 ^ 32) × FitsSigned w32 r.quote × (r.lots < 2 ^ 32) × (r.allotted < 2 ^ 32)
