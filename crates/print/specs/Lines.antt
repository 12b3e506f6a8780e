-- The lines that are printed, byte by byte.
use Rattle.std.specs.Prelude.{ℕ, List, [], ◌∷◌, ◌++◌, Some, None, Option, codes, decimal}
use Rattle.std.specs.Fmt.{signed_decimal}
use Rattle.book.specs.declared.outcome.Outcome.{Outcome}
use Rattle.book.specs.declared.outcome.Outcome.TheVariants.{Full, Part, Worse, Over, Out, Void}
use Rattle.print.specs.declared.act.Act.{Act}
use Rattle.print.specs.declared.head.Cut.{Cut}
use Rattle.print.specs.declared.head.Head.{Head}
use Rattle.print.specs.declared.refusal.Refusal.{Refusal}
use Rattle.print.specs.declared.row.ActRow.{ActRow}
use Rattle.print.specs.Texts.{texts}

-- What follows a field: a space where there are more fields, or the line feed.
abbrev pub after_field : List (List ℕ) → ℕ
after_field [] = 10
after_field (field ∷ fields) = 32

-- A line of these fields: one space between them, a line feed at its end.
abbrev pub line : List (List ℕ) → List ℕ
line [] = []
line (field ∷ fields) = field ++ (after_field fields ∷ line fields)

-- The line of a refusal.
abbrev pub refusal_line : Refusal → List ℕ
refusal_line r = line (codes "REFUSED" ∷ decimal r.ordinal ∷ decimal r.number ∷ decimal r.place ∷ [])

-- The fields of an award.
abbrev pub award_fields : Option Cut → List (List ℕ)
award_fields None = codes "VOID" ∷ []
award_fields (Some c) = codes "CUT" ∷ signed_decimal c.cut ∷ codes "PLACED" ∷ decimal c.placed ∷ codes "OF" ∷ decimal c.offer ∷ []

-- The head of an act: the series, the word of the kind of quote, and the award.
abbrev pub act_head : List ℕ → List ℕ → Option Cut → List ℕ
act_head series word award = line (series ∷ word ∷ award_fields award)

-- The line of a head.
abbrev pub head_line : Head → List ℕ
head_line h = act_head h.series h.word.now h.award

-- The word of an outcome.
abbrev pub outcome_word : Outcome → List ℕ
outcome_word (Full lots) = codes "FULL"
outcome_word (Part lots) = codes "PART"
outcome_word Worse = codes "WORSE"
outcome_word Over = codes "OVER"
outcome_word Out = codes "OUT"
outcome_word Void = codes "VOID"

-- The line of a row.
abbrev pub row_line : ActRow → List ℕ
row_line r =
    line (decimal r.number ∷ decimal r.house ∷ signed_decimal r.quote ∷ decimal r.lots ∷ decimal r.allotted ∷ outcome_word r.outcome ∷ [])

-- An act: its head, and a line for each row.
abbrev pub act_text : Head → List ActRow → List ℕ
act_text head rows = head_line head ++ texts row_line rows

-- The line for a book without an act.
abbrev pub no_act_line : List ℕ
no_act_line = line (codes "NO" ∷ codes "ACT" ∷ [])

-- What a print ends with: the act, or that there is none.
abbrev pub ending_text : Option Act → List ℕ
ending_text (Some act) = act_text act.head act.rows.now
ending_text None = no_act_line

-- A whole print: a line for each refusal, and the ending.
abbrev pub print_text : List Refusal → Option Act → List ℕ
print_text refusals ending = texts refusal_line refusals ++ ending_text ending
