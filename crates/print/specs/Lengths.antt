-- How long a print can be.
use Rattle.std.specs.Prelude.{ℕ, ◌+◌, ◌*◌, ◌≤◌, List, length, sum_by, Some, None, Option}
use Rattle.print.specs.declared.act.Act.{Act}
use Rattle.print.specs.declared.head.Head.{Head}
use Rattle.print.specs.declared.refusal.Refusal.{Refusal}
use Rattle.print.specs.declared.row.ActRow.{ActRow}
use Rattle.print.specs.Lines.{print_text}

-- A text has at most so many bytes, where there is room for them.
abbrev pub AtMost : ℕ → ℕ → List ℕ → Type 0
AtMost most room text = most ≤ room → length text ≤ most

-- The most bytes of a refusal's line: REFUSED, two numbers of 20 digits and one of 3.
abbrev pub most_refusal_bytes : Refusal → ℕ
most_refusal_bytes r = 54

-- The most bytes of an act's head: the series, the word, CUT, PLACED and OF, numbers of 11, 20 and 10 bytes.
abbrev pub most_head_bytes : Head → ℕ
most_head_bytes h = 68 + length h.word.now

-- The most bytes of a row's line: numbers of 10, 10, 11, 10 and 10 bytes, and a word of 5.
abbrev pub most_row_bytes : ActRow → ℕ
most_row_bytes r = 62

-- The most bytes of an ending.
abbrev pub most_ending_bytes : Option Act → ℕ
most_ending_bytes (Some act) = most_head_bytes act.head + sum_by most_row_bytes act.rows.now
most_ending_bytes None = 7

-- The most bytes of these refusals and this ending.
abbrev pub most_parts_bytes : List Refusal → Option Act → ℕ
most_parts_bytes refusals ending = sum_by most_refusal_bytes refusals + most_ending_bytes ending

-- How many rows an ending has.
abbrev pub row_count : Option Act → ℕ
row_count (Some act) = length act.rows.now
row_count None = 0

-- How many bytes the word of the kind of quote has.
abbrev pub word_length : Option Act → ℕ
word_length (Some act) = length act.head.word.now
word_length None = 0

-- The most bytes of a print with so many refusals and rows, if the word has at most 8.
abbrev pub most_print_bytes : ℕ → ℕ → ℕ
most_print_bytes refusals rows = 54 * refusals + (76 + 62 * rows)

-- A space of that size is never too short: with room for so many bytes, the print has no more.
abbrev pub Enough : ℕ → List Refusal → Option Act → Type 0
Enough room refusals ending =
    word_length ending ≤ 8
    → most_print_bytes (length refusals) (row_count ending) ≤ room
    → length (print_text refusals ending) ≤ most_print_bytes (length refusals) (row_count ending)
