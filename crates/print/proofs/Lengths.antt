-- How long a line, and a print of many lines, can be.
use Rattle.std.proofs.Common.{◌≡◌, ℕ, ◌+◌, ◌*◌, ◌^◌, ◌<◌, ◌≤◌, List, [], ◌∷◌, length, ℤ, pos, negsuc, codes, decimal, sum_by, Some, None, Option, refl, arith, w32, SFits}
use lib.Signed.{mag}
use Rattle.std.specs.Fmt.{signed_decimal}
use Rattle.std.proofs.lemmas.Fmt.{length-decimal-le, length_signed_le}
use Rattle.std.proofs.lemmas.List.{length-append}
use Rattle.std.proofs.lemmas.List.Sums.{sum_by-cons}
use Rattle.book.specs.declared.outcome.Outcome.{Outcome}
use Rattle.book.specs.declared.outcome.Outcome.TheVariants.{Full, Part, Worse, Over, Out, Void}
use Rattle.print.specs.declared.act.Act.{Act}
use Rattle.print.specs.declared.head.Cut.{Cut}
use Rattle.print.specs.declared.head.Head.{Head}
use Rattle.print.specs.declared.refusal.Refusal.{Refusal}
use Rattle.print.specs.declared.row.ActRow.{ActRow}
use Rattle.print.specs.Fits.{RefusalFits, AwardFits, RowFits}
use Rattle.print.specs.Lengths.{AtMost, Enough, most_parts_bytes}
use Rattle.print.specs.Lines.{line, after_field, award_fields, act_head, head_line, refusal_line, outcome_word, row_line, print_text}

-- a field and the byte after it
abbrev field_bytes : List ℕ → ℕ
field_bytes field = length field + 1

length_line : (fields : List (List ℕ)) → length (line fields) ≡ sum_by field_bytes fields
length_line [] = refl
length_line (f ∷ fields) =
    omega (arith, length-append f (after_field fields ∷ line fields), length_line fields, sum_by-cons field_bytes f fields)

long_number : (n : ℕ) → n < 2 ^ 64 → length (decimal n) ≤ 20
long_number n h = length-decimal-le 20 n (omega arith) (omega arith) h

number : (n : ℕ) → n < 2 ^ 32 → length (decimal n) ≤ 10
number n h = length-decimal-le 10 n (omega arith) (omega arith) (omega arith)

small_number : (n : ℕ) → n < 2 ^ 8 → length (decimal n) ≤ 3
small_number n h = length-decimal-le 3 n (omega arith) (omega arith) (omega arith)

size : (z : ℤ) → SFits w32 z → mag z < 2 ^ 31
size (pos n) f = omega (arith, f.sfits)
size (negsuc n) f = omega (arith, f.sfits)

signed_number : (z : ℤ) → SFits w32 z → length (signed_decimal z) ≤ 11
signed_number z f = length_signed_le 10 z (omega (arith, size z f)) (omega (arith, size z f))

word : (o : Outcome) → length (outcome_word o) ≤ 5
word (Full lots) = omega arith
word (Part lots) = omega arith
word Worse = omega arith
word Over = omega arith
word Out = omega arith
word Void = omega arith

pub refusal_bound : (r : Refusal) → RefusalFits r → length (refusal_line r) ≤ 54
refusal_bound r f =
    omega (
      arith,
      length_line (codes "REFUSED" ∷ decimal r.ordinal ∷ decimal r.number ∷ decimal r.place ∷ []),
      long_number r.ordinal f.0,
      small_number r.number f.1,
      long_number r.place f.2,
    )

pub head_bound : (h : Head) → length h.series ≡ 8 → AwardFits h.award → length (head_line h) ≤ 68 + length h.word.now
head_bound h s f = by h.award f
  where
    by : (a : Option Cut) → AwardFits a → length (act_head h.series h.word.now a) ≤ 68 + length h.word.now
    by None f = omega (arith, s, length_line (h.series ∷ h.word.now ∷ award_fields None))
    by (Some c) f =
        omega (arith, s, length_line (h.series ∷ h.word.now ∷ award_fields (Some c)), signed_number c.cut f.0, long_number c.placed f.1, number c.offer f.2)

pub row_bound : (r : ActRow) → RowFits r → length (row_line r) ≤ 62
row_bound r f =
    omega (
      arith,
      length_line (decimal r.number ∷ decimal r.house ∷ signed_decimal r.quote ∷ decimal r.lots ∷ decimal r.allotted ∷ outcome_word r.outcome ∷ []),
      number r.number f.0,
      number r.house f.1,
      signed_number r.quote f.2,
      number r.lots f.3,
      number r.allotted f.4,
      word r.outcome,
    )

-- as many bytes for each item
same_for_each : {X : Type 0} (k : ℕ) (xs : List X) → sum_by (λ x. k) xs ≡ k * length xs
same_for_each k [] = omega arith
same_for_each k (x ∷ xs) = omega (arith, sum_by-cons (λ x. k) x xs, same_for_each k xs)

-- the bound of a print by its refusals and its ending, from their counts
pub print_bound : (room : ℕ) (refusals : List Refusal) (ending : Option Act) → AtMost (most_parts_bytes refusals ending) room (print_text refusals ending) → Enough room refusals ending
print_bound room refusals (Some act) b short h =
    let one = same_for_each 54 refusals in
    let two = same_for_each 62 act.rows.now in
    omega (arith, short, one, two, b (omega (arith, short, h, one, two)))
print_bound room refusals None b short h =
    let one = same_for_each 54 refusals in
    omega (arith, one, b (omega (arith, h, one)))
