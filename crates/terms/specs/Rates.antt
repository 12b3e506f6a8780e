-- Rates: hundredths of a per cent, 0 to 9,999; lower is better.
use Rattle.std.specs.Prelude.{Bool, ℤ, pos, Option, int_le, refl}
use Rattle.terms.specs.Quotes.{in_range, read_within}
use Rattle.terms.specs.declared.rate.Rate.{Rate}

abbrev pub rate_number : Rate → ℤ
rate_number a = a.hundredths

abbrev pub rate_no_worse : Rate → Rate → Bool
rate_no_worse a b = int_le (rate_number a) (rate_number b)

abbrev pub read_rate : ℤ → Option Rate
read_rate n = read_within (pos 0) (pos 9_999) (λ m e. record { hundredths = m; within = e }) n (in_range (pos 0) (pos 9_999) n) refl
