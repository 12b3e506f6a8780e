-- Prices: ten-thousandths per 100 of face value, 1 to 1,500,000; higher is better.
use Rattle.std.specs.Prelude.{Bool, ℤ, pos, Option, int_le, refl}
use Rattle.terms.specs.Quotes.{in_range, read_within}
use Rattle.terms.specs.declared.price.Price.{Price}

abbrev pub price_number : Price → ℤ
price_number a = a.units

abbrev pub price_no_worse : Price → Price → Bool
price_no_worse a b = int_le (price_number b) (price_number a)

abbrev pub read_price : ℤ → Option Price
read_price n = read_within (pos 1) (pos 1_500_000) (λ m e. record { units = m; within = e }) n (in_range (pos 1) (pos 1_500_000) n) refl
