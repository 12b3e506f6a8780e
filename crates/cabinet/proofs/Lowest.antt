-- The lowest rate and the lowest price, known by their numbers.
use Rattle.std.proofs.Common.{◌≡◌, pos, refl}
use lib.Signed.{le_z_yes}
use Rattle.terms.specs.declared.price.Price.{Price}
use Rattle.terms.specs.declared.rate.Rate.{Rate}
use Rattle.terms.specs.Prices.{price_number}
use Rattle.terms.specs.Rates.{rate_number}
use Rattle.terms.specs.Quoting.{lower_lawful, higher_lawful}
use Rattle.cabinet.specs.Prints.{lowest_rate, lowest_price}

pub rate_is : (q : Rate) → rate_number q ≡ pos 0 → q ≡ lowest_rate
rate_is q e =
    (lower_lawful (pos 0) (pos 9_999) (λ n w. record { hundredths = n; within = w }) rate_number (λ n w. refl) (le_z_yes tt, le_z_yes tt) (λ a. a.within) (λ a. refl)).same_quote q lowest_rate e

pub price_is : (q : Price) → price_number q ≡ pos 1 → q ≡ lowest_price
price_is q e =
    (higher_lawful (pos 1) (pos 1_500_000) (λ n w. record { units = n; within = w }) price_number (λ n w. refl) (le_z_yes tt, le_z_yes tt) (λ a. a.within) (λ a. refl)).same_quote q lowest_price e
