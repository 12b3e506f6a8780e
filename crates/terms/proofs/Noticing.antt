-- What the test of a notice's numbers says of them.
use Rattle.std.proofs.Common.{◌≡◌, ◌<◌, ◌≤◌, true, arith}
use Rattle.std.proofs.lemmas.Bool.Decides.{nat_tests}
use Rattle.terms.specs.declared.notice.Notice.{Notice}
use Rattle.terms.specs.Notices.{numbers_fit}

module _ (n : Notice) (fit : true ≡ numbers_fit n) where
  pub offer_kept : (1 ≤ n.offer) × (n.offer ≤ 1_000_000_000)
  offer_kept = (grind (arith, nat_tests), grind (arith, nat_tests))

  pub minimum_kept : (1 ≤ n.minimum) × (n.minimum ≤ n.offer)
  minimum_kept = (grind (arith, nat_tests), grind (arith, nat_tests))

  pub placement_kept : (1 ≤ n.least_placement) × (n.least_placement ≤ n.offer)
  placement_kept = (grind (arith, nat_tests), grind (arith, nat_tests))

  pub number_kept : (1 ≤ n.least_number) × (n.least_number ≤ 2)
  number_kept = (grind (arith, nat_tests), grind (arith, nat_tests))

  pub seconds_kept : (n.opening < n.closing) × (n.closing ≤ 86_399)
  seconds_kept = (grind (arith, nat_tests), grind (arith, nat_tests))
