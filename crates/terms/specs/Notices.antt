-- The rules of a notice, and what a check of one does.
use Rattle.std.specs.Prelude.{ℕ, Bool, not, ◌&&◌, ◌||◌, List, [], ◌∷◌, Some, None, codes, Option, ◌==◌, nat_le, nat_lt}
use Rattle.std.specs.List.{list_all}
use Rattle.terms.specs.declared.fault.NoticeFault.{NoticeFault}
use Rattle.terms.specs.declared.fault.NoticeFault.TheVariants.{AgainstRules}
use Rattle.terms.specs.declared.notice.Notice.{Notice}
use Rattle.terms.specs.declared.notice.NoticeFields.{NoticeFields}
use Rattle.terms.specs.Tests.{between}
use Rattle.terms.specs.Grounds.{Ground, when}

-- a byte of a series code: A to Z or 0 to 9
abbrev pub series_byte : ℕ → Bool
series_byte b = between 65 b 90 || between 48 b 57

-- a series code: each byte is such a byte
abbrev pub series_fits : List ℕ → Bool
series_fits = list_all series_byte

-- the lots, the number of bids and the seconds
abbrev pub numbers_fit : Notice → Bool
numbers_fit n =
    between 1 n.offer 1_000_000_000
    && between 1 n.minimum n.offer
    && between 1 n.least_placement n.offer
    && between 1 n.least_number 2
    && nat_lt n.opening n.closing
    && nat_le n.closing 86_399

-- the rules of a notice, as one test
abbrev pub notice_fits : Notice → Bool
notice_fits n = series_fits n.series && numbers_fit n

-- the one ground against a notice that is checked for a kind and a rule with such codes
abbrev pub notice_grounds : ℕ → ℕ → NoticeFields → List (Ground NoticeFault)
notice_grounds kind rule f =
    when (not (f.quote_code == kind && f.sharing_code == rule && notice_fits f.notice)) AgainstRules
    ∷ []

-- a place for a notice after a check: the notice that was accepted, or what stood there
abbrev pub noted : Option NoticeFault → Notice → Notice → Notice
noted None n place = n
noted (Some f) n place = place

-- the notice that a place for a checked notice starts with
abbrev pub first_notice : Notice
first_notice =
    record {
      series = codes "SERIED03";
      offer = 100;
      minimum = 10;
      least_placement = 50;
      least_number = 2;
      opening = 30_600;
      closing = 46_800;
    }
