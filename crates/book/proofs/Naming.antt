-- The grounds against a house that names a bid by its number, by what was found among the rows in use.
use Rattle.std.proofs.Common.{◌≡◌, ℕ, ◌≤◌, cond, not, eqb, List, length, get_or, take, Some, None, Option, sym, ap, ◌∙◌}
use Rattle.std.proofs.lemmas.Bool.{eq-eqb, ne_eqb}
use Rattle.terms.specs.Grounds.{first}
use Rattle.award.specs.declared.row.Row.{Row}
use Rattle.award.specs.Rows.{bid_in, standing}
use Rattle.book.specs.declared.fault.BookFault.{BookFault}
use Rattle.book.specs.declared.fault.BookFault.TheVariants.{NoSuchBid, OtherHouse}
use Rattle.book.specs.Table.{bid_of}
use Rattle.book.specs.Places.{place_of}
use Rattle.book.specs.Judging.{bid_grounds}
use Rattle.book.proofs.Finding.{found_bid, not_found}

module _ {Q : Type 0} (n house used : ℕ) (rows : List (Row Q)) where
  pub none_named : place_of n (take used rows) ≡ None → first (bid_grounds house (bid_of n (standing (take used rows)))) ≡ Some NoSuchBid
  none_named e = ap (λ b. first (bid_grounds house b)) (not_found n (take used rows) e)

  module _ (fit : used ≤ length rows) (at : ℕ) (e : place_of n (take used rows) ≡ Some at) (r : Row Q) (read : r ≡ get_or rows at r) where
    by_house : first (bid_grounds house (bid_of n (standing (take used rows)))) ≡ cond {A = Option BookFault} (not (eqb r.house house)) (Some OtherHouse) None
    by_house = ap (λ b. first (bid_grounds house b)) (found_bid n used rows fit at e r ∙ ap (λ x. Some (bid_in x)) (sym read))

    pub other_named : (r.house ≡ house → ⊥) → first (bid_grounds house (bid_of n (standing (take used rows)))) ≡ Some OtherHouse
    other_named ne = by_house ∙ ap (λ t. cond {A = Option BookFault} (not t) (Some OtherHouse) None) (ne_eqb r.house house ne)

    pub own_named : r.house ≡ house → first (bid_grounds house (bid_of n (standing (take used rows)))) ≡ None
    own_named same = by_house ∙ ap (λ t. cond {A = Option BookFault} (not t) (Some OtherHouse) None) (eq-eqb r.house house same)
