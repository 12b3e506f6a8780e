-- The place of the row whose bid stands under a number.
use Rattle.std.proofs.Common.{nat_lt, ◌≡◌, ℕ, zero, suc, ◌+◌, ◌<◌, ◌≤◌, Bool, true, false, cond, ◌&&◌, eqb, List, [], ◌∷◌, length, get_or, take, set, Some, None, Option, sym, refl, ap, ◌∙◌, arith}
use Rattle.std.proofs.lemmas.Option.{none-some}
use Rattle.std.specs.Option.{option_map}
use Rattle.std.specs.List.{remove, position, position_or_len}
use Rattle.std.proofs.lemmas.List.{get_or-take, length-take-le}
use Rattle.std.proofs.lemmas.Bool.{and_parts, both_ways}
use Rattle.std.proofs.lemmas.Bool.Decides.{nat_tests}
use Rattle.award.specs.declared.row.Row.{Row}
use Rattle.award.specs.Award.{Bid}
use Rattle.award.specs.Rows.{bid_in, standing}
use Rattle.book.specs.Table.{bid_of}
use Rattle.book.specs.Steps.{stands_as, withdrawn_row, without_row, withdrawn_in}
use Rattle.book.specs.Places.{place_of}

one_later : (b : Bool) (k : ℕ) → cond {A = Option ℕ} b (Some (1 + k)) None ≡ option_map suc (cond {A = Option ℕ} b (Some k) None)
one_later true k = ap Some (omega arith)
one_later false k = refl

module _ {Q : Type 0} (n : ℕ) where
  place_first : (r : Row Q) (rows : List (Row Q)) (b : Bool) → stands_as n r ≡ b → position (stands_as n) rows ≡ place_of n rows
      → position (stands_as n) (r ∷ rows) ≡ place_of n (r ∷ rows)
  place_first r rows true is e = let some : nat_lt 0 (suc (length rows)) ≡ true = grind (arith, nat_tests) in rw (is, some) refl
  place_first r rows false is e =
      let k : ℕ = position_or_len (stands_as n) rows in
      let same : nat_lt (1 + k) (suc (length rows)) ≡ nat_lt k (length rows) = grind (arith, nat_tests) in
      rw is (ap (λ b. cond {A = Option ℕ} b (Some (1 + k)) None) same ∙ one_later (nat_lt k (length rows)) k ∙ ap (option_map suc) e)

  -- the place is the first index that passes
  pub place_is : (rows : List (Row Q)) → position (stands_as n) rows ≡ place_of n rows
  place_is [] = refl
  place_is (r ∷ rows) = place_first r rows (stands_as n r) refl (place_is rows)

  -- the row at a place is the first whose bid stands under the number
  abbrev pub At : List (Row Q) → ℕ → Type 0
  At [] at = ⊥
  At (r ∷ rows) zero = stands_as n r ≡ true
  At (r ∷ rows) (suc at) = (stands_as n r ≡ false) × At rows at

  at_first : (r : Row Q) (rows : List (Row Q)) (at : ℕ) (b : Bool) (o : Option ℕ) → stands_as n r ≡ b → ((k : ℕ) → o ≡ Some k → At rows k)
      → cond b (Some 0) (option_map suc o) ≡ Some at → At (r ∷ rows) at
  at_first r rows zero true o is behind e = is
  at_first r rows (suc at) true o is behind e = let z : 0 ≡ suc at = cc in absurd (omega arith)
  at_first r rows zero false None is behind e = absurd (none-some 0 e)
  at_first r rows (suc at) false None is behind e = absurd (none-some (suc at) e)
  at_first r rows zero false (Some k) is behind e = let z : suc k ≡ 0 = cc in absurd (omega arith)
  at_first r rows (suc at) false (Some k) is behind e = let z : suc k ≡ suc at = cc in (is, behind at (ap Some (omega arith)))

  pub found : (rows : List (Row Q)) (at : ℕ) → place_of n rows ≡ Some at → At rows at
  found [] at e = absurd (none-some at e)
  found (r ∷ rows) at e = at_first r rows at (stands_as n r) (place_of n rows) refl (found rows) e

  pub at_below : (rows : List (Row Q)) (at : ℕ) → At rows at → at < length rows
  at_below [] at a = absurd a
  at_below (r ∷ rows) zero a = omega arith
  at_below (r ∷ rows) (suc at) a = let h = at_below rows at a.1 in omega arith

  heads : (r : Row Q) (bids : List (Bid Q)) → stands_as n r ≡ true → bid_of n (cond r.standing (bid_in r ∷ bids) bids) ≡ Some (bid_in r)
  heads r bids is = let both = and_parts r.standing (eqb r.number n) is in rw (both.0, both.1) refl

  passes : (r : Row Q) (bids : List (Bid Q)) (s e : Bool) → r.standing ≡ s → eqb r.number n ≡ e → (s && e) ≡ false
      → bid_of n (cond s (bid_in r ∷ bids) bids) ≡ bid_of n bids
  passes r bids true true s e is = absurd (both_ways true is refl)
  passes r bids true false s e is = ap (λ b. cond b (Some (bid_in r)) (bid_of n bids)) e
  passes r bids false e s f is = refl

  pub at_bid : (rows : List (Row Q)) (at : ℕ) (d : Row Q) → At rows at → bid_of n (standing rows) ≡ Some (bid_in (get_or rows at d))
  at_bid [] at d a = absurd a
  at_bid (r ∷ rows) zero d a = heads r (standing rows) a
  at_bid (r ∷ rows) (suc at) d a = passes r (standing rows) r.standing (eqb r.number n) refl refl a.0 ∙ at_bid rows at d a.1

  -- the rows without it
  pub at_without : (rows : List (Row Q)) (at : ℕ) → At rows at → without_row n rows ≡ remove rows at
  at_without [] at a = absurd a
  at_without (r ∷ rows) zero a = ap (λ b. cond b rows (r ∷ without_row n rows)) a
  at_without (r ∷ rows) (suc at) a = ap (λ b. cond b rows (r ∷ without_row n rows)) a.0 ∙ ap (λ rs. r ∷ rs) (at_without rows at a.1)

  -- the rows with it withdrawn
  pub at_withdrawn : (rows : List (Row Q)) (at : ℕ) (d : Row Q) → At rows at → withdrawn_in n rows ≡ set rows at (withdrawn_row (get_or rows at d))
  at_withdrawn [] at d a = absurd a
  at_withdrawn (r ∷ rows) zero d a = ap (λ b. cond b (withdrawn_row r ∷ rows) (r ∷ withdrawn_in n rows)) a
  at_withdrawn (r ∷ rows) (suc at) d a = ap (λ b. cond b (withdrawn_row r ∷ rows) (r ∷ withdrawn_in n rows)) a.0 ∙ ap (λ rs. r ∷ rs) (at_withdrawn rows at d a.1)

  none_first : (r : Row Q) (rows : List (Row Q)) (b : Bool) (o : Option ℕ) → stands_as n r ≡ b → (o ≡ None → bid_of n (standing rows) ≡ None)
      → cond b (Some 0) (option_map suc o) ≡ None → bid_of n (standing (r ∷ rows)) ≡ None
  none_first r rows true o is behind e = absurd (none-some 0 (sym e))
  none_first r rows false (Some k) is behind e = absurd (none-some (suc k) (sym e))
  none_first r rows false None is behind e = passes r (standing rows) r.standing (eqb r.number n) refl refl is ∙ behind refl

  -- no row has a place: no bid stands under the number
  pub not_found : (rows : List (Row Q)) → place_of n rows ≡ None → bid_of n (standing rows) ≡ None
  not_found [] e = refl
  not_found (r ∷ rows) e = none_first r rows (stands_as n r) (place_of n rows) refl (not_found rows) e

  -- among the first rows of a table
  module _ (used : ℕ) (rows : List (Row Q)) (fit : used ≤ length rows) (at : ℕ) (e : place_of n (take used rows) ≡ Some at) where
    pub found_at : At (take used rows) at
    found_at = found (take used rows) at e

    pub found_below : at < used
    found_below = let below = at_below (take used rows) at found_at in let front = length-take-le used rows fit in omega arith

    pub found_within : at < length rows
    found_within = let below = found_below in omega arith

    pub found_bid : (d : Row Q) → bid_of n (standing (take used rows)) ≡ Some (bid_in (get_or rows at d))
    found_bid d = at_bid (take used rows) at d found_at ∙ ap (λ r. Some (bid_in r)) (get_or-take used rows at d found_below)
