-- Bids with numbers of their own: one removed, one put last, one looked up; and the lots of all numbers together.
use Rattle.std.proofs.Common.{◌≡◌, ℕ, zero, suc, ◌+◌, ◌≤◌, Bool, true, false, cond, not, eqb, ◌≢◌, List, [], ◌∷◌, ◌++◌, length, is_some, Some, None, sum, sym, refl, ap, ◌∙◌, subst, arith}
use Rattle.std.proofs.lemmas.Option.{none-some}
use Rattle.std.specs.List.{AllByRecursion as All}
use Rattle.std.proofs.ByRecursion.{All-append, all_kept_by}
use Rattle.std.proofs.lemmas.List.Sums.{sum_by-cons}
use Rattle.std.proofs.lemmas.Bool.{both_ways, eqb-true, eqb-false, ne_eqb, not-true, cond-false, cond_both}
use Rattle.award.specs.Award.{Bid, next, later}
use Rattle.award.specs.Rivals.{Apart, lots_of}
use Rattle.book.specs.Table.{bid_of, without}
use Rattle.runs.specs.Law.{up_to}

module _ {Q : Type 0} where
  -- the bids left have other numbers than the one removed
  pub without_other : (n : ℕ) (bids : List (Bid Q)) → All (λ b. b.number ≢ n) (without n bids)
  without_other n [] = tt
  without_other n (b ∷ bids) =
      cond_both (not (eqb b.number n)) (b ∷ without n bids) (without n bids) (All (λ b. b.number ≢ n))
      (λ e. (eqb-false b.number n (not-true (eqb b.number n) e), without_other n bids))
      (λ _. without_other n bids)

  pub apart_without : (n : ℕ) (bids : List (Bid Q)) → Apart bids → Apart (without n bids)
  apart_without n [] h = tt
  apart_without n (b ∷ bids) h =
      cond_both (not (eqb b.number n)) (b ∷ without n bids) (without n bids) Apart
      (λ _. (all_kept_by (λ a. not (eqb a.number n)) (λ a. b.number ≢ a.number) bids h.0, apart_without n bids h.1))
      (λ _. apart_without n bids h.1)

  pub apart_last : (bids : List (Bid Q)) (b : Bid Q) → Apart bids → All (λ a. a.number ≢ b.number) bids → Apart (bids ++ b ∷ [])
  apart_last [] b h k = (tt, tt)
  apart_last (a ∷ bids) b h k = (All-append (λ x. a.number ≢ x.number) bids (b ∷ []) h.0 (k.0, tt), apart_last bids b h.1 k.1)

  -- a bid that stands and is removed leaves one fewer
  pub without_fewer : (n : ℕ) (bids : List (Bid Q)) → length (without n bids) ≤ length bids
  without_fewer n [] = omega arith
  without_fewer n (b ∷ bids) =
      cond_both (not (eqb b.number n)) (b ∷ without n bids) (without n bids) (λ bs. length bs ≤ length (b ∷ bids))
      (λ _. omega (arith, without_fewer n bids))
      (λ _. omega (arith, without_fewer n bids))

  pub without_one : (n : ℕ) (bids : List (Bid Q)) → is_some (bid_of n bids) ≡ true → length (without n bids) + 1 ≤ length bids
  without_one n [] e = absurd (both_ways false refl e)
  without_one n (b ∷ bids) e = go (eqb b.number n) e (without_fewer n bids) (λ k. without_one n bids k)
    where
      go : (v : Bool) → is_some (cond v (Some b) (bid_of n bids)) ≡ true → length (without n bids) ≤ length bids
          → (is_some (bid_of n bids) ≡ true → length (without n bids) + 1 ≤ length bids)
          → length (cond (not v) (b ∷ without n bids) (without n bids)) + 1 ≤ length (b ∷ bids)
      go true k few ih = omega arith
      go false k few ih = omega (arith, ih k)

  -- what holds of each bid holds of the one that stands under a number
  pub found_all : (P : Bid Q → Type 0) (n : ℕ) (b : Bid Q) (bids : List (Bid Q)) → All P bids → bid_of n bids ≡ Some b → P b × (b.number ≡ n)
  found_all P n b [] h e = absurd (none-some b e)
  found_all P n b (a ∷ bids) h e =
      cond_both (eqb a.number n) (Some a) (bid_of n bids) (λ o. o ≡ Some b → P b × (b.number ≡ n))
      (λ k i. let same : a ≡ b = cc in (subst P same h.0, subst (λ x. x.number ≡ n) same (eqb-true a.number n k)))
      (λ _ i. found_all P n b bids h.1 i)
      e

  -- a number that no bid has gets nothing
  pub lots_none : (n : ℕ) (bids : List (Bid Q)) (xs : List ℕ) → All (λ b. n ≢ b.number) bids → lots_of bids xs n ≡ 0
  lots_none n [] xs h = refl
  lots_none n (b ∷ bids) xs h =
      cond-false (eqb b.number n) (next xs) (lots_of bids (later xs) n) (ne_eqb b.number n (λ e. h.0 (sym e))) ∙ lots_none n bids (later xs) h.1

  pub lots_withdrawn : (n : ℕ) (bids : List (Bid Q)) (xs : List ℕ) → bid_of n bids ≡ None → lots_of bids xs n ≡ 0
  lots_withdrawn n [] xs e = refl
  lots_withdrawn n (b ∷ bids) xs e = go (eqb b.number n) e (λ k. lots_withdrawn n bids (later xs) k)
    where
      go : (v : Bool) → cond v (Some b) (bid_of n bids) ≡ None → (bid_of n bids ≡ None → lots_of bids (later xs) n ≡ 0)
          → cond v (next xs) (lots_of bids (later xs) n) ≡ 0
      go true k ih = absurd (none-some b (sym k))
      go false k ih = ih k

-- the lots of the numbers up to n, where two tell the same of each
up_to_same : (f g : ℕ → ℕ) (n : ℕ) → ((k : ℕ) → k ≤ n → f k ≡ g k) → up_to f n ≡ up_to g n
up_to_same f g zero h = refl
up_to_same f g (suc n) h = omega (arith, h (suc n) (omega arith), up_to_same f g n (λ k l. h k (omega arith)))

-- where one number has so many lots more
up_to_one : (f : ℕ → ℕ) (m x n : ℕ) → 1 ≤ m → m ≤ n → f m ≡ 0 → up_to (λ k. cond (eqb m k) x (f k)) n ≡ x + up_to f n
up_to_one f m x zero h k z = absurd (omega arith)
up_to_one f m x (suc n) h k z = go (eqb m (suc n)) refl (λ l. up_to_one f m x n h l z)
  where
    go : (v : Bool) → eqb m (suc n) ≡ v → (m ≤ n → up_to (λ k. cond (eqb m k) x (f k)) n ≡ x + up_to f n)
        → up_to (λ k. cond (eqb m k) x (f k)) n + cond v x (f (suc n)) ≡ x + (up_to f n + f (suc n))
    go true e ih =
        let is = eqb-true m (suc n) e in
        omega (arith, up_to_same (λ k. cond (eqb m k) x (f k)) f n (λ k l. cond-false (eqb m k) x (f k) (ne_eqb m k (λ i. omega arith))), ap f (sym is) ∙ z)
    go false e ih = let ne = eqb-false m (suc n) e in omega (arith, ih (omega arith))

-- where none has any
pub up_to_none : (f : ℕ → ℕ) (n : ℕ) → ((k : ℕ) → f k ≡ 0) → up_to f n ≡ 0
up_to_none f zero h = refl
up_to_none f (suc n) h = omega (arith, h (suc n), up_to_none f n h)

-- the lots of all numbers are those of the list, where each bid has a number of its own from 1 to n
pub up_to_all : {Q : Type 0} (n : ℕ) (bids : List (Bid Q)) (xs : List ℕ) → Apart bids → All (λ b. (1 ≤ b.number) × (b.number ≤ n)) bids
    → length xs ≡ length bids → up_to (lots_of bids xs) n ≡ sum xs
up_to_all n [] [] a h l = up_to_none (λ k. 0) n (λ k. refl)
up_to_all n [] (x ∷ xs) a h l = absurd (let z : ⊥ = omega arith in z)
up_to_all n (b ∷ bids) [] a h l = absurd (let z : ⊥ = omega arith in z)
up_to_all n (b ∷ bids) (x ∷ xs) a h l =
    let from : 1 ≤ b.number = h.0.0 in
    let to : b.number ≤ n = h.0.1 in
    omega (arith, up_to_one (lots_of bids xs) b.number x n from to (lots_none b.number bids xs a.0), up_to_all n bids xs a.1 h.1 (omega arith), sum_by-cons (λ (y : ℕ). y) x xs)
