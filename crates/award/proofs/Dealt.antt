-- What `dealt` gives to each bid, and the allotments told by number.
use Rattle.std.proofs.Common.{◌≡◌, ℕ, ◌+◌, ◌≤◌, Bool, true, false, cond, not, ◌&&◌, eqb, ◌≢◌, List, [], ◌∷◌, map, sum, filter, sym, refl, ◌∙◌, subst, arith}
use Rattle.std.specs.List.{AllZip, AllByRecursion as All}
use Rattle.std.proofs.lemmas.List.Sums.{sum_by-cons}
use Rattle.std.proofs.lemmas.Bool.{both_ways, eq-eqb, ne_eqb, cond-true, cond-false}
use Rattle.award.specs.Award.{Bid, asked, next, later, better, same, dealt, demands_at}
use Rattle.award.specs.Rivals.{Apart, reached, lots_of}

-- two lists of one length, place by place
abbrev pub Pairs : {X Y : Type 0} → (X → Y → Type 0) → List X → List Y → Type 0
Pairs R [] [] = Unit {0}
Pairs R [] (y ∷ ys) = ⊥
Pairs R (x ∷ xs) [] = ⊥
Pairs R (x ∷ xs) (y ∷ ys) = R x y × Pairs R xs ys

module _ {Q : Type 0} (no_worse : Q → Q → Bool) (cut : Q) where
  -- a bid's lots by step 4: a better bid's are all, a worse one's none
  pub record Given (b : Bid Q) (x : ℕ) : Type 0 where
    pub own : x ≤ b.lots
    pub all : no_worse b.quote cut ≡ true → no_worse cut b.quote ≡ false → x ≡ b.lots
    pub none : no_worse b.quote cut ≡ false → x ≡ 0

  pub record Deals (bids : List (Bid Q)) (shares xs : List ℕ) : Type 0 where
    pub given : Pairs Given bids xs
    pub whole : sum xs ≡ asked (λ q. better no_worse q cut) bids + sum shares

  abbrev demands_from : Bid Q → List (Bid Q) → Bool → List ℕ
  demands_from b bids v = map (λ a. a.lots) (cond v (b ∷ filter (λ a. same no_worse a.quote cut) bids) (filter (λ a. same no_worse a.quote cut) bids))

  abbrev dealt_from : Bid Q → List (Bid Q) → Bool → Bool → List ℕ → List ℕ
  dealt_from b bids u v shares =
      cond (u && not v) (b.lots ∷ dealt no_worse cut bids shares)
      (cond (u && v) (next shares ∷ dealt no_worse cut bids (later shares)) (0 ∷ dealt no_worse cut bids shares))

  abbrev DealsFrom : Bid Q → List (Bid Q) → Bool → Bool → List ℕ → List ℕ → Type 0
  DealsFrom b bids u v shares xs =
      Pairs Given (b ∷ bids) xs × (sum xs ≡ (cond (u && not v) b.lots 0 + asked (λ q. better no_worse q cut) bids) + sum shares)

  -- one bid more, by "no worse" both ways
  one_more : (b : Bid Q) (bids : List (Bid Q)) (u v : Bool) → no_worse b.quote cut ≡ u → no_worse cut b.quote ≡ v
      → ((shares : List ℕ) → AllZip ◌≤◌ shares (demands_at no_worse cut bids) → Deals bids shares (dealt no_worse cut bids shares))
      → (shares : List ℕ) → AllZip ◌≤◌ shares (demands_from b bids (u && v)) → DealsFrom b bids u v shares (dealt_from b bids u v shares)
  one_more b bids true true eu ev ih [] p = absurd p
  one_more b bids true true eu ev ih (s ∷ shares) p =
      let d = ih shares p.1 in
      let xs = dealt no_worse cut bids shares in (
        (record { own = p.0; all = λ _ f. absurd (both_ways (no_worse cut b.quote) f ev); none = λ f. absurd (both_ways (no_worse b.quote cut) f eu) }, d.given),
        omega (arith, d.whole, sum_by-cons (λ (x : ℕ). x) s xs, sum_by-cons (λ (x : ℕ). x) s shares),
      )
  one_more b bids true false eu ev ih shares p =
      let d = ih shares p in (
        (record { own = omega arith; all = λ _ _. refl; none = λ f. absurd (both_ways (no_worse b.quote cut) f eu) }, d.given),
        omega (arith, d.whole, sum_by-cons (λ (x : ℕ). x) b.lots (dealt no_worse cut bids shares)),
      )
  one_more b bids false v eu ev ih shares p =
      let d = ih shares p in (
        (record { own = omega arith; all = λ t _. absurd (both_ways (no_worse b.quote cut) eu t); none = λ _. refl }, d.given),
        omega (arith, d.whole, sum_by-cons (λ (x : ℕ). x) 0 (dealt no_worse cut bids shares)),
      )

  pub deals : (bids : List (Bid Q)) (shares : List ℕ) → AllZip ◌≤◌ shares (demands_at no_worse cut bids) → Deals bids shares (dealt no_worse cut bids shares)
  deals [] [] p = record { given = tt; whole = refl }
  deals [] (s ∷ shares) p = absurd p
  deals (b ∷ bids) shares p =
      let m = one_more b bids (no_worse b.quote cut) (no_worse cut b.quote) refl refl (λ ss q. deals bids ss q) shares p in
      record { given = m.0; whole = omega (arith, m.1, sum_by-cons (λ (a : Bid Q). cond (better no_worse a.quote cut) a.lots 0) b bids) }

module _ {Q : Type 0} where
  -- the lots by number are those of the list, where no two bids have the same number
  others_agree : (b : Bid Q) (x : ℕ) (f : ℕ → ℕ) (bids : List (Bid Q)) (xs : List ℕ) → All (λ a. b.number ≢ a.number) bids
      → Pairs (λ a y. f a.number ≡ y) bids xs → Pairs (λ a y. cond (eqb b.number a.number) x (f a.number) ≡ y) bids xs
  others_agree b x f [] [] h p = tt
  others_agree b x f [] (y ∷ xs) h p = p
  others_agree b x f (a ∷ bids) [] h p = p
  others_agree b x f (a ∷ bids) (y ∷ xs) h p =
      (cond-false (eqb b.number a.number) x (f a.number) (ne_eqb b.number a.number h.0) ∙ p.0, others_agree b x f bids xs h.1 p.1)

  pub agree : (R : Bid Q → ℕ → Type 0) (bids : List (Bid Q)) (xs : List ℕ) → Apart bids → Pairs R bids xs → Pairs (λ b y. lots_of bids xs b.number ≡ y) bids xs
  agree R [] [] h p = tt
  agree R [] (y ∷ xs) h p = p
  agree R (b ∷ bids) [] h p = p
  agree R (b ∷ bids) (x ∷ xs) h p = (
    cond-true (eqb b.number b.number) x (lots_of bids xs b.number) (eq-eqb b.number b.number refl),
    others_agree b x (lots_of bids xs) bids xs h.0 (agree R bids xs h.1 p.1),
  )

  pub by_number : (R : Bid Q → ℕ → Type 0) (given : ℕ → ℕ) (bids : List (Bid Q)) (xs : List ℕ)
      → Pairs (λ b y. given b.number ≡ y) bids xs → Pairs R bids xs → All (λ b. R b (given b.number)) bids
  by_number R given [] [] e p = tt
  by_number R given [] (y ∷ xs) e p = tt
  by_number R given (b ∷ bids) [] e p = absurd p
  by_number R given (b ∷ bids) (x ∷ xs) e p = (subst (R b) (sym e.0) p.0, by_number R given bids xs e.1 p.1)

  pub reached_by_number : (given : ℕ → ℕ) (bids : List (Bid Q)) (xs : List ℕ) → Pairs (λ b y. given b.number ≡ y) bids xs → reached bids given ≡ sum xs
  reached_by_number given [] [] e = refl
  reached_by_number given [] (y ∷ xs) e = absurd e
  reached_by_number given (b ∷ bids) [] e = absurd e
  reached_by_number given (b ∷ bids) (x ∷ xs) e =
      omega (arith, e.0, reached_by_number given bids xs e.1, sum_by-cons (λ (a : Bid Q). given a.number) b bids, sum_by-cons (λ (y : ℕ). y) x xs)

  -- a list that has for each bid what a function says of it
  pub pairs_map : (f : Bid Q → ℕ) (bids : List (Bid Q)) → Pairs (λ b x. x ≡ f b) bids (map f bids)
  pairs_map f [] = tt
  pairs_map f (b ∷ bids) = (refl, pairs_map f bids)

  pub no_lots : (bids : List (Bid Q)) (n : ℕ) → lots_of bids (map (λ b. 0) bids) n ≡ 0
  no_lots [] n = refl
  no_lots (b ∷ bids) n = go (eqb b.number n) (no_lots bids n)
    where
      go : (v : Bool) → lots_of bids (map (λ b. 0) bids) n ≡ 0 → cond v 0 (lots_of bids (map (λ b. 0) bids) n) ≡ 0
      go true e = refl
      go false e = e
