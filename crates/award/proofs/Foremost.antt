-- What `foremost` finds: a quote of a bid that is such, and that comes before all others that are.
use Rattle.std.proofs.Common.{◌≡◌, Bool, true, false, cond, List, [], ◌∷◌, Some, None, Option, sym, refl, ap, ◌∙◌, inl, inr}
use Rattle.std.proofs.lemmas.Option.{none-some}
use Rattle.std.specs.List.{AllByRecursion as All}
use Rattle.std.proofs.lemmas.Bool.{both_ways}
use Rattle.award.specs.Award.{Bid, foremost, earlier}
use Rattle.award.specs.Rivals.{SomeIs}
use Rattle.award.proofs.Sums.{all_one}

-- an order, as far as it is needed here
pub record Linear {Q : Type 0} (before : Q → Q → Bool) : Type 0 where
  pub self : (a : Q) → before a a ≡ true
  pub other : (a b : Q) → before a b ≡ false → before b a ≡ true
  pub trans : (a b c : Q) → before a b ≡ true → before b c ≡ true → before a c ≡ true

module _ {Q : Type 0} (before : Q → Q → Bool) (such : Q → Bool) where
  -- what is known of the quote that was found, or of none
  pub record Found (bids : List (Bid Q)) (r : Q) : Type 0 where
    pub is_such : such r ≡ true
    pub first : All (λ b. such b.quote ≡ true → before r b.quote ≡ true) bids
    pub of_a_bid : SomeIs (λ b. b.quote ≡ r) bids

  abbrev pub Foremost : List (Bid Q) → Option Q → Type 0
  Foremost bids None = All (λ b. such b.quote ≡ false) bids
  Foremost bids (Some r) = Found bids r

  module _ (laws : Linear before) where
    earlier_found : (b : Bid Q) (bids : List (Bid Q)) (r : Q) (w : Bool) → before b.quote r ≡ w → such b.quote ≡ true
        → Found bids r → Found (b ∷ bids) (cond w b.quote r)
    earlier_found b bids r true e s found =
        record {
          is_such = s;
          first = (λ h. laws.self b.quote, all_one bids found.first (λ a k h. laws.trans b.quote r a.quote e (k h)));
          of_a_bid = inl refl;
        }
    earlier_found b bids r false e s found =
        record { is_such = found.is_such; first = (λ h. laws.other b.quote r e, found.first); of_a_bid = inr found.of_a_bid }

    one_more : (b : Bid Q) (bids : List (Bid Q)) (v : Bool) (o : Option Q) → such b.quote ≡ v → Foremost bids o
        → Foremost (b ∷ bids) (cond v (Some (earlier before b.quote o)) o)
    one_more b bids true None e none =
        record {
          is_such = e;
          first = (λ h. laws.self b.quote, all_one bids none (λ a f t. absurd (both_ways (such a.quote) f t)));
          of_a_bid = inl refl;
        }
    one_more b bids true (Some r) e found = earlier_found b bids r (before b.quote r) refl e found
    one_more b bids false None e none = (e, none)
    one_more b bids false (Some r) e found =
        record {
          is_such = found.is_such;
          first = (λ h. absurd (both_ways (such b.quote) e h), found.first);
          of_a_bid = inr found.of_a_bid;
        }

    pub finds : (bids : List (Bid Q)) → Foremost bids (foremost before such bids)
    finds [] = tt
    finds (b ∷ bids) = one_more b bids (such b.quote) (foremost before such bids) refl (finds bids)

  -- the quote found is such, in whatever order
  pub finds_such : (bids : List (Bid Q)) (c : Q) → foremost before such bids ≡ Some c → such c ≡ true
  finds_such [] c e = absurd (none-some c e)
  finds_such (b ∷ bids) c e = go (such b.quote) refl (foremost before such bids) (finds_such bids c) e
    where
      which : (r : Q) (v : Bool) → such b.quote ≡ true → (Some r ≡ Some c → such c ≡ true) → cond v b.quote r ≡ c → such c ≡ true
      which r true p ih m = ap such (sym m) ∙ p
      which r false p ih m = ih (ap (λ (x : Q). Some x) m)

      go : (v : Bool) → such b.quote ≡ v → (o : Option Q) → (o ≡ Some c → such c ≡ true) → cond v (Some (earlier before b.quote o)) o ≡ Some c → such c ≡ true
      go true p None ih k = (let m : b.quote ≡ c = cc in ap such (sym m) ∙ p)
      go true p (Some r) ih k = (let m : cond (before b.quote r) b.quote r ≡ c = cc in which r (before b.quote r) p ih m)
      go false p o ih k = ih k
