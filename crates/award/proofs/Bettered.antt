-- The award cannot be bettered.
use Rattle.std.proofs.Common.{◌≡◌, ℕ, ◌+◌, ◌<◌, ◌≤◌, min, Bool, true, false, cond, not, ◌&&◌, ◌||◌, ltb, leb, List, length, ℤ, Some, None, sum, Option, sym, refl, ap, ◌∙◌, subst, inl, inr, arith}
use Rattle.std.proofs.lemmas.Option.{none-some}
use Rattle.std.specs.List.{AllByRecursion as All}
use Rattle.std.proofs.lemmas.List.Sums.{sum-map}
use Rattle.std.proofs.lemmas.Bool.{both_ways, or_cases, or_parts, ltb-true, ltb-false, leb-true, leb-false, le-leb, cond-true, cond-false, and_parts}
use Rattle.terms.specs.Quotes.{Lawful}
use Rattle.terms.specs.Sharing.{demand_fits, lots_fit, few, Fair}
use Rattle.award.specs.declared.reckoning.Reckoning.{Reckoning}
use Rattle.award.specs.declared.reckoning.Reckoning.TheVariants.{Void}
use Rattle.award.specs.Award.{Bid, Terms, asked, foremost, better, same, demand, void, in_full, worst_within, best_reaching, balance, demands_at, dealt, everyone_at, divided_at, cut_of, cut_off, handed_out, allotments}
use Rattle.award.specs.Rivals.{SomeIs, Sound, lots_of, reached, placed_at, Rival, VoidGround, Voided, Awarded, Act}
use Rattle.award.proofs.Sums.{all_of, all_one, all_two, some_all, some_none, sum_le, sum_eq, sum_split, sum_zero, sum_some, cond_le, cond_weaker, cond_under, cond_whole, cond_got}
use Rattle.award.proofs.Foremost.{Linear, Found, Foremost, finds}
use Rattle.award.proofs.Dealt.{Given, deals, agree, by_number, reached_by_number, pairs_map, no_lots}
use Rattle.award.proofs.Divisible.{divisible, few_demands}

or_self : (x : Bool) → (x || x) ≡ true → x ≡ true
or_self true e = refl
or_self false e = e

or_other : (x y : Bool) → (x || y) ≡ true → x ≡ false → y ≡ true
or_other true y e f = absurd (both_ways true f refl)
or_other false y e f = e

-- a test that implies one that fails
test_fails : (u v : Bool) → (u ≡ true → v ≡ true) → v ≡ false → u ≡ false
test_fails true v h f = absurd (both_ways v f (h refl))
test_fails false v h f = refl

-- a test that cannot fail
test_holds : (u : Bool) → (u ≡ false → ⊥) → u ≡ true
test_holds true h = refl
test_holds false h = absurd (h refl)

-- at most one's own, and nothing where a test fails
own_within : (v : Bool) (x l : ℕ) → x ≤ l → (v ≡ false → x ≡ 0) → x ≤ cond v l 0
own_within true x l own past = own
own_within false x l own past = omega (arith, past refl)

demand_some : (d : ℕ) → demand_fits d ≡ true → 1 ≤ d
demand_some d h = leb-true 1 d (and_parts (leb 1 d) (leb d 1_000_000_000) h).0

module _ {Q : Type 0} {number : Q → ℤ} {low high : ℤ} {no_worse : Q → Q → Bool} {read : ℤ → Option Q} (kind : Lawful number low high no_worse read) where
  self : (a : Q) → no_worse a a ≡ true
  self a = or_self (no_worse a a) (kind.total a a)

  other : (a b : Q) → no_worse a b ≡ false → no_worse b a ≡ true
  other a b = or_other (no_worse a b) (no_worse b a) (kind.total a b)

  -- the better first, and the worse first
  forth : Linear no_worse
  forth = record { self = self; other = other; trans = kind.transitive }

  back : Linear (λ a b. no_worse b a)
  back = record { self = self; other = λ a b. other b a; trans = λ a b c p q. kind.transitive c b a q p }

  module _ (t : Terms) (limit : Q) (bids : List (Bid Q)) (sound : Sound t bids) where
    -- the least of what a rival may reach and the offer
    abbrev most : ℕ
    most = min t.offer (demand no_worse limit bids)

    -- a rival's lots are among those asked for within the limit
    rival_under : (x : ℕ → ℕ) → Rival no_worse t limit bids x → All (λ b. x b.number ≤ cond (no_worse b.quote limit) b.lots 0) bids
    rival_under x r = all_two bids r.own r.past (λ b own past. own_within (no_worse b.quote limit) (x b.number) b.lots own past)

    reached_under : (x : ℕ → ℕ) → Rival no_worse t limit bids x → reached bids x ≤ most
    reached_under x r =
        omega (arith, r.in_all, sum_le (λ b. x b.number) (λ b. cond (no_worse b.quote limit) b.lots 0) bids (rival_under x r))

    -- where the act is not void
    not_void : void no_worse t limit bids ≡ false → (t.least_number ≤ length bids) × (t.least_placement ≤ most)
    not_void e =
        let p = or_parts (ltb (length bids) t.least_number) (ltb most t.least_placement) e in
        (ltb-false (length bids) t.least_number p.0, ltb-false most t.least_placement p.1)

    no_ground : (given : ℕ → ℕ) (placed : ℕ) (cut : Q) → void no_worse t limit bids ≡ false → Awarded no_worse t limit bids given placed cut
        → VoidGround no_worse t limit bids → ⊥
    no_ground given placed cut e a (inl few) = omega (arith, (not_void e).0)
    no_ground given placed cut e a (inr none) = omega (arith, (not_void e).1, none given a.rival, a.told, a.lesser)

    ground : void no_worse t limit bids ≡ true → VoidGround no_worse t limit bids
    ground e =
        elim (or_cases (ltb (length bids) t.least_number) (ltb most t.least_placement) e) [
          | inl few ↦ inl (ltb-true (length bids) t.least_number few)
          | inr low ↦ inr (λ x r. omega (arith, reached_under x r, ltb-true most t.least_placement low))
        ]

    asked_weaker : (p q : Q → Bool) → All (λ b. p b.quote ≡ true → q b.quote ≡ true) bids → asked p bids ≤ asked q bids
    asked_weaker p q h =
        sum_le (λ b. cond (p b.quote) b.lots 0) (λ b. cond (q b.quote) b.lots 0) bids
        (all_one bids h (λ b k. cond_weaker (p b.quote) (q b.quote) b.lots k))

    asked_none : (p : Q → Bool) → All (λ b. p b.quote ≡ false) bids → asked p bids ≡ 0
    asked_none p h = sum_zero (λ b. cond (p b.quote) b.lots 0) bids (all_one bids h (λ b f. cond-false (p b.quote) b.lots 0 f))

    -- 3. Everyone within the limit is served.
    served : (given : ℕ → ℕ) (cut : Q) → demand no_worse limit bids ≤ t.offer
        → All (λ b. given b.number ≡ cond (no_worse b.quote limit) b.lots 0) bids
        → Found (λ a b. no_worse b a) (λ q. no_worse q limit) bids cut
        → Awarded no_worse t limit bids given (demand no_worse limit bids) cut
    served given cut fits is found =
        let whole : reached bids given ≡ demand no_worse limit bids =
        sum_eq (λ b. given b.number) (λ b. cond (no_worse b.quote limit) b.lots 0) bids is in
        record {
          rival = record {
            own = all_one bids is (λ b e. omega (arith, e, cond_under (no_worse b.quote limit) b.lots));
            past = all_one bids is (λ b e f. e ∙ cond-false (no_worse b.quote limit) b.lots 0 f);
            in_all = omega arith;
          };
          best = λ q x r.
              sum_le (λ b. cond (no_worse b.quote q) (x b.number) 0) (λ b. cond (no_worse b.quote q) (given b.number) 0) bids
              (all_two bids (rival_under x r) is (λ b h e. cond_le (no_worse b.quote q) (x b.number) (given b.number) (λ _. omega arith)));
          told = whole;
          lesser = omega arith;
          no_worse_served =
              all_two bids is found.first (λ b e h k. h (cond_got (no_worse b.quote limit) b.lots (omega arith)).0);
          cut_served =
              some_all bids found.of_a_bid
              (all_two {R = λ b. (given b.number ≡ cond (no_worse b.quote limit) b.lots 0) × (1 ≤ b.lots)} bids is sound.lots (λ b e l. (e, demand_some b.lots l)))
              (λ b e h.
              let w : no_worse b.quote limit ≡ true = ap (λ a. no_worse a limit) e ∙ found.is_such in
              (e, omega (arith, h.0 ∙ cond-true (no_worse b.quote limit) b.lots 0 w, h.1)));
        }

    -- 4. The cut-off is where the offer is met.
    pub record Meets (cut : Q) : Type 0 where
      pub inside : no_worse cut limit ≡ true
      pub enough : t.offer ≤ asked (λ q. no_worse q cut) bids
      pub left : asked (λ q. better no_worse q cut) bids < t.offer

    abbrev reaching : Q → Bool
    reaching q = leb t.offer (asked (λ a. no_worse a q) bids)

    -- no bid's quote at which the offer is reached is better than the best of them
    no_better : (cut : Q) → Found no_worse reaching bids cut → (q : Q) → SomeIs (λ b. b.quote ≡ q) bids
        → t.offer ≤ asked (λ a. no_worse a q) bids → no_worse cut q ≡ true
    no_better cut found q of_a_bid h =
        test_holds (no_worse cut q)
        (λ i. some_none bids of_a_bid found.first
        (λ b k m. both_ways (no_worse cut q) i (ap (no_worse cut) (sym k) ∙ m (ap reaching k ∙ le-leb t.offer (asked (λ a. no_worse a q) bids) h))))

    inside_by : (cut : Q) → t.offer < demand no_worse limit bids → Found no_worse reaching bids cut
        → (o : Option Q) → Foremost (λ a b. no_worse b a) (λ q. no_worse q limit) bids o → no_worse cut limit ≡ true
    inside_by cut over found None none = absurd (let z : ⊥ = omega (arith, asked_none (λ q. no_worse q limit) none) in z)
    inside_by cut over found (Some w) worst =
        let h = asked_weaker (λ q. no_worse q limit) (λ q. no_worse q w) worst.first in
        kind.transitive cut w limit (no_better cut found w worst.of_a_bid (omega arith)) worst.is_such

    left_by : (cut : Q) → 1 ≤ t.offer → Found no_worse reaching bids cut
        → (o : Option Q) → Foremost (λ a b. no_worse b a) (λ q. better no_worse q cut) bids o → asked (λ q. better no_worse q cut) bids < t.offer
    left_by cut one found None none = omega (arith, asked_none (λ q. better no_worse q cut) none)
    left_by cut one found (Some u) worst = go (reaching u) refl
      where
        go : (v : Bool) → reaching u ≡ v → asked (λ q. better no_worse q cut) bids < t.offer
        go true e =
            let k = no_better cut found u worst.of_a_bid (leb-true t.offer (asked (λ a. no_worse a u) bids) e) in
            let m = and_parts (no_worse u cut) (not (no_worse cut u)) worst.is_such in
            absurd (both_ways (not (no_worse cut u)) (ap not k) m.1)
        go false e =
            omega (arith, asked_weaker (λ q. better no_worse q cut) (λ q. no_worse q u) worst.first, leb-false t.offer (asked (λ a. no_worse a u) bids) e)

    meets : (cut : Q) → 1 ≤ t.offer → t.offer < demand no_worse limit bids → Found no_worse reaching bids cut → Meets cut
    meets cut one over found =
        record {
          inside = inside_by cut over found (worst_within no_worse limit bids) (finds (λ a b. no_worse b a) (λ q. no_worse q limit) back bids);
          enough = leb-true t.offer (asked (λ q. no_worse q cut) bids) found.is_such;
          left = left_by cut one found (foremost (λ a b. no_worse b a) (λ q. better no_worse q cut) bids) (finds (λ a b. no_worse b a) (λ q. better no_worse q cut) back bids);
        }

    -- a lot given is at a better quote or at the cut-off
    better_or_same : (cut : Q) (b : Bid Q) (x : ℕ) (u v : Bool) → no_worse b.quote cut ≡ u → no_worse cut b.quote ≡ v → Given no_worse cut b x
        → x ≡ cond (u && not v) b.lots 0 + cond (u && v) x 0
    better_or_same cut b x true true eu ev g = omega arith
    better_or_same cut b x true false eu ev g = omega (arith, g.all eu ev)
    better_or_same cut b x false v eu ev g = omega (arith, g.none eu)

    -- at a quote as bad as the cut-off every lot counts; at a better one each bid has all its lots
    best_by : (cut q : Q) (given x : ℕ → ℕ) (v : Bool) → no_worse cut q ≡ v → All (λ b. Given no_worse cut b (given b.number)) bids
        → reached bids given ≡ t.offer → Rival no_worse t limit bids x → placed_at no_worse q bids x ≤ placed_at no_worse q bids given
    best_by cut q given x true e is whole r =
        let all_count : reached bids given ≡ placed_at no_worse q bids given =
        sum_eq (λ b. given b.number) (λ b. cond (no_worse b.quote q) (given b.number) 0) bids
        (all_one bids is (λ b g. cond_whole (no_worse b.quote q) (given b.number)
        (λ f. g.none (test_fails (no_worse b.quote cut) (no_worse b.quote q) (λ h. kind.transitive b.quote cut q h e) f)))) in
        omega (
          arith,
          r.in_all,
          sum_le (λ b. cond (no_worse b.quote q) (x b.number) 0) (λ b. x b.number) bids (all_of bids (λ b. cond_under (no_worse b.quote q) (x b.number))),
        )
    best_by cut q given x false e is whole r =
        sum_le (λ b. cond (no_worse b.quote q) (x b.number) 0) (λ b. cond (no_worse b.quote q) (given b.number) 0) bids
        (all_two bids r.own is
        (λ b own g. cond_le (no_worse b.quote q) (x b.number) (given b.number)
        (λ h. omega (
          arith,
          own,
          g.all (kind.transitive b.quote q cut h (other cut q e))
              (test_fails (no_worse cut b.quote) (no_worse cut q) (λ k. kind.transitive cut b.quote q k h) e),
        ))))

    divided : (given : ℕ → ℕ) (cut : Q) → t.offer < demand no_worse limit bids → Meets cut
        → All (λ b. Given no_worse cut b (given b.number)) bids → reached bids given ≡ t.offer
        → Awarded no_worse t limit bids given t.offer cut
    divided given cut over m is whole =
        record {
          rival = record {
            own = all_one bids is (λ b g. g.own);
            past = all_one bids is
                (λ b g f. g.none (test_fails (no_worse b.quote cut) (no_worse b.quote limit) (λ h. kind.transitive b.quote cut limit h m.inside) f));
            in_all = omega arith;
          };
          best = λ q x r. best_by cut q given x (no_worse cut q) refl is whole r;
          told = whole;
          lesser = omega arith;
          no_worse_served =
              all_one bids is (λ b g h. test_holds (no_worse b.quote cut) (λ f. omega (arith, h, g.none f)));
          cut_served =
              some_all bids
              (sum_some (λ b. cond (same no_worse b.quote cut) (given b.number) 0) bids
              (omega (
                arith,
                m.left,
                sum_split (λ b. given b.number) (λ b. cond (better no_worse b.quote cut) b.lots 0) (λ b. cond (same no_worse b.quote cut) (given b.number) 0) bids
                    (all_one bids is (λ b g. better_or_same cut b (given b.number) (no_worse b.quote cut) (no_worse cut b.quote) refl refl g)),
              )))
              sound.lots
              (λ b h _.
              let k = cond_got (same no_worse b.quote cut) (given b.number) h in
              let s = and_parts (no_worse b.quote cut) (no_worse cut b.quote) k.0 in
              (kind.same_quote b.quote cut (kind.same_number b.quote cut s.0 s.1), k.1));
        }

    -- an act by its cut-off
    abbrev ByCut : (ℕ → ℕ) → ℕ → Option Q → Type 0
    ByCut given placed None = VoidGround no_worse t limit bids × Voided given placed
    ByCut given placed (Some cut) = (VoidGround no_worse t limit bids → ⊥) × Awarded no_worse t limit bids given placed cut

    act : (given : ℕ → ℕ) (placed : ℕ) (cut : Option Q) → ByCut given placed cut → Act no_worse t limit bids given placed cut
    act given placed None h = record { void_exactly = (λ _. h.0, λ _. refl); voided = λ _. h.1; awarded = λ c e. absurd (none-some c e) }
    act given placed (Some cut) h =
        record {
          void_exactly = (λ e. absurd (none-some cut (sym e)), λ g. absurd (h.0 g));
          voided = λ e. absurd (none-some cut (sym e));
          awarded = λ c e. (let is : cut ≡ c = cc in subst (λ c. Awarded no_worse t limit bids given placed c) is h.1);
        }

    module _ {share : List ℕ → ℕ → List ℕ} (fair : (ds : List ℕ) (s : ℕ) → lots_fit ds s ≡ true → few ds ≡ true → Fair ds s (share ds s)) where
      abbrev Goal : Reckoning Q → Type 0
      Goal r = ByCut (lots_of bids (handed_out no_worse share limit bids r)) (sum (handed_out no_worse share limit bids r)) (cut_of r)

      awarded : (xs : List ℕ) (cut : Q) → void no_worse t limit bids ≡ false → Awarded no_worse t limit bids (lots_of bids xs) (sum xs) cut
          → ByCut (lots_of bids xs) (sum xs) (Some cut)
      awarded xs cut e a = (no_ground (lots_of bids xs) (sum xs) cut e a, a)

      on_everyone : (o : Option Q) → void no_worse t limit bids ≡ false → demand no_worse limit bids ≤ t.offer
          → Foremost (λ a b. no_worse b a) (λ q. no_worse q limit) bids o → Goal (everyone_at o)
      on_everyone None e fits none =
          absurd (let z : ⊥ = omega (arith, asked_none (λ q. no_worse q limit) none, (not_void e).1, sound.least) in z)
      on_everyone (Some cut) e fits found =
          let f : Bid Q → ℕ = λ b. cond (no_worse b.quote limit) b.lots 0 in
          let xs : List ℕ = in_full no_worse limit bids in
          let agrees = agree (λ b x. x ≡ f b) bids xs sound.apart (pairs_map f bids) in
          awarded xs cut e
          (subst (λ n. Awarded no_worse t limit bids (lots_of bids xs) n cut) (sym (sum-map f bids))
          (served (lots_of bids xs) cut fits (by_number (λ b x. x ≡ f b) (lots_of bids xs) bids xs agrees (pairs_map f bids)) found))

      on_divided : (o : Option Q) → void no_worse t limit bids ≡ false → t.offer < demand no_worse limit bids
          → Foremost no_worse reaching bids o → Goal (divided_at no_worse t.offer bids o)
      on_divided None e over none = absurd (none_reaching (worst_within no_worse limit bids) (finds (λ a b. no_worse b a) (λ q. no_worse q limit) back bids))
        where
          none_reaching : (o : Option Q) → Foremost (λ a b. no_worse b a) (λ q. no_worse q limit) bids o → ⊥
          none_reaching None n = omega (arith, asked_none (λ q. no_worse q limit) n)
          none_reaching (Some w) worst =
              let h = asked_weaker (λ q. no_worse q limit) (λ q. no_worse q w) worst.first in
              some_none bids worst.of_a_bid none
              (λ b i f. both_ways (reaching b.quote) f (ap reaching i ∙ le-leb t.offer (asked (λ a. no_worse a w) bids) (omega arith)))
      on_divided (Some cut) e over found =
          let m = meets cut (omega (arith, (not_void e).1, sound.least)) over found in
          let ds : List ℕ = demands_at no_worse cut bids in
          let s : ℕ = balance no_worse t.offer cut bids in
          let xs : List ℕ = dealt no_worse cut bids (share ds s) in
          let f = fair ds s (divisible no_worse cut t.offer bids sound.lots sound.offer m.enough) (few_demands no_worse cut bids sound.few) in
          let d = deals no_worse cut bids (share ds s) f.within in
          let agrees = agree (Given no_worse cut) bids xs sound.apart d.given in
          let whole : t.offer ≡ sum xs = omega (arith, d.whole, f.whole, m.left) in
          awarded xs cut e
          (subst (λ n. Awarded no_worse t limit bids (lots_of bids xs) n cut) whole
          (divided (lots_of bids xs) cut over m (by_number (Given no_worse cut) (lots_of bids xs) bids xs agrees d.given)
          (reached_by_number (lots_of bids xs) bids xs agrees ∙ sym whole)))

      by_demand : (w : Bool) → leb (demand no_worse limit bids) t.offer ≡ w → void no_worse t limit bids ≡ false
          → Goal (cond w (everyone_at (worst_within no_worse limit bids)) (divided_at no_worse t.offer bids (best_reaching no_worse t.offer bids)))
      by_demand true l e =
          on_everyone (worst_within no_worse limit bids) e (leb-true (demand no_worse limit bids) t.offer l) (finds (λ a b. no_worse b a) (λ q. no_worse q limit) back bids)
      by_demand false l e =
          on_divided (best_reaching no_worse t.offer bids) e (leb-false (demand no_worse limit bids) t.offer l) (finds no_worse reaching forth bids)

      by_void : (v : Bool) → void no_worse t limit bids ≡ v
          → Goal (cond v Void (cond (leb (demand no_worse limit bids) t.offer) (everyone_at (worst_within no_worse limit bids)) (divided_at no_worse t.offer bids (best_reaching no_worse t.offer bids))))
      by_void true e =
          (ground e, record { no_lot = λ n. no_lots bids n; nothing = sum-map (λ b. 0) bids ∙ sum_zero (λ b. 0) bids (all_of bids (λ b. refl)) })
      by_void false e = by_demand (leb (demand no_worse limit bids) t.offer) refl e

      pub cannot_be_bettered : Act no_worse t limit bids (lots_of bids (allotments no_worse share t limit bids)) (sum (allotments no_worse share t limit bids)) (cut_off no_worse t limit bids)
      cannot_be_bettered =
          act (lots_of bids (allotments no_worse share t limit bids)) (sum (allotments no_worse share t limit bids)) (cut_off no_worse t limit bids)
          (by_void (void no_worse t limit bids) refl)
