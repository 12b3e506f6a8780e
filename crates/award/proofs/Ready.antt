-- What was reckoned can be handed out; and what is handed out where a balance is divided.
use Rattle.std.proofs.Common.{◌≡◌, ℕ, ◌≤◌, Bool, true, false, cond, leb, List, [], ◌∷◌, length, drop, Some, None, Option, sym, refl, ap, ◌∙◌, subst, arith}
use Rattle.std.specs.List.{AllByRecursion as All}
use Rattle.std.proofs.lemmas.Bool.{and_parts, leb-true}
use Rattle.terms.specs.Sharing.{most_lots, most_demands, demand_fits, lots_fit, few, laid, Fair}
use Rattle.award.specs.declared.row.Row.{Row}
use Rattle.award.specs.declared.reckoning.Reckoning.{Reckoning}
use Rattle.award.specs.declared.reckoning.Reckoning.TheVariants.{Void, Divided}
use Rattle.award.specs.Award.{Bid, Terms, demand, void, worst_within, best_reaching, demands_at, dealt, everyone_at, divided_at, reckoned, handed_out}
use Rattle.award.specs.Rows.{bid_in, standing, rows_fit, by_row}
use Rattle.award.specs.Handing.{Divisible, Ready}
use Rattle.award.proofs.Foremost.{finds_such}
use Rattle.award.proofs.Divisible.{divisible, few_demands}
use Rattle.award.proofs.Handing.{standing_few, demands_rows, by_row_length, dealt_front, laid_over}

module _ {Q : Type 0} where
  -- the standing bids' lots are in range, where those of the rows are
  standing_fit : (rows : List (Row Q)) → rows_fit rows ≡ true → All (λ b. demand_fits b.lots ≡ true) (standing rows)
  standing_fit [] h = tt
  standing_fit (r ∷ rows) h =
      let two = and_parts (demand_fits r.lots) (rows_fit rows) h in
      go r.standing two.0 (standing_fit rows two.1)
    where
      go : (s : Bool) → demand_fits r.lots ≡ true → All (λ b. demand_fits b.lots ≡ true) (standing rows)
          → All (λ b. demand_fits b.lots ≡ true) (cond s (bid_in r ∷ standing rows) (standing rows))
      go true e h = (e, h)
      go false e h = h

  module _ (no_worse : Q → Q → Bool) where
    module _ (t : Terms) (limit : Q) (bids : List (Bid Q)) (fit : All (λ b. demand_fits b.lots ≡ true) bids) (few_bids : length bids ≤ most_demands) (small : t.offer ≤ most_lots) where
      at_best : (o : Option Q) → best_reaching no_worse t.offer bids ≡ o → Ready no_worse bids (divided_at no_worse t.offer bids o)
      at_best None e = tt
      at_best (Some cut) e =
          let enough = leb-true t.offer (demand no_worse cut bids) (finds_such no_worse (λ q. leb t.offer (demand no_worse q bids)) bids cut e) in
          record { fit = divisible no_worse cut t.offer bids fit small enough; few_enough = few_demands no_worse cut bids few_bids }

      at_worst : (o : Option Q) → Ready no_worse bids (everyone_at o)
      at_worst None = tt
      at_worst (Some cut) = tt

      either : (v w : Bool) → Ready no_worse bids (cond v Void (cond w (everyone_at (worst_within no_worse limit bids)) (divided_at no_worse t.offer bids (best_reaching no_worse t.offer bids))))
      either true w = tt
      either false true = at_worst (worst_within no_worse limit bids)
      either false false = at_best (best_reaching no_worse t.offer bids) refl

      reckoned_ready : Ready no_worse bids (reckoned no_worse t limit bids)
      reckoned_ready = either (void no_worse t limit bids) (leb (demand no_worse limit bids) t.offer)

    module _ (rows : List (Row Q)) where
      pub ready : (t : Terms) (limit : Q) (r : Reckoning Q) → length rows ≤ most_demands → rows_fit rows ≡ true → t.offer ≤ most_lots
          → r ≡ reckoned no_worse t limit (standing rows) → Ready no_worse (standing rows) r
      ready t limit r few_rows fit small is =
          subst (Ready no_worse (standing rows)) (sym is) (reckoned_ready t limit (standing rows) (standing_fit rows fit) (omega (arith, standing_few rows)) small)

      -- the shares of a rule that is fair, in a table, are dealt out as they are; the table of the demands is written over
      pub handed : (share : List ℕ → ℕ → List ℕ) → ((ds : List ℕ) (s : ℕ) → lots_fit ds s ≡ true → few ds ≡ true → Fair ds s (share ds s))
          → (limit cut : Q) (left : ℕ) (r : Reckoning Q) (shares old_shares lots demands old : List ℕ)
          → r ≡ Divided cut left → Ready no_worse (standing rows) r
          → shares ≡ laid (share (demands_at no_worse cut (standing rows)) left) old_shares → demands ≡ laid (demands_at no_worse cut (standing rows)) old
          → lots ≡ laid (by_row rows (dealt no_worse cut (standing rows) shares)) demands
          → lots ≡ laid (by_row rows (handed_out no_worse share limit (standing rows) r)) old
      handed share fair limit cut left r shares old_shares lots demands old is can shared gathered written =
          let bids = standing rows in
          let ds = demands_at no_worse cut bids in
          let d : Divisible ds left = subst (Ready no_worse bids) is can in
          let f = fair ds left d.fit d.few_enough in
          let xs = share ds left in
          written
          ∙ ap (λ ys. laid (by_row rows (dealt no_worse cut bids ys)) demands) shared
          ∙ ap (λ ys. laid (by_row rows ys) demands) (dealt_front no_worse cut bids xs (drop (length xs) old_shares) f.one_each)
          ∙ ap (laid (by_row rows (dealt no_worse cut bids xs))) gathered
          ∙ laid_over ds (by_row rows (dealt no_worse cut bids xs)) old (omega (arith, demands_rows no_worse cut rows, by_row_length rows (dealt no_worse cut bids xs)))
          ∙ ap (λ q. laid (by_row rows (handed_out no_worse share limit bids q)) old) (sym is)
