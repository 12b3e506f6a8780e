-- Rows written, moved up and marked in the table, as the calls do it.
use Rattle.std.proofs.Common.{◌≡◌, ℕ, suc, ◌+◌, ◌-◌, ◌<◌, ◌≤◌, List, [], ◌∷◌, ◌++◌, length, get_or, take, drop, set, Some, sym, ap, ◌∙◌, add-one, arith}
use Rattle.std.specs.List.{remove, copy_within}
use Rattle.std.proofs.lemmas.List.{append_assoc, drop-append-le, drop_more, get_or-take, length_push, length-set, length-take-le, set-append_left, set_at, set_split, take-append-drop, take-append-le, take_at}
use Rattle.std.proofs.lemmas.List.Edits.{length-remove}
use Rattle.std.proofs.Math.Seq.{take-append-add}
use Rattle.award.specs.declared.row.Row.{Row}
use Rattle.book.specs.Steps.{withdrawn_row, without_row, withdrawn_in, rows_with}
use Rattle.book.specs.Places.{place_of, closing}
use Rattle.book.proofs.Finding.{at_without, at_withdrawn, found_at, found_below}

module _ {Q : Type 0} (rows : List (Row Q)) (used : ℕ) where
  -- the row behind the last used one is written
  pub next_written : (at : ℕ) (r : Row Q) → at ≡ used → used < length rows → set rows at r ≡ rows_with (take used rows ++ r ∷ []) rows
  next_written at r e room =
      let front = length-take-le used rows (omega arith) in
      let one_more : suc used ≡ length (take used rows ++ r ∷ []) = omega (arith, length_push (take used rows) r) in
      ap (λ k. set rows k r) e ∙ set_split rows used r room ∙ sym (append_assoc (take used rows) (r ∷ []) (drop (suc used) rows))
      ∙ ap (λ k. (take used rows ++ r ∷ []) ++ drop k rows) one_more

  -- one of the used rows is written
  pub used_written : (at : ℕ) (r : Row Q) → at < used → used ≤ length rows → set rows at r ≡ rows_with (set (take used rows) at r) rows
  used_written at r in_front room =
      let front = length-take-le used rows room in
      let same : used ≡ length (set (take used rows) at r) = omega (arith, length-set (take used rows) at r) in
      ap (λ rs. set rs at r) (sym (take-append-drop used rows)) ∙ set-append_left (take used rows) (drop used rows) at r (omega arith)
      ∙ ap (λ k. set (take used rows) at r ++ drop k rows) same

-- the rows behind a place, as far as another, are copied to it
pub closing_copied : {X : Type 0} (old : List X) (at used : ℕ) → at < used → used ≤ length old → copy_within old (at + 1) used at ≡ closing old at (used - 1)
closing_copied old at used in_front room =
    let front : length (take at old) ≡ at = length-take-le at old (omega arith) in
    let next : drop (at + 1) old ≡ drop (suc at) old = ap (λ k. drop k old) (add-one at) in
    let many : used - (at + 1) ≡ used - 1 - at = omega arith in
    let end : at + (used - (at + 1)) ≡ used - 1 = omega arith in
    let split : used - 1 ≡ length (take at old) + (used - 1 - at) = omega arith in
    ap (λ k. (take at old ++ take (used - (at + 1)) (drop (at + 1) old)) ++ drop k old) end
    ∙ ap (λ xs. (take at old ++ take (used - (at + 1)) xs) ++ drop (used - 1) old) next
    ∙ ap (λ k. (take at old ++ take k (drop (suc at) old)) ++ drop (used - 1) old) many
    ∙ ap (λ xs. xs ++ drop (used - 1) old)
    (sym (ap (λ k. take k (take at old ++ drop (suc at) old)) split ∙ take-append-add (take at old) (drop (suc at) old) (used - 1 - at)))

-- the last used row is written after the rows behind a place have moved up
module _ {Q : Type 0} (rows : List (Row Q)) (used at : ℕ) (in_front : at < used) (fit : used ≤ length rows) where
  -- the rows in front of the last used one, by the rows in use
  removed_left : remove rows at ≡ remove (take used rows) at ++ drop used rows
  removed_left =
      let front = length-take-le used rows fit in
      let whole = take-append-drop used rows in
      let left : take at rows ≡ take at (take used rows) = ap (take at) (sym whole) ∙ take-append-le at (take used rows) (drop used rows) (omega arith) in
      let right : drop (suc at) rows ≡ drop (suc at) (take used rows) ++ drop used rows =
      ap (drop (suc at)) (sym whole) ∙ drop-append-le (suc at) (take used rows) (drop used rows) (omega arith) in
      ap (λ rs. rs ++ drop (suc at) rows) left ∙ ap (λ rs. take at (take used rows) ++ rs) right
      ∙ sym (append_assoc (take at (take used rows)) (drop (suc at) (take used rows)) (drop used rows))

  removed_front : take (used - 1) (remove rows at) ≡ remove (take used rows) at
  removed_front =
      let short : length (remove (take used rows) at) ≡ used - 1 =
      (let front = length-take-le used rows fit in let one_less = length-remove (take used rows) at (omega arith) in omega arith) in
      let split : remove rows at ≡ remove (take used rows) at ++ drop used rows = removed_left in
      ap (take (used - 1)) split ∙ take_at (remove (take used rows) at) (drop used rows) (used - 1) short

  pub last_written : (r : Row Q) → set (closing rows at (used - 1)) (used - 1) r ≡ rows_with (remove (take used rows) at ++ r ∷ []) rows
  last_written r =
      let d = r in
      let front : length (take (used - 1) (remove rows at)) ≡ used - 1 =
      (let one_less = length-remove rows at (omega arith) in length-take-le (used - 1) (remove rows at) (omega arith)) in
      let behind : used - 1 + 1 ≡ length (remove (take used rows) at ++ r ∷ []) =
      (let same = ap length removed_front in omega (arith, length_push (remove (take used rows) at) r)) in
      ap (λ rs. set (take (used - 1) (remove rows at) ++ rs) (used - 1) r) (drop_more rows (used - 1) d (omega arith))
      ∙ set_at (take (used - 1) (remove rows at)) (get_or rows (used - 1) d) (drop (used - 1 + 1) rows) r (used - 1) front
      ∙ ap (λ rs. rs ++ r ∷ drop (used - 1 + 1) rows) removed_front
      ∙ sym (append_assoc (remove (take used rows) at) (r ∷ []) (drop (used - 1 + 1) rows))
      ∙ ap (λ k. (remove (take used rows) at ++ r ∷ []) ++ drop k rows) behind

-- what a call does at the place of the bid that it names
module _ {Q : Type 0} (n used : ℕ) (rows : List (Row Q)) (fit : used ≤ length rows) (at : ℕ) (e : place_of n (take used rows) ≡ Some at) where
  -- a withdrawal marks its row
  pub marked : (d : Row Q) → set rows at (withdrawn_row (get_or rows at d)) ≡ rows_with (withdrawn_in n (take used rows)) rows
  marked d =
      let below = found_below n used rows fit at e in
      let same = at_withdrawn n (take used rows) at d (found_at n used rows fit at e) ∙ ap (λ r. set (take used rows) at (withdrawn_row r)) (get_or-take used rows at d below) in
      used_written rows used at (withdrawn_row (get_or rows at d)) below fit ∙ ap (λ rs. rows_with rs rows) (sym same)

  -- a change puts its bid behind the others
  pub moved_last : (r : Row Q) → set (closing rows at (used - 1)) (used - 1) r ≡ rows_with (without_row n (take used rows) ++ r ∷ []) rows
  moved_last r =
      last_written rows used at (found_below n used rows fit at e) fit r
      ∙ ap (λ rs. rows_with (rs ++ r ∷ []) rows) (sym (at_without n (take used rows) at (found_at n used rows fit at e)))
