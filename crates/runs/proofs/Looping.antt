-- The loop of a run: so many exchanges are made, and the rest is to come.
use Rattle.std.proofs.Common.{◌≡◌, ℕ, ◌+◌, ◌<◌, ◌≤◌, Bool, List, [], ◌∷◌, ◌++◌, length, get_or, take, drop, set, ℤ, Option, sym, ap, ◌∙◌, arith}
use Rattle.std.proofs.lemmas.List.{append_assoc, append-nil, at_drop_more, drop_all, drop-set-lt, take_all, take_more_set}
use Rattle.book.specs.Sheets.{Sheet}
use Rattle.runs.specs.declared.call.Exchange.{Exchange}
use Rattle.runs.specs.Runs.{sheet_with, sheet_after, exchange_by, calls_of}

module _ {Q : Type 0} (number : Q → ℤ) (read : ℤ → Option Q) (no_worse : Q → Q → Bool) (share : List ℕ → ℕ → List ℕ) where
  -- the exchanges after a run that starts from a sheet
  abbrev pub exchanged : Sheet Q → List (Exchange Q) → List (Exchange Q)
  exchanged s [] = []
  exchanged s (x ∷ xs) = exchange_by number read no_worse share s x ∷ exchanged (sheet_with number read no_worse share s x.call) xs

  -- from the sheet `start` with the exchanges `all`, the run has come to the sheet `s`, after `i` of the exchanges, which are now `xs`
  pub record Midway (start : Sheet Q) (all : List (Exchange Q)) (s : Sheet Q) (i : ℕ) (xs : List (Exchange Q)) : Type 0 where
    pub made : take i xs ++ exchanged s (drop i xs) ≡ exchanged start all
    pub kept : sheet_after number read no_worse share s (calls_of (drop i xs)) ≡ sheet_after number read no_worse share start (calls_of all)

  -- at the end all are made
  pub midway_all : (start : Sheet Q) (all : List (Exchange Q)) (s : Sheet Q) (i : ℕ) (xs : List (Exchange Q)) → Midway start all s i xs → length xs ≤ i
      → (xs ≡ exchanged start all) × (s ≡ sheet_after number read no_worse share start (calls_of all))
  midway_all start all s i xs m h =
      let none = drop_all i xs h in (
        sym (append-nil xs) ∙ ap (λ ys. ys ++ []) (sym (take_all i xs h)) ∙ ap (λ ys. take i xs ++ exchanged s ys) (sym none) ∙ m.made,
        ap (λ ys. sheet_after number read no_worse share s (calls_of ys)) (sym none) ∙ m.kept,
      )

  -- one more is made
  pub midway_more : (start : Sheet Q) (all : List (Exchange Q)) (s after : Sheet Q) (i : ℕ) (xs : List (Exchange Q)) (d x : Exchange Q) → i < length xs
      → x ≡ exchange_by number read no_worse share s (get_or xs i d) → after ≡ sheet_with number read no_worse share s (get_or xs i d).call
      → Midway start all s i xs → Midway start all after (i + 1) (set xs i x)
  midway_more start all s after i xs d x h x_is after_is m =
      let left : drop (i + 1) (set xs i x) ≡ drop (i + 1) xs = drop-set-lt (i + 1) xs i x (omega arith) in
      let front : take (i + 1) (set xs i x) ≡ take i xs ++ x ∷ [] = take_more_set xs i x h in
      let rest = drop (i + 1) xs in
      let here : exchanged s (drop i xs) ≡ x ∷ exchanged after rest =
      at_drop_more (exchanged s) xs i d h
      ∙ ap (λ y. y ∷ exchanged (sheet_with number read no_worse share s (get_or xs i d).call) rest) (sym x_is)
      ∙ ap (λ t. x ∷ exchanged t rest) (sym after_is) in
      let on : sheet_after number read no_worse share s (calls_of (drop i xs)) ≡ sheet_after number read no_worse share after (calls_of rest) =
      at_drop_more (λ ys. sheet_after number read no_worse share s (calls_of ys)) xs i d h
      ∙ ap (λ t. sheet_after number read no_worse share t (calls_of rest)) (sym after_is) in
      record {
        made =
            ap (λ ys. ys ++ exchanged after (drop (i + 1) (set xs i x))) front
            ∙ ap (λ ys. (take i xs ++ x ∷ []) ++ exchanged after ys) left
            ∙ append_assoc (take i xs) (x ∷ []) (exchanged after rest)
            ∙ ap (λ ys. take i xs ++ ys) (sym here)
            ∙ m.made;
        kept = ap (λ ys. sheet_after number read no_worse share after (calls_of ys)) left ∙ sym on ∙ m.kept;
      }
