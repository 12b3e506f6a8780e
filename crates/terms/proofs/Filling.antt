-- A loop that writes a table from its front: the places written, with what is still to be written, are the whole; the others are as they were.
use Rattle.std.proofs.Common.{◌≡◌, ℕ, List, ◌++◌, length, take, drop, sym, ap, ◌∙◌}
use Rattle.terms.specs.Sharing.{laid}

abbrev pub Filling : ℕ → List ℕ → List ℕ → List ℕ → List ℕ → Type 0
Filling i table old rest whole = (take i table ++ rest ≡ whole) × (drop i table ≡ drop i old)

-- a table that was filled with a list, by another name of the list
pub laid_from : (xs ys old table : List ℕ) (n : ℕ) → ys ≡ xs → length xs ≡ n → table ≡ ys ++ drop n old → table ≡ laid xs old
laid_from xs ys old table n e h t = t ∙ ap (λ zs. zs ++ drop n old) e ∙ ap (λ k. xs ++ drop k old) (sym h)
