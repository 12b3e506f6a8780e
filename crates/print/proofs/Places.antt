-- Text laid at a place: a byte, and one text before another.
use Rattle.std.proofs.Common.{◌≡◌, ℕ, ◌+◌, ◌≤◌, List, [], ◌∷◌, ◌++◌, length, take, drop, set, sym, ap, ◌∙◌, append_assoc, add-one, arith}
use Rattle.std.proofs.lemmas.List.{set_split, drop_at, take-take, take-append-le, length-take-le, length-append}
use Rattle.print.specs.Places.{laid}

-- one byte
pub laid_byte : (xs : List ℕ) (at b : ℕ) → at + 1 ≤ length xs → set xs at b ≡ laid at (b ∷ []) xs
laid_byte xs at b h = set_split xs at b (omega arith) ∙ ap (λ n. take at xs ++ b ∷ drop n xs) (sym (add-one at))

-- one text before another that is laid
pub laid_before : (at : ℕ) (t u xs : List ℕ) → at + length t ≤ length xs → laid at t (laid (at + length t) u xs) ≡ laid at (t ++ u) xs
laid_before at t u xs h =
    let long = length-take-le (at + length t) xs h in
    let rest = u ++ drop (at + length t + length u) xs in
    let front : take at (laid (at + length t) u xs) ≡ take at xs =
    take-append-le at (take (at + length t) xs) rest (omega (arith, long)) ∙ take-take at (at + length t) xs (omega arith) in
    let back : drop (at + length t) (laid (at + length t) u xs) ≡ rest = drop_at (take (at + length t) xs) rest (at + length t) long in
    let end : at + length t + length u ≡ at + length (t ++ u) = omega (arith, length-append t u) in
    ap (λ y. y ++ (t ++ drop (at + length t) (laid (at + length t) u xs))) front
    ∙ ap (λ y. take at xs ++ (t ++ y)) back
    ∙ ap (λ y. take at xs ++ y) (sym (append_assoc t u (drop (at + length t + length u) xs)))
    ∙ ap (λ n. take at xs ++ ((t ++ u) ++ drop n xs)) end
