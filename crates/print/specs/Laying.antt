-- A cursor takes two texts, one after another, as one.
use Rattle.std.specs.Prelude.{◌≡◌, ℕ, ◌+◌, ◌≤◌, List, [], ◌++◌, length, take, drop, refl}
use Rattle.std.proofs.Common.{sym, ap, ◌∙◌, append_assoc, add-zero, arith}
use Rattle.std.proofs.lemmas.List.{drop-drop, drop_at, take_at, length-take-le, length-append, length-drop, take-append-drop}
use Rattle.print.specs.declared.cursor.Cursor.{Cursor}
use Rattle.print.specs.Places.{laid, Lays}
use Rattle.print.specs.Sinks.{SinkLaws}

-- no text
laid_none : (at : ℕ) (xs : List ℕ) → xs ≡ laid at [] xs
laid_none at xs = let z : at ≡ at + 0 = omega arith in sym (take-append-drop at xs) ∙ ap (λ n. take at xs ++ drop n xs) z

-- one text after another
laid_more : (at : ℕ) (t u xs : List ℕ) → at + (length t + length u) ≤ length xs → laid (at + length t) u (laid at t xs) ≡ laid at (t ++ u) xs
laid_more at t u xs h =
    let l : length (take at xs ++ t) ≡ at + length t = length-append (take at xs) t ∙ ap (λ n. n + length t) (length-take-le at xs (omega arith)) in
    let d = drop (at + length t) xs in
    let whole : laid at t xs ≡ (take at xs ++ t) ++ d = sym (append_assoc (take at xs) t d) in
    let front : take (at + length t) (laid at t xs) ≡ take at xs ++ t = ap (take (at + length t)) whole ∙ take_at (take at xs ++ t) d (at + length t) l in
    let back : drop (at + length t + length u) (laid at t xs) ≡ drop (at + length t + length u) xs =
    sym (drop-drop (length u) (at + length t) (laid at t xs))
    ∙ ap (λ y. drop (length u) (drop (at + length t) y)) whole
    ∙ ap (drop (length u)) (drop_at (take at xs ++ t) d (at + length t) l)
    ∙ drop-drop (length u) (at + length t) xs in
    let end : at + length t + length u ≡ at + length (t ++ u) = omega (arith, length-append t u) in
    ap (λ y. y ++ (u ++ drop (at + length t + length u) (laid at t xs))) front
    ∙ ap (λ y. (take at xs ++ t) ++ (u ++ y)) back
    ∙ append_assoc (take at xs) t (u ++ drop (at + length t + length u) xs)
    ∙ ap (λ y. take at xs ++ y) (sym (append_assoc t u (drop (at + length t + length u) xs)))
    ∙ ap (λ n. take at xs ++ ((t ++ u) ++ drop n xs)) end

-- a text that is laid leaves the space as long as it was
length_laid : (at : ℕ) (t xs : List ℕ) → at + length t ≤ length xs → length (laid at t xs) ≡ length xs
length_laid at t xs h =
    omega (
      arith,
      h,
      length-append (take at xs) (t ++ drop (at + length t) xs),
      length-append t (drop (at + length t) xs),
      length-take-le at xs (omega (arith, h)),
      length-drop (at + length t) xs,
    )

same_length : (t : List ℕ) (a b : Cursor) → Lays t a b → length b.space.now ≡ length a.space.now
same_length t a b l = ap length l.space ∙ length_laid a.at t a.space.now l.fits

-- the same at a cursor
lays_none : (a : Cursor) → Lays [] a a
lays_none a = record { fits = omega (arith, a.within); at = sym (add-zero a.at); space = laid_none a.at a.space.now; same = refl }

lays_both : (t u : List ℕ) (a b c : Cursor) → Lays t a b → Lays u b c → Lays (t ++ u) a c
lays_both t u a b c l m =
    let long = length-append t u in
    let room : a.at + (length t + length u) ≤ length a.space.now = omega (arith, l.at, m.fits, same_length t a b l) in
    record {
      fits = omega (arith, long, room);
      at = omega (arith, long, l.at, m.at);
      space =
          m.space
          ∙ ap (λ n. laid n u b.space.now) l.at
          ∙ ap (laid (a.at + length t) u) l.space
          ∙ laid_more a.at t u a.space.now room;
      same = m.same ∙ l.same;
    }

pub cursor_laws : SinkLaws Lays
cursor_laws = record { none = lays_none; both = lays_both }
