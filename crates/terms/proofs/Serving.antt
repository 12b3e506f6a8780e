-- Pro rata serves the smallest first share first, and equal ones by arrival.
use Rattle.std.proofs.Common.{◌≡◌, ℕ, zero, suc, ◌+◌, ◌-◌, ◌<◌, ◌≤◌, min, true, cond, eqb, ◌⊎◌, List, [], ◌∷◌, ◌++◌, length, get_or, take, sum_by, sum, refl, ap, ⊎_elim, append_assoc, arith}
use Rattle.std.proofs.lemmas.List.{append-nil, take-take}
use Rattle.std.proofs.lemmas.List.Sums.{sum_by_more, sum_by-take-le}
use Rattle.std.proofs.lemmas.Bool.Decides.{nat_tests}
use Rattle.terms.specs.ProRata.{ServedInOrder, first_share, room_at, room_below, topped_up}
use Rattle.terms.specs.Rooms.{below_next, below_mono}
use Rattle.terms.specs.Fairness.{lots_fit_is, first_within}

-- what is taken before the demand at i
abbrev taken : (ℕ → ℕ) → List ℕ → ℕ → ℕ
taken f ds i = room_below f (f (get_or ds i 0)) ds + room_at f (f (get_or ds i 0)) (take i ds)

topped_at : (f : ℕ → ℕ) (all : List ℕ) (r : ℕ) (before ds : List ℕ) (i : ℕ) → i < length ds →
    get_or (topped_up f all r before ds) i 0
    ≡ f (get_or ds i 0) + min (get_or ds i 0 - f (get_or ds i 0)) (r - (room_below f (f (get_or ds i 0)) all + room_at f (f (get_or ds i 0)) (before ++ take i ds)))
topped_at f all r before [] i h = absurd (omega arith)
topped_at f all r before (d ∷ ds) zero h = rw (append-nil before) refl
topped_at f all r before (d ∷ ds) (suc i) h =
    let e = topped_at f all r (before ++ d ∷ []) ds i (omega arith) in
    rw (append_assoc before (d ∷ []) (take i ds)) at e

-- one more demand in the front
at_more : (f : ℕ → ℕ) (ds : List ℕ) (i : ℕ) → i < length ds →
    room_at f (f (get_or ds i 0)) (take (i + 1) ds) ≡ room_at f (f (get_or ds i 0)) (take i ds) + (get_or ds i 0 - f (get_or ds i 0))
at_more f ds i h =
    let same : eqb (f (get_or ds i 0)) (f (get_or ds i 0)) ≡ true = grind (arith, nat_tests) in
    let e = sum_by_more (λ x. cond (eqb (f x) (f (get_or ds i 0))) (x - f x) 0) ds i 0 h in
    rw same at e

-- what one before j can take is taken before j
taken_before : (f : ℕ → ℕ) (ds : List ℕ) (i j : ℕ) → i < length ds → j < length ds →
    (f (get_or ds i 0) < f (get_or ds j 0)) ⊎ ((f (get_or ds i 0) ≡ f (get_or ds j 0)) × (i < j)) →
    taken f ds i + (get_or ds i 0 - f (get_or ds i 0)) ≤ taken f ds j
taken_before f ds i j hi hj before =
    let v : ℕ = f (get_or ds i 0) in
    let g : ℕ → ℕ = λ x. cond (eqb (f x) v) (x - f x) 0 in
    let more = at_more f ds i hi in
    ⊎_elim
    (λ (lt : f (get_or ds i 0) < f (get_or ds j 0)).
    let part : room_at f v (take (i + 1) ds) ≤ room_at f v ds = sum_by-take-le g ds (i + 1) in
    let next = below_next f v ds in
    let up : room_below f (v + 1) ds ≤ room_below f (f (get_or ds j 0)) ds = below_mono f (v + 1) (f (get_or ds j 0)) ds (omega arith) in
    omega arith)
    (λ (eq : (f (get_or ds i 0) ≡ f (get_or ds j 0)) × (i < j)).
    let lt : i < j = eq.1 in
    let part : room_at f v (take (i + 1) (take j ds)) ≤ room_at f v (take j ds) = sum_by-take-le g (take j ds) (i + 1) in
    let cut : room_at f v (take (i + 1) (take j ds)) ≡ room_at f v (take (i + 1) ds) = ap (room_at f v) (take-take (i + 1) j ds (omega arith)) in
    let eb : room_below f v ds ≡ room_below f (f (get_or ds j 0)) ds = ap (λ n. room_below f n ds) eq.0 in
    let ea : room_at f v (take j ds) ≡ room_at f (f (get_or ds j 0)) (take j ds) = ap (λ n. room_at f n (take j ds)) eq.0 in
    omega arith)
    before

pub served_in_order : ServedInOrder
served_in_order ds s i j h hi hj =
    let f : ℕ → ℕ = first_share s (sum ds) in
    let r : ℕ = s - sum_by f ds in
    let at_i = topped_at f ds r [] ds i hi in
    let at_j = topped_at f ds r [] ds j hj in
    let fit : f (get_or ds i 0) ≤ get_or ds i 0 = first_within s (sum ds) (get_or ds i 0) (lots_fit_is ds s h).1 in
    record {
      at_least_first = omega arith;
      whole_before = λ before some. let k = taken_before f ds i j hi hj before in omega arith;
    }
