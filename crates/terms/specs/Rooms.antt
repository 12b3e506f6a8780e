-- Lemmas on what demands can still take past their first shares.
use Rattle.std.specs.Prelude.{◌≡◌, ℕ, ◌+◌, ◌-◌, ◌<◌, ◌≤◌, min, true, cond, List, [], ◌∷◌, ◌++◌, length, take, drop, sum_by, sum, ◌==◌, nat_eq, nat_lt, slice_index, refl}
use Rattle.std.proofs.Common.{append_assoc, ap, ◌∙◌, ⊎_elim, arith}
use Rattle.std.proofs.lemmas.List.{at_drop_more}
use Rattle.std.proofs.lemmas.List.Sums.{sum_by-cons, sum_by_push, sum_by-append, sum_by_more}
use Rattle.std.proofs.lemmas.Bool.{cases_lt}
use Rattle.std.proofs.lemmas.Bool.Decides.{nat_tests}
use Rattle.terms.specs.ProRata.{room_at, room_below, topped_up}
use Rattle.terms.specs.Dealing.{Threshold, dealt}

pub below_cons : (f : ℕ → ℕ) (v d : ℕ) (ds : List ℕ) → room_below f v (d ∷ ds) ≡ cond (nat_lt (f d) v) (d - f d) 0 + room_below f v ds
below_cons f v d ds = sum_by-cons (λ x. cond (nat_lt (f x) v) (x - f x) 0) d ds

pub at_cons : (f : ℕ → ℕ) (v d : ℕ) (ds : List ℕ) → room_at f v (d ∷ ds) ≡ cond (f d == v) (d - f d) 0 + room_at f v ds
at_cons f v d ds = sum_by-cons (λ x. cond (f x == v) (x - f x) 0) d ds

pub below_next : (f : ℕ → ℕ) (v : ℕ) (ds : List ℕ) → room_below f (v + 1) ds ≡ room_below f v ds + room_at f v ds
below_next f v [] = refl
below_next f v (d ∷ ds) =
    let one : cond (nat_lt (f d) (v + 1)) (d - f d) 0 ≡ cond (nat_lt (f d) v) (d - f d) 0 + cond (f d == v) (d - f d) 0 = grind (arith, nat_tests) in
    rw (below_cons f (v + 1) d ds, below_cons f v d ds, at_cons f v d ds, one, below_next f v ds) (omega arith)

pub below_mono : (f : ℕ → ℕ) (v w : ℕ) (ds : List ℕ) → v ≤ w → room_below f v ds ≤ room_below f w ds
below_mono f v w [] h = omega arith
below_mono f v w (d ∷ ds) h =
    let one : cond (nat_lt (f d) v) (d - f d) 0 ≤ cond (nat_lt (f d) w) (d - f d) 0 = grind (arith, nat_tests) in
    let rest : room_below f v ds ≤ room_below f w ds = below_mono f v w ds h in
    rw (below_cons f v d ds, below_cons f w d ds) (omega arith)

pub below_none : (f : ℕ → ℕ) (ds : List ℕ) → room_below f 0 ds ≡ 0
below_none f [] = refl
below_none f (d ∷ ds) =
    let one : cond (nat_lt (f d) 0) (d - f d) 0 ≡ 0 = grind (arith, nat_tests) in
    rw (below_cons f 0 d ds, one, below_none f ds)

at_split : (f : ℕ → ℕ) (v d : ℕ) (before ds : List ℕ) → room_at f v (before ++ d ∷ ds) ≡ room_at f v before + (cond (f d == v) (d - f d) 0 + room_at f v ds)
at_split f v d before ds =
    sum_by-append (λ x. cond (f x == v) (x - f x) 0) before (d ∷ ds) ∙ ap (λ n. room_at f v before + n) (at_cons f v d ds)

at_push : (f : ℕ → ℕ) (v d : ℕ) (before : List ℕ) → room_at f v (before ++ d ∷ []) ≡ room_at f v before + cond (f d == v) (d - f d) 0
at_push f v d before = sum_by_push (λ x. cond (f x == v) (x - f x) 0) before d

-- the share of one demand, by the threshold
one_dealt : (f : ℕ → ℕ) (all : List ℕ) (r v : ℕ) (before ds : List ℕ) (d : ℕ) → Threshold f all r v → f d ≤ d → before ++ d ∷ ds ≡ all →
    f d + min (d - f d) (r - (room_below f (f d) all + room_at f (f d) before))
    ≡ cond (nat_lt (f d) v) d (f d + cond (f d == v) (min (d - f d) (r - (room_below f v all + room_at f v before))) 0)
one_dealt f all r v before ds d t fits e =
    let same : nat_eq (f d) (f d) ≡ true = grind (arith, nat_tests) in
    let part : room_at f (f d) before + (d - f d) ≤ room_at f (f d) all = rw (← e, at_split f (f d) d before ds, same) (omega arith) in
    let next = below_next f (f d) all in
    ⊎_elim
    (λ (lt : f d < v).
    let up : room_below f (f d + 1) all ≤ room_below f v all = below_mono f (f d + 1) v all (omega arith) in
    grind (arith, nat_tests))
    (λ (ge : v ≤ f d).
    ⊎_elim
    (λ (gt : v < f d).
    let up : room_below f (v + 1) all ≤ room_below f (f d) all = below_mono f (v + 1) (f d) all (omega arith) in
    grind (arith, nat_tests))
    (λ (le : f d ≤ v).
    let is : f d ≡ v = omega arith in
    let eb : room_below f (f d) all ≡ room_below f v all = ap (λ n. room_below f n all) is in
    let ea : room_at f (f d) before ≡ room_at f v before = ap (λ n. room_at f n before) is in
    grind (arith, nat_tests))
    (cases_lt v (f d)))
    (cases_lt (f d) v)

-- what is left at the threshold after one more demand
left_dealt : (f : ℕ → ℕ) (b r v d : ℕ) (before : List ℕ) →
    (r - (b + room_at f v before)) - cond (f d == v) (min (d - f d) (r - (b + room_at f v before))) 0 ≡ r - (b + room_at f v (before ++ d ∷ []))
left_dealt f b r v d before = rw (at_push f v d before) (grind (arith, nat_tests))

pub dealt_is : (f : ℕ → ℕ) (all : List ℕ) (r v : ℕ) → Threshold f all r v → ((d : ℕ) → f d ≤ d) → (before ds : List ℕ) → before ++ ds ≡ all →
    topped_up f all r before ds ≡ dealt f v (r - (room_below f v all + room_at f v before)) ds
dealt_is f all r v t fits before [] e = refl
dealt_is f all r v t fits before (d ∷ ds) e =
    let here = one_dealt f all r v before ds d t (fits d) e in
    let left = left_dealt f (room_below f v all) r v d before in
    let more = dealt_is f all r v t fits (before ++ d ∷ []) ds (append_assoc before (d ∷ []) ds ∙ e) in
    rw (here, left, more)

-- the sum of what is dealt
pub sum_dealt : (f : ℕ → ℕ) (v : ℕ) → ((d : ℕ) → f d ≤ d) → (left : ℕ) (ds : List ℕ) →
    sum (dealt f v left ds) ≡ sum_by f ds + room_below f v ds + min left (room_at f v ds)
sum_dealt f v fits left [] = omega arith
sum_dealt f v fits left (d ∷ ds) =
    let fit = fits d in
    let x : ℕ = cond (f d == v) (min (d - f d) left) 0 in
    let s1 = sum_by-cons (λ y. y) (cond (nat_lt (f d) v) d (f d + x)) (dealt f v (left - x) ds) in
    let s2 = sum_by-cons f d ds in
    let s3 = below_cons f v d ds in
    let s4 = at_cons f v d ds in
    let s5 = sum_dealt f v fits (left - x) ds in
    rw (s1, s2, s3, s4, s5) (grind (arith, nat_tests))

-- a loop's step
pub below_more : (f : ℕ → ℕ) (v : ℕ) (ds : List ℕ) (i x : ℕ) → i < length ds → x ≡ f (slice_index ds i) →
    room_below f v (take (i + 1) ds) ≡ room_below f v (take i ds) + cond (nat_lt x v) (slice_index ds i - x) 0
below_more f v ds i x h e = rw e (sum_by_more (λ d. cond (nat_lt (f d) v) (d - f d) 0) ds i 0 h)

pub dealt_more : (f : ℕ → ℕ) (v left : ℕ) (ds : List ℕ) (i x y : ℕ) → i < length ds → x ≡ f (slice_index ds i) → y ≡ cond (x == v) (min (slice_index ds i - x) left) 0 →
    dealt f v left (drop i ds) ≡ cond (nat_lt x v) (slice_index ds i) (x + y) ∷ dealt f v (left - y) (drop (i + 1) ds)
dealt_more f v left ds i x y h e g = rw (g, e) (at_drop_more (dealt f v left) ds i 0 h)
