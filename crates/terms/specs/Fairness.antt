-- By each rule every demand has its share, no larger than itself, and the shares together are the whole balance.
use Rattle.std.specs.Prelude.{◌≡◌, ℕ, zero, suc, ◌+◌, ◌-◌, ◌*◌, ◌<◌, ◌≤◌, min, true, cond, ◌&&◌, List, [], ◌∷◌, ◌++◌, length, sum_by, sum, nat_le, nat_lt, refl}
use Rattle.std.proofs.Common.{sym, ap, ◌∙◌, ⊎_elim, arith, mul_comm, add-mul, mul-add, mul-le-mul_left, add-one}
use Rattle.std.proofs.Math.Nat.{mul-div-le, div-le_of_le-mul, le_of_mul-le-mul_left}
use Rattle.std.specs.List.{AllZip, AllByRecursion}
use Rattle.std.proofs.lemmas.List.Sums.{sum_by-cons}
use Rattle.std.proofs.ByRecursion.{All-weaker}
use Rattle.std.proofs.lemmas.Bool.{cases_lt, and_parts, leb-true}
use Rattle.std.proofs.lemmas.Bool.Decides.{nat_tests}
use Rattle.terms.specs.Sharing.{Fair, few, demand_fits, demands_fit, lots_fit, most_lots}
use Rattle.terms.specs.Arrival.{in_arrival_order}
use Rattle.terms.specs.ProRata.{first_share, pro_rata, room_below, topped_up}
use Rattle.terms.specs.Dealing.{Divisible, Ready, Threshold, dealt}
use Rattle.terms.specs.Rooms.{below_none, below_next, below_cons, dealt_is, sum_dealt}

-- what the tests say
pub each_fits_is : (ds : List ℕ) → demands_fit ds ≡ true → AllByRecursion (λ d. (1 ≤ d) × (d ≤ most_lots)) ds
each_fits_is [] h = tt
each_fits_is (d ∷ ds) h =
    let p = and_parts (demand_fits d) (demands_fit ds) h in
    let q = and_parts (nat_le 1 d) (nat_le d most_lots) p.0 in
    ((leb-true 1 d q.0, leb-true d most_lots q.1), each_fits_is ds p.1)

pub lots_fit_is : (ds : List ℕ) (s : ℕ) → lots_fit ds s ≡ true → AllByRecursion (λ d. (1 ≤ d) × (d ≤ most_lots)) ds × (s ≤ sum ds) × (s ≤ most_lots)
lots_fit_is ds s h =
    let p = and_parts (demands_fit ds) (nat_le s (sum ds) && nat_le s most_lots) h in
    let q = and_parts (nat_le s (sum ds)) (nat_le s most_lots) p.1 in
    (each_fits_is ds p.0, leb-true s (sum ds) q.0, leb-true s most_lots q.1)

-- Arrival
pub arrival_length : (ds : List ℕ) (s : ℕ) → length (in_arrival_order ds s) ≡ length ds
arrival_length [] s = refl
arrival_length (d ∷ ds) s = ap suc (arrival_length ds (s - min d s))

arrival_within : (ds : List ℕ) (s : ℕ) → AllZip ◌≤◌ (in_arrival_order ds s) ds
arrival_within [] s = tt
arrival_within (d ∷ ds) s = (omega arith, arrival_within ds (s - min d s))

arrival_sum : (ds : List ℕ) (s : ℕ) → sum (in_arrival_order ds s) ≡ min s (sum ds)
arrival_sum [] s = omega arith
arrival_sum (d ∷ ds) s =
    let a = sum_by-cons (λ x. x) (min d s) (in_arrival_order ds (s - min d s)) in
    let b = sum_by-cons (λ x. x) d ds in
    rw (a, b, arrival_sum ds (s - min d s)) (omega arith)

pub arrival_fair : (ds : List ℕ) (s : ℕ) → lots_fit ds s ≡ true → few ds ≡ true → Fair ds s (in_arrival_order ds s)
arrival_fair ds s h c =
    let k : s ≤ sum ds = (lots_fit_is ds s h).1 in
    record { one_each = arrival_length ds s; within = arrival_within ds s; whole = rw (arrival_sum ds s) (omega arith) }

-- Pro rata
pub first_within : (s total d : ℕ) → s ≤ total → first_share s total d ≤ d
first_within s total d h =
    let k : d * s ≤ total * d = omega (arith, mul-le-mul_left d h, mul_comm total d) in
    div-le_of_le-mul total k

topped_length : (f : ℕ → ℕ) (all : List ℕ) (r : ℕ) (before ds : List ℕ) → length (topped_up f all r before ds) ≡ length ds
topped_length f all r before [] = refl
topped_length f all r before (d ∷ ds) = ap suc (topped_length f all r (before ++ d ∷ []) ds)

topped_within : (f : ℕ → ℕ) (all : List ℕ) (r : ℕ) → ((d : ℕ) → f d ≤ d) → (before ds : List ℕ) → AllZip ◌≤◌ (topped_up f all r before ds) ds
topped_within f all r fits before [] = tt
topped_within f all r fits before (d ∷ ds) = let h = fits d in (omega arith, topped_within f all r fits (before ++ d ∷ []) ds)

-- the first shares come to no more than the balance
firsts_scaled : (s total : ℕ) (ds : List ℕ) → total * sum_by (first_share s total) ds ≤ sum ds * s
firsts_scaled s total [] = omega arith
firsts_scaled s total (d ∷ ds) =
    let a = sum_by-cons (first_share s total) d ds in
    let b = sum_by-cons (λ x. x) d ds in
    rw (a, b) (omega (arith, mul-add total (first_share s total d) (sum_by (first_share s total) ds), add-mul d (sum ds) s, mul-div-le (d * s) total, firsts_scaled s total ds))

firsts_within : (f : ℕ → ℕ) → ((d : ℕ) → f d ≤ d) → (ds : List ℕ) → sum_by f ds ≤ sum ds
firsts_within f fits [] = omega arith
firsts_within f fits (d ∷ ds) = rw (sum_by-cons f d ds, sum_by-cons (λ x. x) d ds) (omega (arith, fits d, firsts_within f fits ds))

pub firsts_le : (s : ℕ) (ds : List ℕ) → s ≤ sum ds → sum_by (first_share s (sum ds)) ds ≤ s
firsts_le s ds h =
    ⊎_elim
    (λ (p : 0 < sum ds). le_of_mul-le-mul_left (firsts_scaled s (sum ds) ds) p)
    (λ (z : sum ds ≤ 0). omega (arith, firsts_within (first_share s (sum ds)) (λ d. first_within s (sum ds) d h) ds))
    (cases_lt 0 (sum ds))

-- below a bound of all demands there is all the room
pub below_all : (f : ℕ → ℕ) (n : ℕ) → ((d : ℕ) → f d ≤ d) → (ds : List ℕ) → AllByRecursion (λ d. d < n) ds → room_below f n ds + sum_by f ds ≡ sum ds
below_all f n fits [] h = refl
below_all f n fits (d ∷ ds) h =
    let fit = fits d in
    let small : d < n = h.0 in
    let one : cond (nat_lt (f d) n) (d - f d) 0 ≡ d - f d = grind (arith, nat_tests) in
    rw (below_cons f n d ds, sum_by-cons f d ds, sum_by-cons (λ x. x) d ds, one) (omega (arith, below_all f n fits ds h.1))

threshold : (f : ℕ → ℕ) (all : List ℕ) (r n : ℕ) → r ≤ room_below f n all → (v : ℕ) × Threshold f all r v
threshold f all r zero h = (0, record { below = omega (arith, below_none f all); above = omega (arith, below_none f all) })
threshold f all r (suc n) h =
    ⊎_elim
    (λ (lt : r < room_below f n all). threshold f all r n (omega arith))
    (λ (ge : room_below f n all ≤ r). (n, record { below = ge; above = rw add-one h }))
    (cases_lt r (room_below f n all))

-- by any threshold of the remainder, the shares are those dealt by it
pub pro_rata_dealt : (ds : List ℕ) (s v : ℕ) → s ≤ sum ds → Threshold (first_share s (sum ds)) ds (s - sum_by (first_share s (sum ds)) ds) v →
    pro_rata ds s ≡ dealt (first_share s (sum ds)) v (s - sum_by (first_share s (sum ds)) ds - room_below (first_share s (sum ds)) v ds) ds
pro_rata_dealt ds s v h t =
    let f : ℕ → ℕ = first_share s (sum ds) in
    let e = dealt_is f ds (s - sum_by f ds) v t (λ d. first_within s (sum ds) d h) [] ds refl in
    let z : s - sum_by f ds - (room_below f v ds + 0) ≡ s - sum_by f ds - room_below f v ds = omega arith in
    e ∙ ap (λ n. dealt f v n ds) z

-- by a threshold the shares come to the balance
pro_rata_sum : (ds : List ℕ) (s v : ℕ) → s ≤ sum ds → Threshold (first_share s (sum ds)) ds (s - sum_by (first_share s (sum ds)) ds) v → sum (pro_rata ds s) ≡ s
pro_rata_sum ds s v h t =
    let f : ℕ → ℕ = first_share s (sum ds) in
    let dealt_sum = sum_dealt f v (λ d. first_within s (sum ds) d h) (s - sum_by f ds - room_below f v ds) ds in
    let firsts : sum_by f ds ≤ s = firsts_le s ds h in
    let next = below_next f v ds in
    rw (pro_rata_dealt ds s v h t, dealt_sum) (omega arith)

-- all room is below `most_lots + 1`
pub room_enough : (ds : List ℕ) (s : ℕ) → lots_fit ds s ≡ true → s - sum_by (first_share s (sum ds)) ds ≤ room_below (first_share s (sum ds)) (most_lots + 1) ds
room_enough ds s h =
    let facts = lots_fit_is ds s h in
    let covers : s ≤ sum ds = facts.1 in
    let small = All-weaker (λ d. (1 ≤ d) × (d ≤ most_lots)) (λ d. d < most_lots + 1) (λ d p. omega arith) ds facts.0 in
    omega (arith, below_all (first_share s (sum ds)) (most_lots + 1) (λ d. first_within s (sum ds) d covers) ds small)

pub pro_rata_fair : (ds : List ℕ) (s : ℕ) → lots_fit ds s ≡ true → few ds ≡ true → Fair ds s (pro_rata ds s)
pro_rata_fair ds s h c =
    let f : ℕ → ℕ = first_share s (sum ds) in
    let r : ℕ = s - sum_by f ds in
    let covers : s ≤ sum ds = (lots_fit_is ds s h).1 in
    let t = threshold f ds r (most_lots + 1) (room_enough ds s h) in
    record {
      one_each = topped_length f ds r [] ds;
      within = topped_within f ds r (λ d. first_within s (sum ds) d covers) [] ds;
      whole = pro_rata_sum ds s t.0 covers t.1;
    }

-- What the code of pro rata builds on
sum_some : (ds : List ℕ) → AllByRecursion (λ d. (1 ≤ d) × (d ≤ most_lots)) ds → 0 < length ds → 0 < sum ds
sum_some [] h some = absurd (omega arith)
sum_some (d ∷ ds) h some = let one : 1 ≤ d = h.0.0 in rw (sum_by-cons (λ x. x) d ds) (omega arith)

pub made_ready : (ds : List ℕ) (s total : ℕ) → Divisible ds s → total ≡ sum ds → Ready ds s total
made_ready ds s total d e =
    let facts = lots_fit_is ds s d.lots in
    let more = sum_some ds facts.0 d.some in
    record { lots = d.lots; counted = d.counted; is = e; some = omega arith; covers = omega (arith, facts.1) }

pub firsts_fit : (ds : List ℕ) (s total : ℕ) → Ready ds s total → sum_by (first_share s total) ds ≤ s
firsts_fit ds s total ready = rw ready.is (firsts_le s ds (lots_fit_is ds s ready.lots).1)

pub room_fits : (ds : List ℕ) (s total : ℕ) → Ready ds s total →
    s - sum_by (first_share s total) ds ≤ room_below (first_share s total) (most_lots + 1) ds
room_fits ds s total ready = rw ready.is (room_enough ds s ready.lots)

pub dealt_shares : (ds : List ℕ) (s total : ℕ) → Ready ds s total → (firsts room v : ℕ) → firsts ≡ sum_by (first_share s total) ds →
    Threshold (first_share s total) ds (s - firsts) v → room ≡ room_below (first_share s total) v ds →
    dealt (first_share s total) v (s - firsts - room) ds ≡ pro_rata ds s
dealt_shares ds s total ready firsts room v g t b =
    let t' = rw (g, ready.is) at t in
    rw (b, g, ready.is) (sym (pro_rata_dealt ds s v (lots_fit_is ds s ready.lots).1 t'))

pub pro_rata_length : (ds : List ℕ) (s : ℕ) → length (pro_rata ds s) ≡ length ds
pro_rata_length ds s = topped_length (first_share s (sum ds)) ds (s - sum_by (first_share s (sum ds)) ds) [] ds
