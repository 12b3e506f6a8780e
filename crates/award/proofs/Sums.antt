-- Facts of each element of a list, and sums over it compared place by place.
use Rattle.std.proofs.Common.{◌≡◌, ℕ, ◌+◌, ◌≤◌, Bool, true, false, cond, List, [], ◌∷◌, sum_by, refl, inl, inr, arith}
use Rattle.std.specs.List.{AllByRecursion as All}
use Rattle.std.proofs.lemmas.List.Sums.{sum_by-cons}
use Rattle.std.proofs.lemmas.Bool.{both_ways}
use Rattle.award.specs.Rivals.{SomeIs}

module _ {X : Type 0} where
  pub all_of : {P : X → Type 0} (xs : List X) → ((x : X) → P x) → All P xs
  all_of [] h = tt
  all_of (x ∷ xs) h = (h x, all_of xs h)

  pub all_one : {P R : X → Type 0} (xs : List X) → All P xs → ((x : X) → P x → R x) → All R xs
  all_one [] p h = tt
  all_one (x ∷ xs) p h = (h x p.0, all_one xs p.1 h)

  pub all_two : {P Q R : X → Type 0} (xs : List X) → All P xs → All Q xs → ((x : X) → P x → Q x → R x) → All R xs
  all_two [] p q h = tt
  all_two (x ∷ xs) p q h = (h x p.0 q.0, all_two xs p.1 q.1 h)

  pub some_all : {P Q R : X → Type 0} (xs : List X) → SomeIs P xs → All Q xs → ((x : X) → P x → Q x → R x) → SomeIs R xs
  some_all [] e q h = e
  some_all (x ∷ xs) (inl e) q h = inl (h x e q.0)
  some_all (x ∷ xs) (inr e) q h = inr (some_all xs e q.1 h)

  pub some_none : {P Q : X → Type 0} (xs : List X) → SomeIs P xs → All Q xs → ((x : X) → P x → Q x → ⊥) → ⊥
  some_none [] e q h = e
  some_none (x ∷ xs) (inl e) q h = h x e q.0
  some_none (x ∷ xs) (inr e) q h = some_none xs e q.1 h

  pub sum_le : (f g : X → ℕ) (xs : List X) → All (λ x. f x ≤ g x) xs → sum_by f xs ≤ sum_by g xs
  sum_le f g [] h = omega arith
  sum_le f g (x ∷ xs) h = omega (arith, sum_le f g xs h.1, sum_by-cons f x xs, sum_by-cons g x xs)

  pub sum_eq : (f g : X → ℕ) (xs : List X) → All (λ x. f x ≡ g x) xs → sum_by f xs ≡ sum_by g xs
  sum_eq f g [] h = refl
  sum_eq f g (x ∷ xs) h = omega (arith, sum_eq f g xs h.1, sum_by-cons f x xs, sum_by-cons g x xs)

  pub sum_split : (f g h : X → ℕ) (xs : List X) → All (λ x. f x ≡ g x + h x) xs → sum_by f xs ≡ sum_by g xs + sum_by h xs
  sum_split f g h [] e = refl
  sum_split f g h (x ∷ xs) e = omega (arith, sum_split f g h xs e.1, sum_by-cons f x xs, sum_by-cons g x xs, sum_by-cons h x xs)

  pub sum_zero : (f : X → ℕ) (xs : List X) → All (λ x. f x ≡ 0) xs → sum_by f xs ≡ 0
  sum_zero f [] e = refl
  sum_zero f (x ∷ xs) e = omega (arith, sum_zero f xs e.1, sum_by-cons f x xs)

  -- a sum that is not 0 has a part that is not
  pub sum_some : (f : X → ℕ) (xs : List X) → 1 ≤ sum_by f xs → SomeIs (λ x. 1 ≤ f x) xs
  sum_some f [] h = let z : ⊥ = omega arith in z
  sum_some f (x ∷ xs) h = go (f x) refl (λ k. sum_some f xs k)
    where
      go : (n : ℕ) → f x ≡ n → (1 ≤ sum_by f xs → SomeIs (λ x. 1 ≤ f x) xs) → SomeIs (λ x. 1 ≤ f x) (x ∷ xs)
      go ℕ.zero e ih = inr (ih (omega (arith, sum_by-cons f x xs)))
      go (ℕ.suc n) e ih = inl (omega arith)

-- a part of a sum that counts only where a test passes
pub cond_le : (v : Bool) (x y : ℕ) → (v ≡ true → x ≤ y) → cond v x 0 ≤ cond v y 0
cond_le true x y h = h refl
cond_le false x y h = omega arith

pub cond_weaker : (u v : Bool) (x : ℕ) → (u ≡ true → v ≡ true) → cond u x 0 ≤ cond v x 0
cond_weaker true true x h = omega arith
cond_weaker true false x h = absurd (both_ways false refl (h refl))
cond_weaker false v x h = omega arith

pub cond_under : (v : Bool) (x : ℕ) → cond v x 0 ≤ x
cond_under true x = omega arith
cond_under false x = omega arith

pub cond_whole : (v : Bool) (x : ℕ) → (v ≡ false → x ≡ 0) → x ≡ cond v x 0
cond_whole true x h = refl
cond_whole false x h = h refl

pub cond_got : (v : Bool) (x : ℕ) → 1 ≤ cond v x 0 → (v ≡ true) × (1 ≤ x)
cond_got true x h = (refl, h)
cond_got false x h = let z : ⊥ = omega arith in absurd z
