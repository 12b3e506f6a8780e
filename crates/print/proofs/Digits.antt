-- A number's digits, as its last digit and those before it; a negative number, as its minus sign and its digits.
use Rattle.std.proofs.Common.{◌≡◌, ℕ, ◌+◌, ◌/◌, ◌%◌, ◌^◌, ◌<◌, ◌≤◌, true, false, [], ◌∷◌, ◌++◌, length, ℤ, pos, negsuc, nat_abs, decimal, sym, refl, ap, ◌∙◌, arith, w32, SFits, to_z, of_z}
use lib.Signed.{lt_z}
use Rattle.std.specs.Fmt.{signed_decimal}
use Rattle.std.proofs.lemmas.Fmt.{decimal_digit, decimal_step}
use Rattle.std.proofs.lemmas.Int.{to_z-of_z}
use Rattle.std.proofs.lemmas.List.{length_push}
use Rattle.std.proofs.lemmas.Bool.Decides.{nat_tests}

-- a number below 10 has one digit
pub one_digit : (n d : ℕ) → n < 10 → d ≡ 48 + n % 10 → d ∷ [] ≡ decimal n
one_digit n d h e =
    let same : d ≡ 48 + n = omega arith in
    ap (λ x. x ∷ []) same ∙ sym (decimal_digit n h)

-- any other has those of its tenth, and one more
pub more_digits : (n d : ℕ) → 10 ≤ n → n < 2 ^ 64 → d ≡ 48 + n % 10 → decimal (n / 10) ++ (d ∷ []) ≡ decimal n
more_digits n d h small e = ap (λ x. decimal (n / 10) ++ (x ∷ [])) e ∙ sym (decimal_step n h small)

-- so it has one digit more than its tenth
pub one_more : (n : ℕ) → 10 ≤ n → n < 2 ^ 64 → length (decimal n) ≡ length (decimal (n / 10)) + 1
one_more n h small = ap length (decimal_step n h small) ∙ length_push (decimal (n / 10)) _

-- and from 100 on two more than its hundredth
pub two_more : (n : ℕ) → 100 ≤ n → n < 2 ^ 64 → length (decimal n) ≡ length (decimal (n / 100)) + 2
two_more n h small =
    let same : n / 10 / 10 ≡ n / 100 = omega arith in
    omega (arith, one_more n (omega arith) small, one_more (n / 10) (omega arith) (omega arith), ap (λ k. length (decimal k)) same)

minus : (z : ℤ) → lt_z z (pos 0) ≡ true → 45 ∷ decimal (nat_abs z) ≡ signed_decimal z
minus (pos n) h = absurd (grind (arith, nat_tests))
minus (negsuc n) h = refl

plain : (z : ℤ) → lt_z z (pos 0) ≡ false → decimal (nat_abs z) ≡ signed_decimal z
plain (pos n) h = refl
plain (negsuc n) h = absurd (cc)

module _ (z : ℤ) (n : ℕ) (fits : SFits w32 z) (e : n ≡ nat_abs (to_z w32 (of_z w32 z))) where
  -- a negative number is its minus sign and the digits of its size
  pub minus_sign : lt_z (to_z w32 (of_z w32 z)) (pos 0) ≡ true → 45 ∷ decimal n ≡ signed_decimal z
  minus_sign h = ap (λ k. 45 ∷ decimal k) (e ∙ ap nat_abs (to_z-of_z w32 z fits)) ∙ minus z (simp to_z-of_z at h)

  -- any other is the digits of its size
  pub no_sign : lt_z (to_z w32 (of_z w32 z)) (pos 0) ≡ false → decimal n ≡ signed_decimal z
  no_sign h = ap decimal (e ∙ ap nat_abs (to_z-of_z w32 z fits)) ∙ plain z (simp to_z-of_z at h)
