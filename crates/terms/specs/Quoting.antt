-- The laws of a kind of quote that is made of its numbers, by the lower or by the higher number.
use Rattle.std.specs.Prelude.{◌≡◌, Bool, true, false, ◌||◌, ℤ, ◌≤ℤ◌, is_some, Some, Ok, Err, int_le, refl}
use Rattle.std.proofs.Common.{sym, ap, subst, ◌∙◌, arith}
use denote.Struct.Props.{props}
use Rattle.std.proofs.lemmas.Int.{ints}
use Rattle.std.proofs.lemmas.Bool.{both_ways}
use Rattle.terms.specs.declared.fault.QuoteFault.TheVariants.{OutOfRange}
use Rattle.terms.specs.Quotes.{lowest, highest, in_range, read_within, quoted, Lawful}

-- a test has at most one proof
test_prop : (b : Bool) → IsProp (b ≡ true)
test_prop b = hlevel props

by_lower_total : (a b : ℤ) → (int_le a b || int_le b a) ≡ true
by_lower_total a b = grind (arith, ints)

by_lower_transitive : (a b c : ℤ) → int_le a b ≡ true → int_le b c ≡ true → int_le a c ≡ true
by_lower_transitive a b c p q = grind (arith, ints)

by_lower_same : (a b : ℤ) → int_le a b ≡ true → int_le b a ≡ true → a ≡ b
by_lower_same a b p q = grind (arith, ints)

module _ {Q : Type 0} (low high : ℤ) (make : (n : ℤ) → in_range low high n ≡ true → Q) where
  made_same : (m n : ℤ) (p : in_range low high m ≡ true) (q : in_range low high n ≡ true) → m ≡ n → make m p ≡ make n q
  made_same m n p q e =
      subst (λ (x : ℤ). (r : in_range low high x ≡ true) → make m p ≡ make x r) e (λ r. ap (make m) (test_prop (in_range low high m) p r)) q

  read_some : (n : ℤ) (p : in_range low high n ≡ true) (b : Bool) (e : in_range low high n ≡ b) → Some (make n p) ≡ read_within low high make n b e
  read_some n p true e = ap (λ r. Some (make n r)) (test_prop (in_range low high n) p e)
  read_some n p false e = absurd (both_ways (in_range low high n) e p)

  -- what is made of a number in the range is what the number is read as
  pub read_made : (m n : ℤ) (p : in_range low high m ≡ true) → m ≡ n → Ok (make m p) ≡ quoted (read_within low high make n (in_range low high n) refl)
  read_made m n p e =
      subst (λ (x : ℤ). Ok (make m p) ≡ quoted (read_within low high make x (in_range low high x) refl)) e
      (ap quoted (read_some m p (in_range low high m) refl))

  pub read_none : (n : ℤ) (b : Bool) (e : in_range low high n ≡ b) → b ≡ false → Err OutOfRange ≡ quoted (read_within low high make n b e)
  read_none n true e f = absurd (both_ways true f refl)
  read_none n false e f = refl

  read_if : (n : ℤ) (b : Bool) (e : in_range low high n ≡ b) → is_some (read_within low high make n b e) ≡ b
  read_if n true e = refl
  read_if n false e = refl

  module _ (number : Q → ℤ) (number_made : (n : ℤ) (p : in_range low high n ≡ true) → number (make n p) ≡ n) where
    read_back : (n : ℤ) (a : Q) (b : Bool) (e : in_range low high n ≡ b) → read_within low high make n b e ≡ Some a → number a ≡ n
    read_back n a true e f = let is : make n e ≡ a = cc in sym (ap number is) ∙ number_made n e
    read_back n a false e f = absurd (both_ways false refl (ap is_some f))

    module _ (range : (lowest ≤ℤ low) × (high ≤ℤ highest)) (within : (a : Q) → in_range low high (number a) ≡ true) (made : (a : Q) → make (number a) (within a) ≡ a) where
      one_quote : (a b : Q) → number a ≡ number b → a ≡ b
      one_quote a b e = sym (made a) ∙ made_same (number a) (number b) (within a) (within b) e ∙ made b

      -- a kind whose lower number is better
      pub lower_lawful : Lawful number low high (λ a b. int_le (number a) (number b)) (λ n. read_within low high make n (in_range low high n) refl)
      lower_lawful =
          record {
            range = range;
            within = within;
            total = λ a b. by_lower_total (number a) (number b);
            transitive = λ a b c. by_lower_transitive (number a) (number b) (number c);
            same_number = λ a b. by_lower_same (number a) (number b);
            same_quote = one_quote;
            reads = λ n. read_if n (in_range low high n) refl;
            gives_back = λ n a. read_back n a (in_range low high n) refl;
          }

      -- a kind whose higher number is better
      pub higher_lawful : Lawful number low high (λ a b. int_le (number b) (number a)) (λ n. read_within low high make n (in_range low high n) refl)
      higher_lawful =
          record {
            range = range;
            within = within;
            total = λ a b. by_lower_total (number b) (number a);
            transitive = λ a b c p q. by_lower_transitive (number c) (number b) (number a) q p;
            same_number = λ a b p q. by_lower_same (number a) (number b) q p;
            same_quote = one_quote;
            reads = λ n. read_if n (in_range low high n) refl;
            gives_back = λ n a. read_back n a (in_range low high n) refl;
          }
