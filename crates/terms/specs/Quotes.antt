-- Kinds of quote: the range of their numbers, how a number is read, and the laws that each kind shows.
use Rattle.std.specs.Prelude.{◌≡◌, Bool, true, false, ◌&&◌, ◌||◌, ℤ, pos, negsuc, ◌≤ℤ◌, is_some, Some, None, Ok, Err, Option, Result, int_le}
use Rattle.terms.specs.declared.fault.QuoteFault.{QuoteFault}
use Rattle.terms.specs.declared.fault.QuoteFault.TheVariants.{OutOfRange}

-- no kind has a number below −1,500,000 or above 1,500,000
abbrev pub lowest : ℤ
lowest = negsuc 1_499_999

abbrev pub highest : ℤ
highest = pos 1_500_000

-- a number lies in a range, both ends included
abbrev pub in_range : ℤ → ℤ → ℤ → Bool
in_range low high n = int_le low n && int_le n high

-- What each kind shows, for its quotes a, b, c; `no_worse a b` is "a is no worse than b", seen from the issuer's side.
pub record Lawful {Q : Type 0} (number : Q → ℤ) (low high : ℤ) (no_worse : Q → Q → Bool) (read : ℤ → Option Q) : Type 0 where
  -- the range lies within −1,500,000 to 1,500,000
  pub range : (lowest ≤ℤ low) × (high ≤ℤ highest)
  -- the number of a quote lies in the range
  pub within : (a : Q) → in_range low high (number a) ≡ true
  -- of two quotes, one is no worse than the other
  pub total : (a b : Q) → (no_worse a b || no_worse b a) ≡ true
  -- what is no worse than a quote is no worse than what that one is no worse than
  pub transitive : (a b c : Q) → no_worse a b ≡ true → no_worse b c ≡ true → no_worse a c ≡ true
  -- two quotes that are each no worse than the other have the same number
  pub same_number : (a b : Q) → no_worse a b ≡ true → no_worse b a ≡ true → number a ≡ number b
  -- two quotes with the same number are the same quote
  pub same_quote : (a b : Q) → number a ≡ number b → a ≡ b
  -- a number is read as a quote exactly if it lies in the range
  pub reads : (n : ℤ) → is_some (read n) ≡ in_range low high n
  -- and the quote gives the same number back
  pub gives_back : (n : ℤ) (a : Q) → read n ≡ Some a → number a ≡ n

-- the answer of a reading: the quote, or the refusal
abbrev pub quoted : {Q : Type 0} → Option Q → Result Q QuoteFault
quoted None = Err OutOfRange
quoted (Some q) = Ok q

-- the quote that is made of a number, where the number lies in the range
abbrev pub read_within : {Q : Type 0} (low high : ℤ) → ((n : ℤ) → in_range low high n ≡ true → Q) → (n : ℤ) (b : Bool) → in_range low high n ≡ b → Option Q
read_within low high make n true e = Some (make n e)
read_within low high make n false e = None
