-- An accepted message, written again, is the bytes that it was read from.
use Rattle.std.proofs.Common.{◌≡◌, ℕ, ◌+◌, ◌*◌, ◌/◌, ◌%◌, ◌^◌, ◌<◌, ◌≤◌, true, List, [], ◌∷◌, ◌++◌, length, get_or, drop, Some, Ok, sym, refl, ap, ◌∙◌, subst, arith, w8, w32, Fits}
use Rattle.std.proofs.lemmas.List.{drop_more}
use Rattle.std.proofs.lemmas.Int.{of_z-to_z}
use Rattle.std.proofs.lemmas.Bool.Decides.{nat_tests}
use Rattle.wire.specs.Grounds.{taken, length_of, grounds, verdict}
use Rattle.wire.specs.Kinds.{number_of}
use Rattle.wire.specs.Messages.{kind_of, series, encode}
use Rattle.wire.specs.Numbers.{two, four, signed, two_at, four_at, signed_at}
use Rattle.wire.specs.Reading.{decoded, reading}
use Rattle.wire.specs.Reads.{Replies}
use Rattle.wire.specs.RoundTrips.{BeginWith}
use Rattle.wire.specs.declared.call.Call.{Call}
use Rattle.wire.specs.declared.kind.Kind.{Kind}
use Rattle.wire.specs.declared.kind.Kind.TheVariants.{Notice, Entry, Change, Withdrawal, Close, Limit}
use Rattle.wire.specs.declared.message.Message.{Message}

-- each number of the list is a byte
abbrev pub Bytes : List ℕ → Type 0
Bytes b = (i : ℕ) → Fits w8 (get_or b i 0)

four_of : (p q r s : ℕ) → p < 256 → q < 256 → r < 256 → s < 256 → four (p * 16777216 + q * 65536 + r * 256 + s) ≡ p ∷ q ∷ r ∷ s ∷ []
four_of p q r s hp hq hr hs = grind arith

-- a field at i, and then what follows it
module _ (b : List ℕ) (i : ℕ) where
  byte_step : i + 1 ≤ length b → {t : List ℕ} → drop (i + 1) b ≡ t → drop i b ≡ get_or b i 0 ∷ t
  byte_step h e = drop_more b i 0 (omega arith) ∙ ap (λ x. get_or b i 0 ∷ x) e

  series_step : i + 8 ≤ length b → {t : List ℕ} → drop (i + 8) b ≡ t → drop i b ≡ series (get_or b i 0) (get_or b (i + 1) 0) (get_or b (i + 2) 0) (get_or b (i + 3) 0) (get_or b (i + 4) 0) (get_or b (i + 5) 0) (get_or b (i + 6) 0) (get_or b (i + 7) 0) ++ t
  series_step h e = search (arith, drop_more)

module _ (b : List ℕ) (f : Bytes b) (i : ℕ) where
  bytes_at : i + 4 ≤ length b → drop i b ≡ get_or b i 0 ∷ get_or b (i + 1) 0 ∷ get_or b (i + 2) 0 ∷ get_or b (i + 3) 0 ∷ drop (i + 4) b
  bytes_at h = search (arith, drop_more)

  four_step : i + 4 ≤ length b → {t : List ℕ} → drop (i + 4) b ≡ t → drop i b ≡ four (four_at b i) ++ t
  four_step h e =
      let p : get_or b i 0 < 256 = omega (arith, (f i).fits) in
      let q : get_or b (i + 1) 0 < 256 = omega (arith, (f (i + 1)).fits) in
      let r : get_or b (i + 2) 0 < 256 = omega (arith, (f (i + 2)).fits) in
      let s : get_or b (i + 3) 0 < 256 = omega (arith, (f (i + 3)).fits) in
      bytes_at h ∙ ap (λ x. x ++ drop (i + 4) b) (sym (four_of _ _ _ _ p q r s)) ∙ ap (λ x. four (four_at b i) ++ x) e

  four_fits : four_at b i < 2 ^ 32
  four_fits = omega (arith, (f i).fits, (f (i + 1)).fits, (f (i + 2)).fits, (f (i + 3)).fits)

  signed_step : i + 4 ≤ length b → {t : List ℕ} → drop (i + 4) b ≡ t → drop i b ≡ signed (signed_at b i) ++ t
  signed_step h {t = t} e = four_step h e ∙ ap (λ n. four n ++ t) (sym (of_z-to_z w32 (four_at b i) four_fits))

module _ (b : List ℕ) (f : Bytes b) (version : get_or b 2 0 ≡ 1) where
  -- the two bytes of the length, the version and the kind
  head_step : (l k : ℕ) → 4 ≤ length b → two_at b 0 ≡ l → get_or b 3 0 ≡ k → {t : List ℕ} → drop 4 b ≡ t → b ≡ two l ++ (1 ∷ k ∷ t)
  head_step l k long says kind e =
      let p : get_or b 0 0 < 256 = omega (arith, (f 0).fits) in
      let q : get_or b 1 0 < 256 = omega (arith, (f 1).fits) in
      let e0 : l / 256 % 256 ≡ get_or b 0 0 = omega arith in
      let e1 : l % 256 ≡ get_or b 1 0 = omega arith in
      let s = bytes_at b f 0 long in
      cc

  -- a message whose head is as it should be
  abbrev Whole : Kind → Type 0
  Whole k = 2 + length_of (number_of k) ≤ length b → two_at b 0 ≡ length_of (number_of k) → get_or b 3 0 ≡ number_of k → BeginWith b (decoded (number_of k) b)

  again : (k : Kind) → Whole k
  unfolding decoded
  again Notice l says kind =
      head_step 33 0 (omega arith) says kind
      (byte_step b 4 (omega arith)
      (byte_step b 5 (omega arith)
      (series_step b 6 (omega arith)
      (four_step b f 14 (omega arith)
      (four_step b f 18 (omega arith)
      (four_step b f 22 (omega arith)
      (byte_step b 26 (omega arith)
      (four_step b f 27 (omega arith)
      (four_step b f 31 (omega arith) refl)))))))))
  again Entry l says kind =
      head_step 26 1 (omega arith) says kind
      (series_step b 4 (omega arith)
      (four_step b f 12 (omega arith)
      (four_step b f 16 (omega arith)
      (signed_step b f 20 (omega arith)
      (four_step b f 24 (omega arith) refl)))))
  again Change l says kind =
      head_step 22 2 (omega arith) says kind
      (four_step b f 4 (omega arith)
      (four_step b f 8 (omega arith)
      (four_step b f 12 (omega arith)
      (signed_step b f 16 (omega arith)
      (four_step b f 20 (omega arith) refl)))))
  again Withdrawal l says kind =
      head_step 14 3 (omega arith) says kind
      (four_step b f 4 (omega arith)
      (four_step b f 8 (omega arith)
      (four_step b f 12 (omega arith) refl)))
  again Close l says kind = head_step 6 4 (omega arith) says kind (four_step b f 4 (omega arith) refl)
  again Limit l says kind = head_step 6 5 (omega arith) says kind (signed_step b f 4 (omega arith) refl)

kind_decoded : (k : Kind) (b : List ℕ) → kind_of (decoded (number_of k) b) ≡ number_of k
unfolding decoded
kind_decoded k b = grind arith

length_decoded : (k : Kind) (b : List ℕ) → length (encode (decoded (number_of k) b)) ≡ 2 + length_of (number_of k)
unfolding decoded
length_decoded k b = grind arith

-- all that is told of a message against which there is no ground
pub accepted : (call : Call) (b : List ℕ) (k : Kind) (m : Message) → Bytes b → verdict (grounds call b) ≡ Ok tt → number_of k ≡ get_or b 3 0 → m ≡ decoded (number_of k) b → Replies call b (Ok (Some m)) × (length (encode m) ≤ length b)
accepted call b k m f none kind is =
    let n = number_of k in
    let takes : taken call (get_or b 3 0) ≡ true = grind (arith, nat_tests) in
    let long : 2 + length_of n ≤ length b = grind (arith, nat_tests) in
    let says : two_at b 0 ≡ length_of n = grind (arith, nat_tests) in
    let version : get_or b 2 0 ≡ 1 = grind (arith, nat_tests) in
    let told : reading call b ≡ Ok (Some (decoded n b)) = grind (arith, nat_tests) in
    let P : Message → Type 0 = λ x. Replies call b (Ok (Some x)) × (length (encode x) ≤ length b) in
    subst P (sym is) (
      record {
        told = sym told;
        kind = ap (taken call) (kind_decoded k b ∙ kind) ∙ takes;
        again = again b f version k long says (sym kind);
        seen = tt;
      },
      omega (arith, length_decoded k b),
    )
