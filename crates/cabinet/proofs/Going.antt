-- A session, message by message.
use Rattle.std.proofs.Common.{◌≡◌, ℕ, suc, ◌+◌, Bool, true, false, List, [], ◌++◌, ℤ, Option, Result, sym, refl, ap, ◌∙◌, append_assoc}
use Rattle.std.proofs.lemmas.List.{append-nil}
use Rattle.book.specs.Sheets.{Sheet}
use Rattle.wire.specs.Reads.{bytes_passed, messages_passed}
use Rattle.print.specs.declared.refusal.Refusal.{Refusal}
use Rattle.cabinet.specs.declared.fault.SessionFault.{SessionFault}
use Rattle.cabinet.specs.Sessions.{book_by, answer_by}
use Rattle.cabinet.specs.Attended.{refusals_in, goes_on, seen_at, answer_at, refusals_from, book_from}

module _ {Q : Type 0} (number : Q → ℤ) (read : ℤ → Option Q) (no_worse : Q → Q → Bool) (share : List ℕ → ℕ → List ℕ) (one other : ℕ) (bytes : List ℕ)
    (s : Sheet Q) (o p : ℕ) (a : Result (Option ℕ) SessionFault) (is : a ≡ answer_at number read no_worse share one other bytes s o p) where
  -- the reading goes on: what is left is one message less
  pub refusals_more : (k j : ℕ) (s' : Sheet Q) (o' p' : ℕ) (front longer whole : List Refusal) → k ≡ suc j → goes_on a ≡ true
      → s' ≡ book_by number read no_worse share one other s (seen_at bytes p) → o' ≡ o + messages_passed (seen_at bytes p) → p' ≡ p + bytes_passed (seen_at bytes p)
      → longer ≡ front ++ refusals_in a → front ++ refusals_from number read no_worse share one other bytes k s o p ≡ whole
      → longer ++ refusals_from number read no_worse share one other bytes j s' o' p' ≡ whole
  unfolding refusals_from
  refusals_more k j s' o' p' front longer whole e on es eo ep l w =
      let rest : refusals_from number read no_worse share one other bytes k s o p ≡ refusals_in a ++ refusals_from number read no_worse share one other bytes j s' o' p' =
      rw (e, ← is, on, es, eo, ep) refl in
      ap (λ x. x ++ refusals_from number read no_worse share one other bytes j s' o' p') l
      ∙ append_assoc front (refusals_in a) (refusals_from number read no_worse share one other bytes j s' o' p') ∙ ap (λ x. front ++ x) (sym rest) ∙ w

  pub book_more : (k j : ℕ) (s' whole : Sheet Q) (o' p' : ℕ) → k ≡ suc j → goes_on a ≡ true
      → s' ≡ book_by number read no_worse share one other s (seen_at bytes p) → o' ≡ o + messages_passed (seen_at bytes p) → p' ≡ p + bytes_passed (seen_at bytes p)
      → book_from number read no_worse share one other bytes k s o p ≡ whole
      → book_from number read no_worse share one other bytes j s' o' p' ≡ whole
  unfolding book_from
  book_more k j s' whole o' p' e on es eo ep w =
      let rest : book_from number read no_worse share one other bytes k s o p ≡ book_from number read no_worse share one other bytes j s' o' p' =
      rw (e, ← is, on, es, eo, ep) refl in
      sym rest ∙ w

  -- the reading stops
  pub refusals_stop : (k j : ℕ) (front longer whole : List Refusal) → k ≡ suc j → goes_on a ≡ false
      → longer ≡ front ++ refusals_in a → front ++ refusals_from number read no_worse share one other bytes k s o p ≡ whole → longer ≡ whole
  unfolding refusals_from
  refusals_stop k j front longer whole e off l w =
      let rest : refusals_from number read no_worse share one other bytes k s o p ≡ refusals_in a ++ [] = rw (e, ← is, off) refl in
      l ∙ ap (λ x. front ++ x) (sym (append-nil (refusals_in a)) ∙ sym rest) ∙ w

  pub book_stop : (k j : ℕ) (s' whole : Sheet Q) → k ≡ suc j → goes_on a ≡ false → s' ≡ book_by number read no_worse share one other s (seen_at bytes p)
      → book_from number read no_worse share one other bytes k s o p ≡ whole → s' ≡ whole
  unfolding book_from
  book_stop k j s' whole e off es w =
      let rest : book_from number read no_worse share one other bytes k s o p ≡ book_by number read no_worse share one other s (seen_at bytes p) = rw (e, ← is, off) refl in
      es ∙ sym rest ∙ w

-- no message is left to look for
module _ {Q : Type 0} (number : Q → ℤ) (read : ℤ → Option Q) (no_worse : Q → Q → Bool) (share : List ℕ → ℕ → List ℕ) (one other : ℕ) (bytes : List ℕ) (s : Sheet Q) (o p : ℕ) where
  pub refusals_end : (k : ℕ) (front whole : List Refusal) → k ≡ 0 → front ++ refusals_from number read no_worse share one other bytes k s o p ≡ whole → front ≡ whole
  unfolding refusals_from
  refusals_end k front whole e w = sym (append-nil front) ∙ ap (λ x. front ++ refusals_from number read no_worse share one other bytes x s o p) (sym e) ∙ w

  pub book_end : (k : ℕ) (whole : Sheet Q) → k ≡ 0 → book_from number read no_worse share one other bytes k s o p ≡ whole → s ≡ whole
  unfolding book_from
  book_end k whole e w = ap (λ x. book_from number read no_worse share one other bytes x s o p) (sym e) ∙ w

-- the same tables' lengths and the same bytes, by other names
module _ {Q : Type 0} (number : Q → ℤ) (read : ℤ → Option Q) (no_worse : Q → Q → Bool) (share : List ℕ → ℕ → List ℕ) (one one' other other' : ℕ) (bytes bytes' : List ℕ)
    (same_one : one' ≡ one) (same_other : other' ≡ other) (same_bytes : bytes' ≡ bytes) (s : Sheet Q) (p : ℕ) where
  pub answer_here : (o : ℕ) (a : Result (Option ℕ) SessionFault) → a ≡ answer_by number read no_worse share one' other' s o p (seen_at bytes' p)
      → a ≡ answer_at number read no_worse share one other bytes s o p
  answer_here o a h = rw (← same_one, ← same_other, ← same_bytes) h

  pub book_here : (s' : Sheet Q) → s' ≡ book_by number read no_worse share one' other' s (seen_at bytes' p) → s' ≡ book_by number read no_worse share one other s (seen_at bytes p)
  book_here s' h = rw (← same_one, ← same_other, ← same_bytes) h

  pub passed_here : (o o' : ℕ) → o' ≡ o + messages_passed (seen_at bytes' p) → o' ≡ o + messages_passed (seen_at bytes p)
  passed_here o o' h = rw (← same_bytes) h

  pub place_here : (p' : ℕ) → p' ≡ p + bytes_passed (seen_at bytes' p) → p' ≡ p + bytes_passed (seen_at bytes p)
  place_here p' h = rw (← same_bytes) h
