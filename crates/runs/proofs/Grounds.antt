-- What follows where a list of grounds has none that holds, and where its first one holds.
use Rattle.std.proofs.Common.{◌≡◌, true, false, List, [], ◌∷◌, is_some, Some, None, Option, sym, refl, ap, ◌∙◌}
use Rattle.std.proofs.lemmas.Option.{none-some}
use Rattle.std.specs.List.{AllByRecursion as All}
use Rattle.std.proofs.lemmas.Bool.{both_ways, cond_both, cond-true}
use Rattle.terms.specs.Grounds.{Ground, first}

pub some_is : {A : Type 0} (o : Option A) → is_some o ≡ true → (a : A) × (o ≡ Some a)
some_is None e = absurd (both_ways false refl e)
some_is (Some a) e = (a, refl)

module _ {F : Type 0} where
  pub first_none : (gs : List (Ground F)) → first gs ≡ None → All (λ g. g.holds ≡ false) gs
  first_none [] e = tt
  first_none (g ∷ gs) e =
      cond_both g.holds (Some g.fault) (first gs) (λ o. o ≡ None → (g.holds ≡ false) × All (λ g. g.holds ≡ false) gs)
      (λ _ k. absurd (none-some g.fault (sym k)))
      (λ h k. (h, first_none gs k))
      e

  -- the first of the grounds holds, and brings this fault
  abbrev pub LedBy : F → List (Ground F) → Type 0
  LedBy f [] = ⊥
  LedBy f (g ∷ gs) = (g.holds ≡ true) × (g.fault ≡ f)

  pub first_led : (f : F) (gs : List (Ground F)) → LedBy f gs → first gs ≡ Some f
  first_led f [] h = absurd h
  first_led f (g ∷ gs) h = cond-true g.holds (Some g.fault) (first gs) h.0 ∙ ap Some h.1
