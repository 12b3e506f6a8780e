-- Grounds of refusal: of those that hold, the one with the smallest number is told.
use Rattle.std.specs.Prelude.{Bool, cond, List, [], ◌∷◌, Some, None, Ok, Err, Option, Result}

-- a ground: whether it holds, and the fault that it brings
pub record Ground (F : Type 0) : Type 0 where
  pub holds : Bool
  pub fault : F

abbrev pub when : {F : Type 0} → Bool → F → Ground F
when b f = record { holds = b; fault = f }

-- the fault of the first ground that holds; grounds are listed in the order of their numbers
abbrev pub first : {F : Type 0} → List (Ground F) → Option F
first [] = None
first (g ∷ gs) = cond g.holds (Some g.fault) (first gs)

-- the fault that a call was refused with
abbrev pub refused : {A F : Type 0} → Result A F → Option F
refused (Ok a) = None
refused (Err f) = Some f
