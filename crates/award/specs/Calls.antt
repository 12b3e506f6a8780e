-- What a call of a closure answers.
use Rattle.std.specs.Prelude.{◌≡◌, Bool}

-- each answer of a closure at a quote is that of the test
abbrev pub IsTest : {Q : Type 0} → (Q → Bool → Type 0) → (Q → Bool) → Type 0
IsTest answers test = (q : _) (b : Bool) → answers q b → b ≡ test q

-- each answer of a closure at two quotes is that of the order
abbrev pub IsOrder : {Q : Type 0} → (Q → Q → Bool → Type 0) → (Q → Q → Bool) → Type 0
IsOrder answers order = (p q : _) (b : Bool) → answers p q b → b ≡ order p q
