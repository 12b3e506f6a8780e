-- What takes the bytes of texts.
use Rattle.std.specs.Prelude.{◌≡◌, ℕ, ◌+◌, ◌<◌, List, [], ◌++◌, length, Ok, Err, Result}

-- The text is taken, and its bytes from the room; or there is no room for it.
abbrev pub Takes : {S E : Type 0} → (S → ℕ) → (List ℕ → S → S → Type 0) → List ℕ → S → S → Result (Unit {0}) E → Type 0
Takes room took text before after (Ok u) = (room after + length text ≡ room before) × took text before after
Takes room took text before after (Err e) = room before < length text

-- Two texts that are taken one after another are taken as one.
pub record SinkLaws {S : Type 0} (took : List ℕ → S → S → Type 0) : Type 0 where
  pub none : (s : S) → took [] s s
  pub both : (t u : List ℕ) (a b c : S) → took t a b → took u b c → took (t ++ u) a c
