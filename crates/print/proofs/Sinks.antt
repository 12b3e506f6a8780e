-- A text that is taken behind another.
use Rattle.std.proofs.Common.{◌≡◌, ℕ, ◌+◌, List, ◌++◌, length, Ok, Err, Result, arith}
use Rattle.std.proofs.lemmas.List.{length-append}
use Rattle.print.specs.Sinks.{Takes, SinkLaws}

module _ {S E : Type 0} (room : S → ℕ) (took : List ℕ → S → S → Type 0) (laws : SinkLaws took) (t u : List ℕ) (a b c : S) where
  pub then_takes : (r : Result (Unit {0}) E) → (room b + length t ≡ room a) × took t a b → Takes room took u b c r → Takes room took (t ++ u) a c r
  then_takes (Ok v) l m = (omega (arith, length-append t u, l.0, m.0), laws.both t u a b c l.1 m.1)
  then_takes (Err e) l m = omega (arith, length-append t u, l.0, m)
