-- Numbers as bytes, the highest byte first, and the numbers that stand at a place.
use Rattle.std.specs.Prelude.{ℕ, ◌+◌, ◌*◌, ◌/◌, ◌%◌, List, [], ◌∷◌, ℤ, slice_index}
use Rattle.std.specs.Int.{w32}
use Rattle.std.proofs.Common.{to_z, of_z}

-- The two bytes of a number below 2 ^ 16.
abbrev pub two : ℕ → List ℕ
two n = (n / 256 % 256) ∷ (n % 256) ∷ []

-- The four bytes of a number below 2 ^ 32.
abbrev pub four : ℕ → List ℕ
four n = (n / 16777216 % 256) ∷ (n / 65536 % 256) ∷ (n / 256 % 256) ∷ (n % 256) ∷ []

-- The four bytes of a signed number, in two's complement.
abbrev pub signed : ℤ → List ℕ
signed z = four (of_z w32 z)

-- The number whose two bytes stand at a place.
abbrev pub two_at : List ℕ → ℕ → ℕ
two_at b i = slice_index b i * 256 + slice_index b (i + 1)

-- The number whose four bytes stand at a place.
abbrev pub four_at : List ℕ → ℕ → ℕ
four_at b i = slice_index b i * 16777216 + slice_index b (i + 1) * 65536 + slice_index b (i + 2) * 256 + slice_index b (i + 3)

-- The signed number whose four bytes stand at a place.
abbrev pub signed_at : List ℕ → ℕ → ℤ
signed_at b i = to_z w32 (four_at b i)
