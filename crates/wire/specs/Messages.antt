-- The bytes of a message.
use Rattle.std.specs.Prelude.{ℕ, ◌+◌, List, [], ◌∷◌, ◌++◌, length}
use Rattle.wire.specs.Numbers.{two, four, signed}
use Rattle.wire.specs.declared.message.Message.{Message}
use Rattle.wire.specs.declared.message.Message.TheVariants.{Notice, Entry, Change, Withdrawal, Close, Limit}

-- The kind of a message.
abbrev pub kind_of : Message → ℕ
kind_of (Notice c r s0 s1 s2 s3 s4 s5 s6 s7 o m p n a z) = 0
kind_of (Entry s0 s1 s2 s3 s4 s5 s6 s7 h t q l) = 1
kind_of (Change n h t q l) = 2
kind_of (Withdrawal n h t) = 3
kind_of (Close t) = 4
kind_of (Limit q) = 5

-- The eight bytes of a series code.
abbrev pub series : ℕ → ℕ → ℕ → ℕ → ℕ → ℕ → ℕ → ℕ → List ℕ
series s0 s1 s2 s3 s4 s5 s6 s7 = s0 ∷ s1 ∷ s2 ∷ s3 ∷ s4 ∷ s5 ∷ s6 ∷ s7 ∷ []

-- The bytes of a message's fields, one field after the other.
abbrev pub fields : Message → List ℕ
fields (Notice c r s0 s1 s2 s3 s4 s5 s6 s7 o m p n a z) =
    (c ∷ r ∷ []) ++ (series s0 s1 s2 s3 s4 s5 s6 s7 ++ (four o ++ (four m ++ (four p ++ ((n ∷ []) ++ (four a ++ four z))))))
fields (Entry s0 s1 s2 s3 s4 s5 s6 s7 h t q l) =
    series s0 s1 s2 s3 s4 s5 s6 s7 ++ (four h ++ (four t ++ (signed q ++ four l)))
fields (Change n h t q l) = four n ++ (four h ++ (four t ++ (signed q ++ four l)))
fields (Withdrawal n h t) = four n ++ (four h ++ four t)
fields (Close t) = four t
fields (Limit q) = signed q

-- The bytes of a message: the length of what follows, version 1, the kind and the fields.
abbrev pub encode : Message → List ℕ
encode m = two (2 + length (fields m)) ++ (1 ∷ kind_of m ∷ fields m)
