-- Octets, their bits, and the numbers that they write.
use Rattle.std.specs.Prelude.{◌≡◌, ℕ, zero, suc, ◌+◌, ◌*◌, ◌/◌, ◌%◌, ◌^◌, ◌<◌, List, [], ◌∷◌, length}

-- bit b of an octet, the lowest being bit 0
abbrev pub bit : ℕ → ℕ → ℕ
bit b v = v / 2 ^ b % 2

-- each number is one that an octet holds
abbrev pub Octets : List ℕ → Type 0
Octets [] = Unit {0}
Octets (o ∷ os) = (o < 256) × Octets os

-- the number that octets write, the highest first
abbrev pub big_endian : List ℕ → ℕ
big_endian [] = 0
big_endian (o ∷ os) = o * 256 ^ length os + big_endian os

-- the k octets that write a number, the highest first
abbrev pub octets_of : ℕ → ℕ → List ℕ
octets_of zero v = []
octets_of (suc k) v = v / 256 ^ k ∷ octets_of k (v % 256 ^ k)

-- a number keeps every bit both ways: written in enough octets and read, and read from octets and written in as many
abbrev pub NumbersKeep : Type 0
NumbersKeep =
    ((k v : ℕ) → v < 256 ^ k → big_endian (octets_of k v) ≡ v) × ((c : List ℕ) → Octets c → octets_of (length c) (big_endian c) ≡ c)
