-- Bits of octets: the laws of `bit` over bit_and, bit_or, 255 - m and 2 ^ b.
use Rattle.std.proofs.Common.{◌≡◌, ℕ, zero, suc, ◌+◌, ◌-◌, ◌^◌, ◌<◌, min, max, w8, arith}
use Rattle.std.proofs.Math.Pow.{pow-lt}
use Rattle.std.proofs.lemmas.Nat.Bits.{bit_at_and, bit_at_or, bit_at_not, bit_at-pow_same, bit_at-lt, same_from_bits_below}
use lib.Bits.{bit_and, bit_or}
use Rattle.base.specs.Octets.{bit}

pub below8 : (P : ℕ → Type 0) → P 0 → P 1 → P 2 → P 3 → P 4 → P 5 → P 6 → P 7 → (k : ℕ) → k < 8 → P k
below8 P a b c d e f g h zero l = a
below8 P a b c d e f g h (suc zero) l = b
below8 P a b c d e f g h (suc (suc zero)) l = c
below8 P a b c d e f g h (suc (suc (suc zero))) l = d
below8 P a b c d e f g h (suc (suc (suc (suc zero)))) l = e
below8 P a b c d e f g h (suc (suc (suc (suc (suc zero))))) l = f
below8 P a b c d e f g h (suc (suc (suc (suc (suc (suc zero)))))) l = g
below8 P a b c d e f g h (suc (suc (suc (suc (suc (suc (suc zero))))))) l = h
below8 P a b c d e f g h (suc (suc (suc (suc (suc (suc (suc (suc k)))))))) l = absurd (omega arith)

pub bit_le : (k a : ℕ) → bit k a < 2
bit_le k a = bit_at-lt a k

pub bit-bit_and : (k a b : ℕ) → bit k (bit_and a b) ≡ min (bit k a) (bit k b)
bit-bit_and k a b = bit_at_and a b k

pub bit-bit_or : (k a b : ℕ) → bit k (bit_or a b) ≡ max (bit k a) (bit k b)
bit-bit_or k a b = bit_at_or a b k

pub bit_not : (m k : ℕ) → m < 256 → k < 8 → bit k (255 - m) + bit k m ≡ 1
bit_not m k hm hk = omega (arith, bit_at_not w8 m k hm hk, bit_le k m)

pub bit_same : (k : ℕ) → k < 8 → bit k (2 ^ k) ≡ 1
bit_same k h = bit_at-pow_same k

pub bit_ext : (a b : ℕ) → a < 256 → b < 256 → ((k : ℕ) → k < 8 → bit k a ≡ bit k b) → a ≡ b
bit_ext a b ha hb h = same_from_bits_below 8 a b ha hb h

pub pow8 : (b : ℕ) → b < 8 → 2 ^ b < 256
pow8 b h = pow-lt h
