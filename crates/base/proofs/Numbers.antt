-- Numbers in octets, octet by octet.
use Rattle.std.proofs.Common.{◌≡◌, ℕ, suc, ◌+◌, ◌*◌, ◌^◌, ◌<◌, ◌≤◌, List, [], ◌∷◌, ◌++◌, length, get_or, take, ◌%◌, fold, ap, ◌∙◌, mul-le-mul_right, arith, lit<, mod-eq_of_lt, Fits, w8, sym, length-append}
use Rattle.std.proofs.Math.Nat.{pow-le-pow_right, pow-succ'}
use Rattle.std.proofs.lemmas.List.{take_more}
use Rattle.std.proofs.lemmas.Nat.{mul-mod_first}
use Rattle.base.specs.Octets.{big_endian}

-- one octet more at the end
pub big_endian_push : (c : List ℕ) (o : ℕ) → big_endian (c ++ o ∷ []) ≡ big_endian c * 256 + o
big_endian_push [] o = omega arith
big_endian_push (x ∷ c) o =
    let more : 256 ^ (length c + 1) ≡ 256 * 256 ^ length c = ap (λ (m : ℕ). 256 ^ m) (plus (length c)) ∙ pow-succ' 256 (length c) in
    omega (arith, big_endian_push c o, ap (λ (n : ℕ). x * 256 ^ n) (length-append c (o ∷ [])), more, ap (λ (n : ℕ). x * n) more)
  where
    plus : (n : ℕ) → n + 1 ≡ suc n
    plus n = omega arith

pub big_endian_more : (o : List ℕ) (i : ℕ) → i < length o → big_endian (take (i + 1) o) ≡ big_endian (take i o) * 256 + get_or o i 0
big_endian_more o i h = ap big_endian (take_more o i 0 h) ∙ big_endian_push (take i o) (get_or o i 0)

-- octet by octet, the highest first
fold_wraps : (os : List ℕ) (n : ℕ) → n < 2 ^ 64
    → fold (λ (m o : ℕ). (m * 256 % 2 ^ 64 + o) % 2 ^ 64) n os ≡ (n * 256 ^ length os + big_endian os) % 2 ^ 64
fold_wraps [] n h = omega arith
fold_wraps (o ∷ os) n h =
    let e : (n * 256 % 2 ^ 64 + o) % 2 ^ 64 ≡ (n * 256 + o) % 2 ^ 64 = omega arith in
    fold_wraps os ((n * 256 % 2 ^ 64 + o) % 2 ^ 64) (omega arith)
    ∙ rw (e, pow-succ' 256 (length os)) (omega (arith, mul-mod_first (n * 256 + o) (256 ^ length os) (2 ^ 64)))

-- what reads a number octet by octet
pub big_endian_folds : (os : List ℕ) → big_endian os % 2 ^ 64 ≡ fold (λ (m o : ℕ). (m * 256 % 2 ^ 64 + o) % 2 ^ 64) 0 os
big_endian_folds os = omega (arith, fold_wraps os 0 (lit< tt))

-- as many octets bound the number
pub big_endian_lt : (c : List ℕ) → ((i : ℕ) → get_or c i 0 < 256) → big_endian c < 256 ^ length c
big_endian_lt [] h = omega arith
big_endian_lt (o ∷ os) h =
    omega (arith, h 0, big_endian_lt os (λ i. h (suc i)), pow-succ' 256 (length os), mul-le-mul_right {m = o + 1} {n = 256} (256 ^ length os) (omega (arith, h 0)))

-- eight octets write a number of 64 bits
pub big_endian_small : (c : List ℕ) → ((i : ℕ) → get_or c i 0 < 256) → length c ≤ 8 → big_endian c < 2 ^ 64
big_endian_small c h le = omega (arith, big_endian_lt c h, pow-le-pow_right {n = 256} (omega arith) le)

-- so up to eight lose nothing modulo 2^64
pub big_endian_exact : (os : List ℕ) → ((i : ℕ) → Fits w8 (get_or os i 0)) → length os ≤ 8 → big_endian os ≡ big_endian os % 2 ^ 64
big_endian_exact os h le = sym (mod-eq_of_lt (big_endian_small os (λ i. omega (arith, h i)) le))

-- what the proof of a reader from the front goes by
pub ruleset reading = (big_endian_folds, big_endian_exact)
