-- A number and the octets that write it: each gives back the other.
use Rattle.std.proofs.Common.{◌≡◌, ℕ, zero, suc, ◌+◌, ◌-◌, ◌*◌, ◌/◌, ◌%◌, ◌^◌, ◌<◌, ◌≤◌, List, [], ◌∷◌, ◌++◌, length, get_or, take, drop, set, sym, refl, ap, ◌∙◌, ap₂, arith, length-set, pow-suc, div-one, mod-eq_of_lt}
use Rattle.std.proofs.Math.Nat.{pow-succ', one-le-pow, div-div-eq-div-mul}
use Rattle.std.proofs.Math.Arith.{mod-mul}
use Rattle.std.proofs.Math.Seq.{drop-length}
use Rattle.std.proofs.lemmas.List.{drop-set}
use Rattle.std.proofs.lemmas.Nat.{div-mul-add, mod-mul-add, mod_below, div_below, div-add-mod'}
use Rattle.base.specs.Octets.{Octets, big_endian, octets_of, NumbersKeep}
use Rattle.base.proofs.Numbers.{big_endian_lt}

pow_above : (k : ℕ) → 0 < 256 ^ k
pow_above k = one-le-pow k 256 (omega arith)

pub octets_at : (c : List ℕ) → Octets c → (i : ℕ) → get_or c i 0 < 256
octets_at [] h i = omega arith
octets_at (o ∷ c) h zero = h.0
octets_at (o ∷ c) h (suc i) = octets_at c h.1 i

pub octets_take : (n : ℕ) (c : List ℕ) → Octets c → Octets (take n c)
octets_take zero c h = tt
octets_take (suc n) [] h = tt
octets_take (suc n) (o ∷ c) h = (h.0, octets_take n c h.1)

pub octets_drop : (n : ℕ) (c : List ℕ) → Octets c → Octets (drop n c)
octets_drop zero c h = h
octets_drop (suc n) [] h = tt
octets_drop (suc n) (o ∷ c) h = octets_drop n c h.1

pub octets_append : (a b : List ℕ) → Octets a → Octets b → Octets (a ++ b)
octets_append [] b h k = k
octets_append (o ∷ a) b h k = (h.0, octets_append a b h.1 k)

pub length-octets_of : (k v : ℕ) → length (octets_of k v) ≡ k
length-octets_of zero v = refl
length-octets_of (suc k) v = ap suc (length-octets_of k (v % 256 ^ k))

-- a number that k octets hold, from the octets that write it
pub big_endian-octets_of : (k v : ℕ) → v < 256 ^ k → big_endian (octets_of k v) ≡ v
big_endian-octets_of zero v h = omega arith
big_endian-octets_of (suc k) v h =
    let e : length (octets_of k (v % 256 ^ k)) ≡ k = length-octets_of k (v % 256 ^ k) in
    let i : big_endian (octets_of k (v % 256 ^ k)) ≡ v % 256 ^ k =
    big_endian-octets_of k (v % 256 ^ k) (mod_below v (256 ^ k) (pow_above k)) in
    rw (e, i) (div-add-mod' v (256 ^ k))

-- octets, from the number that they write
pub octets_of-big_endian : (c : List ℕ) → Octets c → octets_of (length c) (big_endian c) ≡ c
octets_of-big_endian [] h = refl
octets_of-big_endian (o ∷ c) h =
    let l : big_endian c < 256 ^ length c = big_endian_lt c (octets_at c h.1) in
    ap₂ ◌∷◌ (div-mul-add o (256 ^ length c) (big_endian c) l)
    (ap (octets_of (length c)) (mod-mul-add o (256 ^ length c) (big_endian c) l) ∙ octets_of-big_endian c h.1)

-- what writes a number that k octets hold is octets
pub octets_octets_of : (k v : ℕ) → v < 256 ^ k → Octets (octets_of k v)
octets_octets_of zero v h = tt
octets_octets_of (suc k) v h =
    (div_below v (256 ^ k) 256 (pow_above k) (omega arith), octets_octets_of k (v % 256 ^ k) (mod_below v (256 ^ k) (pow_above k)))

pub numbers_keep : NumbersKeep
numbers_keep = (big_endian-octets_of, octets_of-big_endian)

-- the octets that write a number are the only ones that do
pub octets_are : (c : List ℕ) (v : ℕ) → ((i : ℕ) → get_or c i 0 < 256) → big_endian c ≡ v → c ≡ octets_of (length c) v
octets_are c v h e = sym (ap (octets_of (length c)) (sym e) ∙ octets_of-big_endian c (each c h))
  where
    each : (c : List ℕ) → ((i : ℕ) → get_or c i 0 < 256) → Octets c
    each [] h = tt
    each (o ∷ c) h = (h 0, each c (λ i. h (suc i)))

-- one octet more in front of those that write a number's low part
octets_of-more : (k v : ℕ) → octets_of (suc k) (v % 256 ^ suc k) ≡ v / 256 ^ k % 256 ∷ octets_of k (v % 256 ^ k)
octets_of-more k v =
    let low : v % 256 ^ k < 256 ^ k = mod_below v (256 ^ k) (pow_above k) in
    let e : v % 256 ^ suc k ≡ v / 256 ^ k % 256 * 256 ^ k + v % 256 ^ k = rw (pow-succ' 256 k) (mod-mul v (omega arith) (pow_above k)) in
    rw (e, div-mul-add _ _ _ low, mod-mul-add _ _ _ low) refl

-- the low part of a number that k octets hold is all of it
pub octets_of_small : (k v : ℕ) → v < 256 ^ k → octets_of k v ≡ octets_of k (v % 256 ^ k)
octets_of_small k v h = ap (octets_of k) (sym (mod-eq_of_lt h))

-- a number is written from the end: the octets from i on stand, and rest is what they leave of it
abbrev pub IsWrittenFrom : ℕ → List ℕ → ℕ → ℕ → Type 0
IsWrittenFrom value os i rest =
    (rest ≡ value / 256 ^ (length os - i)) × (drop i os ≡ octets_of (length os - i) (value % 256 ^ (length os - i)))

-- before an octet is written
pub written_start : (value : ℕ) (os : List ℕ) → IsWrittenFrom value os (length os) value
written_start value os =
    let none : length os - length os ≡ 0 = omega arith in
    rw none (sym (div-one value), drop-length os)

-- behind one octet more
pub written_more : (value : ℕ) (os : List ℕ) (i rest : ℕ) → 0 < i → i ≤ length os → IsWrittenFrom value os i rest
    → IsWrittenFrom value (set os (i - 1) (rest % 256)) (i - 1) (rest / 256)
written_more value os i rest above within w =
    let n : ℕ = length os - i in
    let e : length (set os (i - 1) (rest % 256)) - (i - 1) ≡ suc n = omega (arith, length-set os (i - 1) (rest % 256)) in
    let next : i - 1 + 1 ≡ i = omega arith in
    let cut : drop (i - 1) (set os (i - 1) (rest % 256)) ≡ rest % 256 ∷ drop (i - 1 + 1) os = drop-set os (i - 1) (rest % 256) (omega arith) in
    simp e (
      rw (pow-suc 256 n) (ap (λ r. r / 256) w.0 ∙ div-div-eq-div-mul value (256 ^ n) 256),
      cut ∙ rw (next, octets_of-more n value) (ap₂ ◌∷◌ (ap (λ r. r % 256) w.0) w.1),
    )

-- what the proof of a writer from the end goes by
pub ruleset writing = (written_start, written_more, octets_of_small, numbers_keep)
