-- Octets read back from the pairs that they are written as.
use Rattle.std.proofs.Common.{◌≡◌, ℕ, zero, suc, ◌+◌, ◌*◌, ◌/◌, ◌%◌, ◌<◌, ◌≤◌, List, [], ◌∷◌, ◌++◌, length, get_or, take, drop, set, sym, refl, ap, ◌∙◌, ap₂, arith, length-set, take-append-drop, take_all}
use Rattle.std.proofs.lemmas.List.{take_more, take_more_set, drop-drop, drop-set-lt}
use Rattle.base.specs.Octets.{Octets}
use Rattle.bench.specs.Lines.{hex_digit, hex_pairs}
use Rattle.bench.proofs.Pairs.{length_pairs}

-- the two digits of octet i
pair_high : (os : List ℕ) (i : ℕ) → i < length os → get_or (hex_pairs os) (2 * i) 0 ≡ hex_digit (get_or os i 0 / 16)
pair_high [] i h = absurd (let b : ⊥ = omega arith in b)
pair_high (o ∷ os) zero h = refl
pair_high (o ∷ os) (suc i) h =
    let e : 2 * suc i ≡ suc (suc (2 * i)) = omega arith in
    ap (λ (k : ℕ). get_or (hex_pairs (o ∷ os)) k 0) e ∙ pair_high os i (omega arith)

pair_low : (os : List ℕ) (i : ℕ) → i < length os → get_or (hex_pairs os) (2 * i + 1) 0 ≡ hex_digit (get_or os i 0 % 16)
pair_low [] i h = absurd (let b : ⊥ = omega arith in b)
pair_low (o ∷ os) zero h = refl
pair_low (o ∷ os) (suc i) h =
    let e : 2 * suc i + 1 ≡ suc (suc (2 * i + 1)) = omega arith in
    ap (λ (k : ℕ). get_or (hex_pairs (o ∷ os)) k 0) e ∙ pair_low os i (omega arith)

octet_at : (os : List ℕ) (i : ℕ) → Octets os → i < length os → get_or os i 0 < 256
octet_at [] i h l = absurd (let b : ⊥ = omega arith in b)
octet_at (o ∷ os) zero h l = h.0
octet_at (o ∷ os) (suc i) h l = octet_at os i h.1 (omega arith)

-- i octets are written
pub record Decoded (ds b₀ : List ℕ) (i : ℕ) (b : List ℕ) : Type 0 where
  pub done : (os : List ℕ) → Octets os → ds ≡ hex_pairs os → take i b ≡ take i os
  pub beyond : drop i b ≡ drop i b₀
  pub wide : length b ≡ length b₀

pub decoded_none : (ds b : List ℕ) → Decoded ds b 0 b
decoded_none ds b = record { done = λ os h e. refl; beyond = refl; wide = refl }

pub decoded_more : (ds b₀ : List ℕ) (i : ℕ) (b : List ℕ) (x y : ℕ) → Decoded ds b₀ i b → i < length b → i < length ds / 2
    → ((d : ℕ) → d < 16 → get_or ds (2 * i) 0 ≡ hex_digit d → x ≡ d)
    → ((d : ℕ) → d < 16 → get_or ds (2 * i + 1) 0 ≡ hex_digit d → y ≡ d)
    → Decoded ds b₀ (i + 1) (set b i (x * 16 + y))
decoded_more ds b₀ i b x y f hb hd ex ey = record {
  done = λ os h e.
      let l : i < length os = omega (arith, ap length e, length_pairs os) in
      let o = octet_at os i h l in
      let q = ex (get_or os i 0 / 16) (omega arith) (ap (λ (k : List ℕ). get_or k (2 * i) 0) e ∙ pair_high os i l) in
      let r = ey (get_or os i 0 % 16) (omega arith) (ap (λ (k : List ℕ). get_or k (2 * i + 1) 0) e ∙ pair_low os i l) in
      let v : x * 16 + y ≡ get_or os i 0 = omega (arith, q, r) in
      take_more_set b i (x * 16 + y) hb ∙ ap₂ (λ (s : List ℕ) (t : ℕ). s ++ t ∷ []) (f.done os h e) v ∙ sym (take_more os i 0 l);
  beyond = drop-set-lt (i + 1) b i (x * 16 + y) (omega arith) ∙ sym (drop-drop 1 i b) ∙ ap (drop 1) f.beyond ∙ drop-drop 1 i b₀;
  wide = length-set b i (x * 16 + y) ∙ f.wide;
}

pub decoded_all : (ds b₀ : List ℕ) (i : ℕ) (b : List ℕ) (n : ℕ) → Decoded ds b₀ i b → n ≡ length ds / 2 → n ≤ i → i ≤ n
    → (os : List ℕ) → Octets os → ds ≡ hex_pairs os → (n ≡ length os) × (b ≡ os ++ drop (length os) b₀)
decoded_all ds b₀ i b n f en lo hi os h e =
    let l : i ≡ length os = omega (arith, ap length e, length_pairs os) in (
      omega arith,
      sym (take-append-drop i b)
          ∙ ap₂ (λ (s t : List ℕ). s ++ t) (f.done os h e ∙ take_all i os (omega arith)) (f.beyond ∙ ap (λ (k : ℕ). drop k b₀) l),
    )
