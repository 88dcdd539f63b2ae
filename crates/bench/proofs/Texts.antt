-- Lines by their octets.
use Rattle.std.specs.Bool.{then_some}
use Rattle.std.proofs.Common.{Bool, Bor, MatchOption, ◌≡◌, ℕ, ◌<◌, ◌≤◌, true, false, List, ◌∷◌, length, get_or, drop, sym, ap, ◌∙◌, ap₂, arith}
use Rattle.std.proofs.lemmas.Bool.Decides.{nat_tests}
use Rattle.layout.specs.declared.table.Published.{Published}
use Rattle.bench.specs.declared.line.Command.TheVariants.{Packet}
use Rattle.bench.specs.Lines.{hex_pairs, layout_text, IsPacketLine, IsReadLine, IsCommand, IsNoCommand}
use Rattle.bench.specs.Tests.{are_hex_pairs}
use Rattle.bench.proofs.Pairs.{Written, written, are_pairs}

module _ (line fields : List ℕ) (c : ℕ) (e : line ≡ c ∷ 32 ∷ fields) where
  letter_is : (d : ℕ) (rest : List ℕ) → line ≡ d ∷ 32 ∷ rest → (c ≡ d) × (fields ≡ rest)
  letter_is d rest f = (ap (λ (l : List ℕ). get_or l 0 0) (sym e ∙ f), ap (drop 2) (sym e ∙ f))

  -- `p` and pairs
  packet_written : c ≡ 112 → 0 < length fields → length fields ≤ 18432 → Written fields → (os : List ℕ) × (fields ≡ hex_pairs os) × IsPacketLine line os
  packet_written p s m w = (
    w.octets,
    w.text,
    record {
      octets = w.are;
      some = omega (arith, w.half);
      most = omega (arith, w.half);
      text = e ∙ ap₂ (λ (k : ℕ) (r : List ℕ). k ∷ 32 ∷ r) p w.text;
    },
  )

  packet_line : c ≡ 112 → true ≡ are_hex_pairs fields → (os : List ℕ) × (fields ≡ hex_pairs os) × IsPacketLine line os
  packet_line p t =
      packet_written p (grind (arith, nat_tests)) (grind (arith, nat_tests)) (written fields (grind (arith, nat_tests)) (grind (arith, nat_tests)))

  no_read : c ≡ 112 → (l : Published) → IsReadLine line l → ⊥
  no_read p l h = let q = letter_is 114 (layout_text l) h in omega (arith, p, q.0)

  no_pairs : c ≡ 112 → false ≡ are_hex_pairs fields → IsNoCommand line
  no_pairs p t = record {
    no_packet_line = λ os h.
        let q = letter_is 112 (hex_pairs os) h.text in
        let y : true ≡ false = sym (are_pairs os h.octets h.some h.most) ∙ ap are_hex_pairs (sym q.1) ∙ sym t in
        cc;
    no_read_line = no_read p;
  }

-- a line with the letter `p`, by the test of its fields
pub packet_told : (line : List ℕ) (f : Bor (List ℕ)) (c : ℕ) → line ≡ c ∷ 32 ∷ f.now → c ≡ 112 → (b : Bool) → b ≡ are_hex_pairs f.now
    → MatchOption (then_some b (Packet f)) (IsNoCommand line) (λ d. IsCommand line d)
packet_told line f c e p true t = packet_line line f.now c e p t
packet_told line f c e p false t = no_pairs line f.now c e p t
