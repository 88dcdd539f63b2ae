-- The questions 5 to 8 by the tests that the code makes.
use Rattle.std.proofs.Common.{◌≡◌, ℕ, ◌+◌, ◌-◌, ◌*◌, ◌/◌, ◌<◌, ◌≤◌, ◌≢◌, true, ◌⊎◌, List, [], ◌∷◌, length, get_or, take, drop, ap, ◌∙◌, arith}
use lib.Bits.{bit_and}
use Rattle.std.proofs.lemmas.List.{drop_more}
use Rattle.std.proofs.lemmas.Nat.Bits.{and_pow}
use Rattle.std.proofs.lemmas.Bool.Decides.{nat_tests}
use Rattle.base.specs.declared.question.Question.TheVariants as Q
use Rattle.base.specs.Answers.{refused, gives, ask, no_to}
use Rattle.base.specs.Octets.{big_endian}
use Rattle.base.proofs.Asking.{ask_yes, ask_no}
use Rattle.packet.specs.Containers.{count_right, counted, flags_right, message_type_right, length_right, first_octets}

pub counted_yes : (b : List ℕ) (n : ℕ) → 12 ≤ n → n ≤ 9216 → n ≤ length b → counted b n ≡ gives (take n b)
unfolding counted
counted_yes b n least most held = ask_yes (count_right b n) (no_to Q.PacketCount n) _ (grind (arith, nat_tests))

pub counted_no : (b : List ℕ) (n : ℕ) → (n < 12) ⊎ ((9216 < n) ⊎ (length b < n)) → counted b n ≡ refused (no_to Q.PacketCount n)
unfolding counted
counted_no b n out = ask_no (count_right b n) (no_to Q.PacketCount n) _ (grind (arith, nat_tests))

-- the number that two octets write
pub big_endian_two : (k : List ℕ) (i : ℕ) → i + 1 < length k → big_endian (take 2 (drop i k)) ≡ get_or k i 0 * 256 + get_or k (i + 1) 0
big_endian_two k i h =
    let first = drop_more k i 0 (omega arith) in
    let second = ap (λ l. get_or k i 0 ∷ l) (drop_more k (i + 1) 0 h) in
    ap (λ l. big_endian (take 2 l)) (first ∙ second) ∙ omega arith

stated_length : (k : List ℕ) → 12 ≤ length k → big_endian (take 2 (drop 2 k)) ≡ get_or k 2 0 * 256 + get_or k 3 0
stated_length k least = big_endian_two k 2 (omega arith)

pub flags_no : (k : List ℕ) → (get_or k 0 0 / 16 ≢ 3) ⊎ (bit_and (get_or k 0 0) 4 ≡ 0) → first_octets k ≡ refused (no_to Q.Flags 0)
unfolding first_octets
flags_no k wrong =
    let e = and_pow (get_or k 0 0) 2 in
    ask_no (flags_right k) (no_to Q.Flags 0) _ (grind (arith, nat_tests))

module _ (k : List ℕ) (version : get_or k 0 0 / 16 ≡ 3) (extended : bit_and (get_or k 0 0) 4 ≢ 0) where
  flags_yes : flags_right k ≡ true
  flags_yes = let e = and_pow (get_or k 0 0) 2 in grind (arith, nat_tests)

  pub message_type_no : get_or k 1 0 ≢ 255 → first_octets k ≡ refused (no_to Q.MessageType 1)
  unfolding first_octets
  message_type_no wrong =
      ask_yes (flags_right k) (no_to Q.Flags 0) _ flags_yes
      ∙ ask_no (message_type_right k) (no_to Q.MessageType 1) _ (grind (arith, nat_tests))

  module _ (type : get_or k 1 0 ≡ 255) (least : 12 ≤ length k) where
    first_octets_ask : first_octets k ≡ ask (length_right k) (no_to Q.StatedLength 2) (gives tt)
    unfolding first_octets
    first_octets_ask =
        ask_yes (flags_right k) (no_to Q.Flags 0) _ flags_yes
        ∙ ask_yes (message_type_right k) (no_to Q.MessageType 1) _ (grind (arith, nat_tests))

    pub length_no : get_or k 2 0 * 256 + get_or k 3 0 ≢ length k - 8 → first_octets k ≡ refused (no_to Q.StatedLength 2)
    length_no wrong =
        let n = stated_length k least in
        first_octets_ask ∙ ask_no (length_right k) (no_to Q.StatedLength 2) (gives tt) (grind (arith, nat_tests))

    pub first_octets_yes : get_or k 2 0 * 256 + get_or k 3 0 ≡ length k - 8 → first_octets k ≡ gives tt
    first_octets_yes right =
        let n = stated_length k least in
        first_octets_ask ∙ ask_yes (length_right k) (no_to Q.StatedLength 2) (gives tt) (grind (arith, nat_tests))

-- what the code asks of the first octets
pub ruleset first_octets_asked = (flags_no, message_type_no, length_no, first_octets_yes)
