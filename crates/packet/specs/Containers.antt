-- The one PDU session container of a packet: questions 5 to 10.
use Rattle.std.specs.Prelude.{ℕ, ◌-◌, ◌/◌, Bool, cond, ◌&&◌, List, [], ◌∷◌, length, take, drop, ◌==◌, nat_le, slice_index}
use Rattle.base.specs.declared.question.Question.TheVariants as Q
use Rattle.base.specs.Answers.{Answer, refused, gives, ask, bind, no_to}
use Rattle.base.specs.Octets.{bit, big_endian}
use Rattle.packet.specs.Chains.{HeaderMeaning, chain_of}

-- the type of the PDU session container
abbrev pub is_container : HeaderMeaning → Bool
is_container h = h.type == 133

-- question 10: is there exactly one container? The place is the second, or the chain's end.
abbrev pub no_second : HeaderMeaning → List HeaderMeaning → Answer HeaderMeaning
no_second h [] = gives h
no_second h (k ∷ ks) = cond (is_container k) (refused (no_to Q.Container k.place)) (no_second h ks)

abbrev pub only_container : List HeaderMeaning → ℕ → Answer HeaderMeaning
only_container [] e = refused (no_to Q.Container e)
only_container (h ∷ hs) e = cond (is_container h) (no_second h hs) (only_container hs e)

-- what is found: the container's place, its frame, the chain's end and the inner packet behind it
pub record Located : Type 0 where
  pub place : ℕ
  pub frame : List ℕ
  pub end : ℕ
  pub inner : List ℕ

abbrev pub located_at : List ℕ → ℕ → HeaderMeaning → Located
located_at k e h = record { place = h.place; frame = h.content; end = e; inner = drop e k }

-- question 6: are bits 7 to 4 of octet 0 equal to 3 and bit 2 set?
abbrev pub flags_right : List ℕ → Bool
flags_right k = slice_index k 0 / 16 == 3 && bit 2 (slice_index k 0) == 1

-- question 7: is octet 1 255?
abbrev pub message_type_right : List ℕ → Bool
message_type_right k = slice_index k 1 == 255

-- question 8: are octets 2 and 3 the count less 8?
abbrev pub length_right : List ℕ → Bool
length_right k = big_endian (take 2 (drop 2 k)) == length k - 8

-- questions 6 to 8 of a packet's octets
unfoldable pub first_octets : List ℕ → Answer (Unit {0})
first_octets k =
    ask (flags_right k) (no_to Q.Flags 0) (ask (message_type_right k) (no_to Q.MessageType 1) (ask (length_right k) (no_to Q.StatedLength 2) (gives tt)))

-- questions 6 to 10: the first octets, the chain, the one container
unfoldable pub located : List ℕ → Answer Located
located k =
    bind (first_octets k)
    (λ _. bind (chain_of k) (λ c. bind (only_container c.headers c.end) (λ h. gives (located_at k c.end h))))

-- question 5: has the packet 12 to 9,216 octets, all in the buffer?
abbrev pub count_right : List ℕ → ℕ → Bool
count_right buffer n = nat_le 12 n && (nat_le n 9216 && nat_le n (length buffer))

-- question 5 of a packet, the first n octets of a buffer: its octets
unfoldable pub counted : List ℕ → ℕ → Answer (List ℕ)
counted buffer n = ask (count_right buffer n) (no_to Q.PacketCount n) (gives (take n buffer))

-- questions 5 to 10 of a packet, the first n octets of a buffer
unfoldable pub container : List ℕ → ℕ → Answer Located
container buffer n = ask (count_right buffer n) (no_to Q.PacketCount n) (located (take n buffer))
