-- The chain of extension headers, which starts behind the first twelve octets of a G-PDU.
use Rattle.std.specs.Prelude.{ℕ, zero, suc, ◌+◌, ◌-◌, ◌*◌, Bool, true, false, cond, ◌&&◌, List, [], ◌∷◌, length, drop, ◌==◌, nat_le, nat_lt, slice_index}
use Rattle.std.specs.List.{between}
use Rattle.base.specs.declared.question.Question.TheVariants as Q
use Rattle.base.specs.Answers.{Answer, refused, gives, ask, bind, no_to}

-- a header: its type, the place of its first octet, and its content
pub record HeaderMeaning : Type 0 where
  pub type : ℕ
  pub place : ℕ
  pub content : List ℕ

-- The header that starts the octets o: its first octet is the unit count, four octets to a unit; then comes
-- the content, and the last octet is the type of the next header.
abbrev pub header_size : List ℕ → ℕ
header_size o = 4 * slice_index o 0

abbrev pub header_content : List ℕ → List ℕ
header_content o = between 1 (header_size o - 1) o

abbrev pub next_type : List ℕ → ℕ
next_type o = slice_index o (header_size o - 1)

abbrev pub behind : List ℕ → List ℕ
behind o = drop (header_size o) o

abbrev pub header_at : ℕ → ℕ → List ℕ → HeaderMeaning
header_at t p o = record { type = t; place = p; content = header_content o }

-- question 9: is the unit count above 0, and does the header fit?
abbrev pub header_fits : List ℕ → Bool
header_fits o = nat_lt 0 (slice_index o 0) && nat_le (header_size o) (length o)

abbrev pub size_answer : List ℕ → ℕ → Answer ℕ
size_answer o p = cond (header_fits o) (gives (header_size o)) (refused (no_to Q.Header p))

-- the headers of a chain, and its end: the place of the first octet behind it
pub record Chain : Type 0 where
  pub headers : List HeaderMeaning
  pub end : ℕ

abbrev pub before : HeaderMeaning → Chain → Chain
before h c = record { headers = h ∷ c.headers; end = c.end }

-- The chain from place p on, o being the octets there and t the type of its first header; type 0 ends it.
-- A packet has at most 9,216 octets and a header at least four, so 9,216 turns are enough.
unfoldable pub chain_from : ℕ → ℕ → ℕ → List ℕ → Answer Chain
chain_from zero t p o = refused (no_to Q.Header p)
chain_from (suc turns) t p o =
    elim (t == 0) [
      | true ↦ gives (record { headers = []; end = p })
      | false ↦
          ask (header_fits o) (no_to Q.Header p)
          (bind (chain_from turns (next_type o) (p + header_size o) (behind o)) (λ c. gives (before (header_at t p o) c)))
    ]

-- the chain of a packet
unfoldable pub chain_of : List ℕ → Answer Chain
chain_of k = chain_from 9216 (slice_index k 11) 12 (drop 12 k)
