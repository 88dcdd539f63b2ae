-- Laws of the packet: what a chain of headers is, by the octets that it stands for, and where a container lies.
use Rattle.std.specs.Prelude.{◌≡◌, ℕ, ◌+◌, ◌*◌, ◌/◌, ◌%◌, ◌<◌, ◌≤◌, List, [], ◌∷◌, ◌++◌, length, take, drop, ◌≢◌, slice_index, slice_index_or}
use Rattle.std.specs.List.{between}
use Rattle.base.specs.Answers.{gives}
use Rattle.packet.specs.Chains.{HeaderMeaning, Chain, chain_of}
use Rattle.packet.specs.Containers.{Located, container}

-- the type that announces a list of headers: that of the first, and 0 where there is none
abbrev pub announced : List HeaderMeaning → ℕ
announced [] = 0
announced (h ∷ hs) = h.type

-- the units of a header, which count its first octet, its content and the type behind it
abbrev pub units : HeaderMeaning → ℕ
units h = (length h.content + 2) / 4

-- headers put one after another: the unit count, the content, the type of the next
abbrev pub laid_out : List HeaderMeaning → List ℕ
laid_out [] = []
laid_out (h ∷ hs) = units h ∷ (h.content ++ announced hs ∷ laid_out hs)

-- each header has a type other than 0, content of 4n - 2 octets, and stands where the one before it ends
abbrev pub InPlace : ℕ → List HeaderMeaning → Type 0
InPlace p [] = Unit {0}
InPlace p (h ∷ hs) = (h.type ≢ 0) × ((length h.content + 2) % 4 ≡ 0) × (h.place ≡ p) × InPlace (p + 4 * units h) hs

-- none of the headers is a container
abbrev pub NoContainer : List HeaderMeaning → Type 0
NoContainer [] = Unit {0}
NoContainer (h ∷ hs) = (h.type ≢ 133) × NoContainer hs

-- The headers, put one after another, are exactly the packet's octets from 12 to the chain's end.
pub record IsChain (k : List ℕ) (c : Chain) : Type 0 where
  pub first : slice_index_or k 11 0 ≡ announced c.headers
  pub places : InPlace 12 c.headers
  pub octets : between 12 c.end k ≡ laid_out c.headers
  pub inside : (12 ≤ c.end) × (c.end ≤ length k)

-- Of every packet: where the walk accepts, its headers are the packet's chain, and no other headers are.
abbrev pub WalkIsChain : Type 0
WalkIsChain =
    (k : List ℕ) → 12 ≤ length k → length k ≤ 9216
    → (c : Chain) → (chain_of k ≡ gives c → IsChain k c) × (IsChain k c → chain_of k ≡ gives c)

-- Of every packet in which a container is found: it is the first twelve octets, the headers one after another, and the inner
-- packet; and the container is the one header of its type.
pub record IsLaidOut (k : List ℕ) (w : Located) : Type 0 where
  pub chain : Chain
  pub walked : chain_of k ≡ gives chain
  pub octets : k ≡ take 12 k ++ (laid_out chain.headers ++ w.inner)
  pub before : List HeaderMeaning
  pub container : HeaderMeaning
  pub behind : List HeaderMeaning
  pub headers : chain.headers ≡ before ++ container ∷ behind
  pub type : container.type ≡ 133
  pub no_other : NoContainer before × NoContainer behind
  pub place : w.place ≡ container.place
  pub frame : w.frame ≡ container.content

abbrev pub PacketIsLaidOut : Type 0
PacketIsLaidOut = (b : List ℕ) (n : ℕ) (w : Located) → container b n ≡ gives w → IsLaidOut (take n b) w

-- Where a container that is found lies, its packet being the first n octets of the buffer b: the packet's count, the
-- container between the first octets and the chain's end, its unit count, and the parts that are its frame and the inner packet.
pub record Inside (b : List ℕ) (n : ℕ) (w : Located) : Type 0 where
  pub least : 12 ≤ n
  pub most : n ≤ 9216
  pub held : n ≤ length b
  pub from : 12 ≤ w.place
  pub before_end : w.place + 1 + length w.frame < w.end
  pub to : w.end ≤ n
  pub count : 4 * slice_index (take n b) w.place ≡ length w.frame + 2
  pub whole : (length w.frame + 2) % 4 ≡ 0
  pub some : 2 ≤ length w.frame
  pub frame : w.frame ≡ take (length w.frame) (drop (w.place + 1) (take n b))
  pub inner : w.inner ≡ drop w.end (take n b)
