-- What a walk over the chain has seen of containers, and what that makes of the headers still to come.
use Rattle.std.specs.Prelude.{ℕ, cond, List, drop}
use Rattle.base.specs.declared.question.Question.TheVariants as Q
use Rattle.base.specs.Answers.{Answer, refused, gives, bind, no_to}
use Rattle.packet.specs.Chains.{HeaderMeaning, Chain, chain_of}
use Rattle.packet.specs.Containers.{Located, is_container, no_second, only_container}

-- no container, one, or a second at its place
pub data Seen : Type 0 where
  nothing : Seen
  one : HeaderMeaning → Seen
  second : ℕ → Seen

-- one header more
abbrev pub seen_after : Seen → HeaderMeaning → Seen
seen_after nothing h = cond (is_container h) (one h) nothing
seen_after (one g) h = cond (is_container h) (second h.place) (one g)
seen_after (second p) h = second p

-- question 10 of a chain that ends at e, where hs are the headers behind those seen
abbrev pub only_after : Seen → List HeaderMeaning → ℕ → Answer HeaderMeaning
only_after nothing hs e = only_container hs e
only_after (one g) hs e = no_second g hs
only_after (second p) hs e = refused (no_to Q.Container p)

-- what a walk answers: the answer to question 10, the chain's end, and the octets behind it
pub record Walk : Type 0 where
  pub only : Answer HeaderMeaning
  pub end : ℕ
  pub inner : List ℕ

abbrev pub walk_end : Seen → List ℕ → Chain → Walk
walk_end s k c = record { only = only_after s c.headers c.end; end = c.end; inner = drop c.end k }

-- the walk over the rest of a chain in the packet k, s being seen before it, and over the whole chain
unfoldable pub walk_on : Seen → List ℕ → Answer Chain → Answer Walk
walk_on s k rest = bind rest (λ c. gives (walk_end s k c))

abbrev pub walk_of : List ℕ → Answer Walk
walk_of k = walk_on nothing k (chain_of k)

-- what is found where the walk came to its end
abbrev pub found_by : Walk → Answer Located
found_by w = bind w.only (λ h. gives (record { place = h.place; frame = h.content; end = w.end; inner = w.inner }))
