-- Headers, walks and containers of the code, which borrow parts of the packet, by their octets.
use Rattle.std.specs.Prelude.{◌≡◌, []}
use Rattle.packet.specs.declared.header.Header.{Header}
use Rattle.packet.specs.declared.header.Header.TheVariants.{Container, Other}
use Rattle.packet.specs.declared.walk.Met.{Met}
use Rattle.packet.specs.declared.walk.Met.TheVariants.{Nothing, One, Second}
use Rattle.packet.specs.declared.walk.Walked.{Walked}
use Rattle.packet.specs.declared.container.Found.{Found}
use Rattle.packet.specs.Chains.{HeaderMeaning}
use Rattle.packet.specs.Containers.{Located}
use Rattle.packet.specs.Walks.{Seen, nothing, one, second, only_after, Walk}

abbrev pub header_meaning : Header → HeaderMeaning
header_meaning (Container frame place) = record { type = 133; place = place; content = frame.now }
header_meaning (Other kind content place) = record { type = kind; place = place; content = content.now }

-- a header stands in the case of its type
abbrev pub RightCase : Header → Type 0
RightCase (Container frame place) = Unit {0}
RightCase (Other kind content place) = kind ≡ 133 → ⊥

abbrev pub seen_of : Met → Seen
seen_of Nothing = nothing
seen_of (One frame place) = one (record { type = 133; place = place; content = frame.now })
seen_of (Second place) = second place

abbrev pub walked_of : Walked → Walk
walked_of w = record { only = only_after (seen_of w.met) [] w.chain_end; end = w.chain_end; inner = w.inner.now }

abbrev pub located_of : Found → Located
located_of f = record { place = f.place; frame = f.frame.now; end = f.chain_end; inner = f.inner.now }
