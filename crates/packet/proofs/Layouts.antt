-- A packet in which a container is found, from end to end.
use Rattle.std.proofs.Common.{◌≡◌, ℕ, ◌+◌, ◌-◌, ◌≤◌, List, ◌++◌, length, take, drop, arith, take-append-drop}
use Rattle.std.proofs.lemmas.List.{drop-drop, length-take-le}
use Rattle.packet.specs.Laws.{PacketIsLaidOut}
use Rattle.packet.proofs.Only.{only}
use Rattle.packet.proofs.Chains.{walk_is_chain}
use Rattle.packet.proofs.Containers.{container-accepted, container_inside}

-- a list in three parts
three_parts : (k : List ℕ) (a e : ℕ) → a ≤ e → k ≡ take a k ++ (take (e - a) (drop a k) ++ drop e k)
three_parts k a e h =
    let to : a + (e - a) ≡ e = omega arith in
    cc (to, take-append-drop a k, take-append-drop (e - a) (drop a k), drop-drop (e - a) a k)

pub packet_is_laid_out : PacketIsLaidOut
packet_is_laid_out b n w e =
    let a = container-accepted b n w e in
    let i = container_inside b n w e in
    let k = take n b in
    let l : length k ≡ n = length-take-le n b i.held in
    let c = (walk_is_chain k (omega (arith, l, i.least)) (omega (arith, l, i.most)) a.chain).0 a.walked in
    let o = only a.chain.headers a.chain.end a.header a.only in
    record {
      chain = a.chain;
      walked = a.walked;
      octets = cc (three_parts k 12 a.chain.end c.inside.0, c.octets, a.is);
      before = o.before;
      container = a.header;
      behind = o.behind;
      headers = o.headers;
      type = o.type;
      no_other = o.no_other;
      place = cc;
      frame = cc;
    }
