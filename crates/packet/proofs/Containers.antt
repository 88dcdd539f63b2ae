-- The one container of a packet: the questions in the code's order, and where a container that is found lies.
use Rattle.std.proofs.Common.{◌≡◌, ℕ, ◌+◌, ◌*◌, ◌<◌, ◌≤◌, Bool, true, false, List, [], ◌∷◌, ◌++◌, length, get_or, take, drop, sym, refl, ap, ◌∙◌, subst, append_assoc, arith, length-append}
use Rattle.std.specs.List.{AllByRecursion as All}
use Rattle.std.proofs.lemmas.List.{drop-drop, length-take-le, take_at}
use Rattle.std.proofs.lemmas.Bool.Decides.{nat_tests}
use Rattle.std.proofs.lemmas.Grind.{common_steps}
use Rattle.base.specs.declared.refusal.Refusal.{Refusal}
use Rattle.base.specs.declared.question.Question.TheVariants as Q
use Rattle.base.specs.Answers.{Answer, refused, gives, ask, bind, no_to}
use Rattle.base.proofs.Asking.{answer_at_break, never, gives_inj, ask_yes, asked_yes, bind_gives, bind_refused, bound}
use Rattle.packet.specs.Chains.{HeaderMeaning, Chain, chain_of}
use Rattle.packet.specs.Containers.{Located, only_container, located_at}
use Rattle.packet.specs.Containers.{count_right, flags_right, message_type_right, length_right, first_octets, located, counted, container}
use Rattle.packet.specs.Laws.{announced, units, laid_out, InPlace, Inside}
use Rattle.packet.specs.Walks.{nothing, Walk, walk_on, walk_of, found_by}
use Rattle.packet.proofs.Headers.{behind_made}
use Rattle.packet.proofs.Only.{only, only_has}
use Rattle.packet.proofs.Chains.{chain_is_laid, walk_is_chain}

found_by_walk
    : (k : List ℕ) (chain : Answer Chain)
    → bind (walk_on nothing k chain) found_by
    ≡ bind chain (λ c. bind (only_container c.headers c.end) (λ h. gives (located_at k c.end h)))
unfolding bind walk_on
found_by_walk k (refused r) = refl
found_by_walk k (gives c) = refl

-- questions 6 to 10 as the code puts them: the first octets, the walk, the one container
abbrev by_walk : List ℕ → Answer Located
by_walk k = bind (first_octets k) (λ _. bind (walk_of k) found_by)

-- question 5 before them
module _ (b : List ℕ) (n : ℕ) where
  container_by_walk : container b n ≡ bind (counted b n) by_walk
  unfolding ask bind container located counted
  container_by_walk = by (count_right b n)
    where
      by : (yes : Bool) → ask yes (no_to Q.PacketCount n) (located (take n b)) ≡ bind (ask yes (no_to Q.PacketCount n) (gives (take n b))) by_walk
      by true = ap (λ a. bind (first_octets (take n b)) (λ _. a)) (sym (found_by_walk (take n b) (chain_of (take n b))))
      by false = refl

  pub refused_by_count : (r : Refusal) → refused r ≡ counted b n → container b n ≡ refused r
  refused_by_count r e = container_by_walk ∙ bind_refused (counted b n) by_walk r (sym e)

  module _ (k : List ℕ) (right : gives k ≡ counted b n) where
    given_by_count : container b n ≡ by_walk k
    given_by_count = container_by_walk ∙ bind_gives (counted b n) by_walk k (sym right)

    pub refused_by_first_octets : (r : Refusal) → refused r ≡ first_octets k → container b n ≡ refused r
    refused_by_first_octets r e = given_by_count ∙ bind_refused (first_octets k) _ r (sym e)

    module _ (first : gives tt ≡ first_octets k) where
      given_by_first_octets : container b n ≡ bind (walk_of k) found_by
      given_by_first_octets = given_by_count ∙ bind_gives (first_octets k) _ tt (sym first)

      pub refused_by_walk : (r : Refusal) → refused r ≡ walk_of k → container b n ≡ refused r
      refused_by_walk r e = given_by_first_octets ∙ bind_refused (walk_of k) found_by r (sym e)

      pub given_by_walk : (w : Walk) → gives w ≡ walk_of k → container b n ≡ found_by w
      given_by_walk w e = given_by_first_octets ∙ bind_gives (walk_of k) found_by w (sym e)

-- what a call that puts the questions in this order needs
pub ruleset asked_in_order = (refused_by_count, refused_by_first_octets, refused_by_walk, given_by_walk, answer_at_break)

-- that the answers to questions 5 to 10 are yes, with the chain and the container that they find
pub record Accepted (b : List ℕ) (n : ℕ) (w : Located) : Type 0 where
  pub count : count_right b n ≡ true
  pub flags : flags_right (take n b) ≡ true
  pub message_type : message_type_right (take n b) ≡ true
  pub stated : length_right (take n b) ≡ true
  pub chain : Chain
  pub walked : chain_of (take n b) ≡ gives chain
  pub header : HeaderMeaning
  pub only : only_container chain.headers chain.end ≡ gives header
  pub is : w ≡ located_at (take n b) chain.end header

pub container-accepted : (b : List ℕ) (n : ℕ) (w : Located) → container b n ≡ gives w → Accepted b n w
unfolding container located first_octets
container-accepted b n w e =
    let k = take n b in
    let count = asked_yes (count_right b n) (no_to Q.PacketCount n) (located k) w e in
    let first = bound (first_octets k) _ w count.1 in
    let flags = asked_yes (flags_right k) (no_to Q.Flags 0) _ first.0 first.1 in
    let type = asked_yes (message_type_right k) (no_to Q.MessageType 1) _ first.0 flags.1 in
    let stated = asked_yes (length_right k) (no_to Q.StatedLength 2) _ first.0 type.1 in
    let chain = bound (chain_of k) _ w first.2 in
    let only = bound (only_container chain.0.headers chain.0.end) _ w chain.2 in
    record {
      count = count.0;
      flags = flags.0;
      message_type = type.0;
      stated = stated.0;
      chain = chain.0;
      walked = chain.1;
      header = only.0;
      only = only.1;
      is = sym (gives_inj only.2);
    }

-- and the other way round
pub accepted-container : (b : List ℕ) (n : ℕ) (w : Located) → Accepted b n w → container b n ≡ gives w
unfolding container located first_octets
accepted-container b n w a =
    let k = take n b in
    let flags = ask_yes (flags_right k) (no_to Q.Flags 0) _ a.flags in
    let type = ask_yes (message_type_right k) (no_to Q.MessageType 1) _ a.message_type in
    let stated = ask_yes (length_right k) (no_to Q.StatedLength 2) (gives tt) a.stated in
    ask_yes (count_right b n) (no_to Q.PacketCount n) (located k) a.count
    ∙ bind_gives (first_octets k) _ tt (flags ∙ type ∙ stated)
    ∙ bind_gives (chain_of k) _ a.chain a.walked
    ∙ bind_gives (only_container a.chain.headers a.chain.end) _ a.header a.only
    ∙ ap gives (sym a.is)

-- a header of a chain that ends at e, by the octets k of its packet
record HeaderInside (k : List ℕ) (e : ℕ) (h : HeaderMeaning) : Type 0 where
  pub from : 12 ≤ h.place
  pub before_end : h.place + 1 + length h.content < e
  pub count : 4 * get_or k h.place 0 ≡ length h.content + 2
  pub content : h.content ≡ take (length h.content) (drop (h.place + 1) k)

-- the first of the headers that are laid out from p on, and where the others start
module _ (k : List ℕ) (p t : ℕ) (h : HeaderMeaning) (r : List ℕ) (at : h.place ≡ p) (whole : 4 * units h ≡ length h.content + 2)
    (apart : drop p k ≡ units h ∷ (h.content ++ t ∷ r)) where
  count_first : get_or k h.place 0 ≡ units h
  count_first = grind (arith, common_steps)

  content_first : h.content ≡ take (length h.content) (drop (h.place + 1) k)
  content_first =
      grind (arith, common_steps, drop-drop 1 p k, take_at h.content (t ∷ r) (length h.content) refl)

  drop_first : drop (p + 4 * units h) k ≡ r
  drop_first = grind (arith, common_steps, behind_made (units h) t h.content r whole)

headers_inside
    : (k : List ℕ) (p e : ℕ) (hs : List HeaderMeaning) (back : List ℕ)
    → 12 ≤ p → drop p k ≡ laid_out hs ++ back → InPlace p hs → e ≡ p + length (laid_out hs) → All (HeaderInside k e) hs
headers_inside k p e [] back far o i to = tt
headers_inside k p e (h ∷ hs) back far o i to =
    let r = laid_out hs ++ back in
    let at = i.2 in
    let whole : 4 * units h ≡ length h.content + 2 = omega (arith, i.1) in
    let long = length-append h.content (announced hs ∷ laid_out hs) in
    let apart = o ∙ ap (λ l. units h ∷ l) (append_assoc h.content (announced hs ∷ laid_out hs) back) in
    let first : HeaderInside k e h = record {
      from = omega arith;
      before_end = omega arith;
      count = omega (arith, count_first k p (announced hs) h r at whole apart);
      content = content_first k p (announced hs) h r at whole apart;
    } in
    let next = drop_first k p (announced hs) h r at whole apart in
    (first, headers_inside k (p + 4 * units h) e hs back (omega arith) next i.3 (omega arith))

count_within : (b : List ℕ) (n : ℕ) → count_right b n ≡ true → (12 ≤ n) × (n ≤ 9216) × (n ≤ length b)
count_within b n e = (grind (arith, nat_tests), grind (arith, nat_tests), grind (arith, nat_tests))

-- a container that is found lies inside its packet
pub container_inside : (b : List ℕ) (n : ℕ) (w : Located) → container b n ≡ gives w → Inside b n w
container_inside b n w e =
    let k = take n b in
    let a = container-accepted b n w e in
    let c = a.chain in
    let within = count_within b n a.count in
    let long = length-take-le n b within.2 in
    let i = (walk_is_chain k (omega arith) (omega arith) c).0 a.walked in
    let l = chain_is_laid k c i in
    let all = headers_inside k 12 c.end c.headers l.back (omega arith) l.octets l.places l.to in
    let h = only_has (HeaderInside k c.end) c.headers a.header all (only c.headers c.end a.header a.only) in
    subst (Inside b n) (sym a.is)
    (record {
      least = within.0;
      most = within.1;
      held = within.2;
      from = h.from;
      before_end = h.before_end;
      to = omega (arith, i.inside.1);
      count = h.count;
      whole = omega (arith, h.count);
      some = omega (arith, h.count);
      frame = h.content;
      inner = refl;
    })
