-- The chain, a header at a time, and the theorem that a walk's headers are the packet's chain.
use Rattle.std.proofs.Common.{◌≡◌, ℕ, zero, suc, ◌+◌, ◌-◌, ◌*◌, ◌%◌, ◌≤◌, true, false, ◌⊎◌, List, [], ◌∷◌, ◌++◌, length, get_or, drop, sym, refl, ap, ◌∙◌, subst, inl, inr, append_assoc, arith, length-append, length-drop}
use Rattle.std.proofs.lemmas.List.{take-append-drop}
use Rattle.std.proofs.lemmas.List.Edits.{length-between}
use Rattle.std.proofs.lemmas.Bool.{cases_Bool, cases_eq, eq-eqb, ne_eqb}
use Rattle.std.proofs.lemmas.Grind.{common_steps}
use Rattle.base.specs.declared.question.Question.TheVariants as Q
use Rattle.base.specs.Answers.{refused, gives, ask, bind, no_to}
use Rattle.base.proofs.Asking.{never, gives_inj, ask_yes, ask_no, bind_gives, bound}
use Rattle.packet.specs.Chains.{HeaderMeaning, header_size, header_content, next_type, behind, header_at, header_fits}
use Rattle.packet.specs.Chains.{Chain, before, chain_from, chain_of}
use Rattle.packet.specs.Laws.{announced, units, laid_out, InPlace, IsChain, WalkIsChain}
use Rattle.packet.proofs.Headers.{length_content, header_apart, header_fits_made, header_content_made, next_type_made, behind_made}

-- one turn: type 0 ends the chain, a header that does not fit refuses it, any other goes on behind itself
pub chain_ends : (turns t p : ℕ) (o : List ℕ) → t ≡ 0 → chain_from (suc turns) t p o ≡ gives (record { headers = []; end = p })
unfolding chain_from
chain_ends turns t p o z = rw (eq-eqb t 0 z, chain_from)

module _ (turns t p : ℕ) (o : List ℕ) (some : t ≡ 0 → ⊥) where
  chain_asks
      : chain_from (suc turns) t p o
      ≡ ask (header_fits o) (no_to Q.Header p)
      (bind (chain_from turns (next_type o) (p + header_size o) (behind o)) (λ c. gives (before (header_at t p o) c)))
  unfolding chain_from
  chain_asks = rw (ne_eqb t 0 some, chain_from)

  pub chain_stops : header_fits o ≡ false → chain_from (suc turns) t p o ≡ refused (no_to Q.Header p)
  chain_stops f = chain_asks ∙ ask_no (header_fits o) (no_to Q.Header p) _ f

  pub chain_goes_on
      : header_fits o ≡ true
      → chain_from (suc turns) t p o
      ≡ bind (chain_from turns (next_type o) (p + header_size o) (behind o)) (λ c. gives (before (header_at t p o) c))
  chain_goes_on f = chain_asks ∙ ask_yes (header_fits o) (no_to Q.Header p) _ f

-- headers in place at the front of the octets o, which stand at p, and where they end
pub record Laid (t p : ℕ) (o : List ℕ) (c : Chain) : Type 0 where
  pub first : t ≡ announced c.headers
  pub places : InPlace p c.headers
  pub back : List ℕ
  pub octets : o ≡ laid_out c.headers ++ back
  pub to : c.end ≡ p + length (laid_out c.headers)

-- one header more in front
module _ (t p : ℕ) (o : List ℕ) (c : Chain) (some : t ≡ 0 → ⊥) (fits : header_fits o ≡ true) where
  units_header : units (header_at t p o) ≡ get_or o 0 0
  units_header = let n = length_content o fits in omega arith

  laid_before : Laid (next_type o) (p + header_size o) (behind o) c → Laid t p o (before (header_at t p o) c)
  laid_before l =
      let h = header_at t p o in
      let long = length_content o fits in
      let on : p + header_size o ≡ p + 4 * units h = omega (arith, units_header) in
      record {
        first = refl;
        places = (some, omega arith, refl, subst (λ m. InPlace m c.headers) on l.places);
        back = l.back;
        octets = cc (header_apart o fits, units_header, l.octets, l.first, append_assoc (header_content o) (announced c.headers ∷ laid_out c.headers) l.back);
        to = simp length-append (omega (arith, l.to));
      }

-- where the walk accepts, its headers are laid out in the octets
laid_turn
    : (turns t p : ℕ) (o : List ℕ) (c : Chain)
    → ((d : Chain) → chain_from turns (next_type o) (p + header_size o) (behind o) ≡ gives d
    → Laid (next_type o) (p + header_size o) (behind o) d)
    → (t ≡ 0) ⊎ (t ≡ 0 → ⊥) → (header_fits o ≡ true) ⊎ (header_fits o ≡ false)
    → chain_from (suc turns) t p o ≡ gives c → Laid t p o c
laid_turn turns t p o c more (inl z) f e =
    subst (Laid t p o) (gives_inj (sym (chain_ends turns t p o z) ∙ e))
    (record { first = z; places = tt; back = o; octets = refl; to = omega arith })
laid_turn turns t p o c more (inr some) (inl fits) e =
    let b = bound (chain_from turns (next_type o) (p + header_size o) (behind o)) _ c (sym (chain_goes_on turns t p o some fits) ∙ e) in
    subst (Laid t p o) (gives_inj b.2) (laid_before t p o b.0 some fits (more b.0 b.1))
laid_turn turns t p o c more (inr some) (inr f) e = never (sym e ∙ chain_stops turns t p o some f)

chain_laid : (turns t p : ℕ) (o : List ℕ) (c : Chain) → chain_from turns t p o ≡ gives c → Laid t p o c
unfolding chain_from
chain_laid zero t p o c e = never (sym e)
chain_laid (suc turns) t p o c e =
    let more = chain_laid turns (next_type o) (p + header_size o) (behind o) in
    laid_turn turns t p o c more (cases_eq t 0) (cases_Bool (header_fits o)) e

-- one header more in front of what the walk meets
chain_before
    : (turns p t : ℕ) (h : HeaderMeaning) (r : List ℕ) (c : Chain)
    → (h.type ≡ 0 → ⊥) → (length h.content + 2) % 4 ≡ 0 → h.place ≡ p
    → chain_from turns t (p + 4 * units h) r ≡ gives c
    → chain_from (suc turns) h.type p (units h ∷ (h.content ++ t ∷ r)) ≡ gives (before h c)
chain_before turns p t h r c some quarter at rest =
    let n = units h in
    let o = n ∷ (h.content ++ t ∷ r) in
    let whole : 4 * n ≡ length h.content + 2 = omega arith in
    let content = header_content_made n t h.content r whole in
    let meets : chain_from turns (next_type o) (p + 4 * n) (behind o) ≡ gives c =
    cc (next_type_made n t h.content r whole, behind_made n t h.content r whole, rest) in
    chain_goes_on turns h.type p o some (header_fits_made n t h.content r whole)
    ∙ bind_gives (chain_from turns (next_type o) (p + 4 * n) (behind o)) _ c meets
    ∙ ap (λ l. gives (before (record { type = h.type; place = p; content = l }) c)) content
    ∙ ap (λ q. gives (before (record { type = h.type; place = q; content = h.content }) c)) (sym at)

-- headers that are laid out are what the walk meets
laid_chain
    : (turns p : ℕ) (hs : List HeaderMeaning) (back : List ℕ) → length (laid_out hs) ≤ turns → InPlace p hs
    → chain_from (suc turns) (announced hs) p (laid_out hs ++ back) ≡ gives (record { headers = hs; end = p + length (laid_out hs) })
laid_chain turns p [] back few i = chain_ends turns 0 p back refl ∙ ap (λ e. gives (record { headers = []; end = e })) (omega arith)
laid_chain zero p (h ∷ hs) back few i = absurd (let b : ⊥ = omega arith in b)
laid_chain (suc turns) p (h ∷ hs) back few i =
    let long = length-append h.content (announced hs ∷ laid_out hs) in
    let to : p + 4 * units h + length (laid_out hs) ≡ p + length (laid_out (h ∷ hs)) = omega (arith, i.1) in
    let rest = laid_chain turns (p + 4 * units h) hs back (omega arith) i.3 in
    ap (λ l. chain_from (suc (suc turns)) h.type p (units h ∷ l)) (append_assoc h.content (announced hs ∷ laid_out hs) back)
    ∙ chain_before (suc turns) p (announced hs) h (laid_out hs ++ back) _ i.0 i.1 i.2 rest
    ∙ ap (λ e. gives (record { headers = h ∷ hs; end = e })) to

-- a packet's chain is what is laid out from octet 12 on
laid_is_chain : (k : List ℕ) (c : Chain) → 12 ≤ length k → Laid (get_or k 11 0) 12 (drop 12 k) c → IsChain k c
laid_is_chain k c least l =
    let long = length-append (laid_out c.headers) l.back in
    let all : length k ≡ 12 + length (laid_out c.headers ++ l.back) = omega (arith, length-drop 12 k, ap length l.octets) in
    record {
      first = l.first;
      places = l.places;
      octets = grind (arith, common_steps, l.octets, l.to);
      inside = (omega (arith, l.to), omega (arith, l.to));
    }

pub chain_is_laid : (k : List ℕ) (c : Chain) → IsChain k c → Laid (get_or k 11 0) 12 (drop 12 k) c
chain_is_laid k c i =
    record {
      first = i.first;
      places = i.places;
      back = drop (c.end - 12) (drop 12 k);
      octets = sym (take-append-drop (c.end - 12) (drop 12 k)) ∙ ap (λ l. l ++ drop (c.end - 12) (drop 12 k)) i.octets;
      to = omega (arith, length-between k 12 c.end i.inside.1, ap length i.octets, i.inside.0);
    }

is_chain_gives : (k : List ℕ) (c : Chain) → length k ≤ 9216 → IsChain k c → chain_of k ≡ gives c
unfolding chain_of
is_chain_gives k c most i =
    let l = chain_is_laid k c i in
    let few : length (laid_out c.headers) ≤ 9215 = omega (arith, i.inside.1, l.to) in
    let meets = laid_chain 9215 12 c.headers l.back few l.places in
    let same : chain_of k ≡ gives (record { headers = c.headers; end = 12 + length (laid_out c.headers) }) = cc (l.first, l.octets, meets) in
    same ∙ ap (λ e. gives (record { headers = c.headers; end = e })) (sym l.to)

pub walk_is_chain : WalkIsChain
unfolding chain_of
walk_is_chain k least most c =
    ((λ e. laid_is_chain k c least (chain_laid 9216 (get_or k 11 0) 12 (drop 12 k) c e)), is_chain_gives k c most)
