-- The walk, a header at a time: what it has seen, and that the rest of it gives what the whole gives.
use Rattle.std.proofs.Common.{◌≡◌, ℕ, suc, ◌+◌, ◌-◌, ◌≤◌, List, [], ◌∷◌, length, get_or, drop, sym, refl, ap, ◌∙◌, arith, length-drop}
use Rattle.std.proofs.lemmas.Bool.Decides.{nat_tests}
use Rattle.std.proofs.lemmas.Grind.{common_steps}
use Rattle.base.specs.declared.refusal.Refusal.{Refusal}
use Rattle.base.specs.declared.question.Question.TheVariants as Q
use Rattle.base.specs.Answers.{Answer, refused, gives, bind, no_to}
use Rattle.base.proofs.Asking.{bind_gives, bind_refused}
use Rattle.packet.specs.Chains.{HeaderMeaning, Chain, header_size, behind, header_at, size_answer, before, chain_from, chain_of}
use Rattle.packet.specs.Walks.{Seen, nothing, one, second, seen_after, only_after, walk_on, walk_of}
use Rattle.packet.proofs.Headers.{fits_size, size_gives, size_refused}
use Rattle.packet.proofs.Chains.{chain_ends, chain_stops, chain_goes_on}

only_after-more
    : (s : Seen) (h : HeaderMeaning) (hs : List HeaderMeaning) (e : ℕ)
    → only_after s (h ∷ hs) e ≡ only_after (seen_after s h) hs e
only_after-more nothing h hs e = grind (arith, nat_tests)
only_after-more (one g) h hs e = grind (arith, nat_tests)
only_after-more (second p) h hs e = refl

walk_on-before
    : (s : Seen) (k : List ℕ) (h : HeaderMeaning) (rest : Answer Chain)
    → walk_on s k (bind rest (λ c. gives (before h c))) ≡ walk_on (seen_after s h) k rest
unfolding bind walk_on
walk_on-before s k h (refused r) = refl
walk_on-before s k h (gives c) =
    ap (λ a. gives (record { only = a; end = c.end; inner = drop c.end k })) (only_after-more s h c.headers c.end)

-- A walk over the packet k that has come to the place p with s seen: o are the octets from there on, t is the type of
-- the next header, and turns enough are left.
pub record Going (k : List ℕ) (t p : ℕ) (o : List ℕ) (s : Seen) : Type 0 where
  pub within : p ≤ length k
  pub rest : o ≡ drop p k
  pub turns : ℕ
  pub few : length o ≤ turns
  pub same : walk_of k ≡ walk_on s k (chain_from (suc turns) t p o)

pub going_starts : (k o : List ℕ) → 12 ≤ length k → length k ≤ 9216 → o ≡ drop 12 k → Going k (get_or k 11 0) 12 o nothing
unfolding chain_of
going_starts k o least most rest =
    record {
      within = least;
      rest = rest;
      turns = 9215;
      few = omega (arith, ap length rest, length-drop 12 k);
      same = ap (λ l. walk_on nothing k (chain_from 9216 (get_or k 11 0) 12 l)) (sym rest);
    }

module _ (k : List ℕ) (t p : ℕ) (o : List ℕ) (s : Seen) (g : Going k t p o s) where
  pub going_ends : t ≡ 0 → walk_of k ≡ gives (record { only = only_after s [] p; end = p; inner = o })
  unfolding walk_on
  going_ends z =
      g.same
      ∙ bind_gives (chain_from (suc g.turns) t p o) _ _ (chain_ends g.turns t p o z)
      ∙ ap (λ l. gives (record { only = only_after s [] p; end = p; inner = l })) (sym g.rest)

  pub going_stops : (r : Refusal) → (t ≡ 0 → ⊥) → refused r ≡ size_answer o p → walk_of k ≡ refused r
  unfolding walk_on
  going_stops r some asked =
      let a = size_refused o p r asked in
      g.same
      ∙ bind_refused (chain_from (suc g.turns) t p o) _ (no_to Q.Header p) (chain_stops g.turns t p o some a.0)
      ∙ ap refused (sym a.1)

  -- a yes to question 9: n octets are there
  pub going_fits
      : (n : ℕ) → gives n ≡ size_answer o p
      → (4 ≤ n) × (n ≤ length o) × (length o ≡ length k - p) × (length (behind o) + n ≡ length o)
  going_fits n asked =
      let a = size_gives o p n asked in
      let f = fits_size o a.0 in
      let e = a.1 in
      let left = length-drop (header_size o) o in
      (omega arith, omega arith, ap length g.rest ∙ length-drop p k, omega arith)

  -- one header more, of n octets
  pub going_more
      : (n : ℕ) (back : List ℕ) (now : Seen) → (t ≡ 0 → ⊥) → gives n ≡ size_answer o p
      → back ≡ behind o → now ≡ seen_after s (header_at t p o) → Going k (get_or o (n - 1) 0) (p + n) back now
  going_more n back now some asked rest seen =
      let a = size_gives o p n asked in
      let size = a.1 in
      let f = going_fits n asked in
      let long = ap length rest in
      let turns : g.turns ≡ suc (g.turns - 1) = omega (arith, g.few) in
      let on = ap (walk_on s k) (chain_goes_on g.turns t p o some a.0) ∙ walk_on-before s k (header_at t p o) _ in
      let same = g.same in
      record {
        within = omega (arith, g.within);
        rest = grind (arith, common_steps, g.rest);
        turns = g.turns - 1;
        few = omega (arith, g.few);
        same = cc;
      }
