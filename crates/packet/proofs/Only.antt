-- Question 10: the one container among the headers of a chain.
use Rattle.std.proofs.Common.{◌≡◌, ℕ, ◌≢◌, ◌⊎◌, List, [], ◌∷◌, ◌++◌, sym, ap, ◌∙◌, subst, inl, inr, arith}
use Rattle.std.specs.List.{AllByRecursion as All}
use Rattle.std.proofs.lemmas.Bool.Decides.{nat_tests}
use Rattle.base.specs.Answers.{gives}
use Rattle.base.proofs.Asking.{never, gives_inj}
use Rattle.packet.specs.Chains.{HeaderMeaning}
use Rattle.packet.specs.Containers.{no_second, only_container}
use Rattle.packet.specs.Laws.{NoContainer}

pub record Only (hs : List HeaderMeaning) (h : HeaderMeaning) : Type 0 where
  pub before : List HeaderMeaning
  pub behind : List HeaderMeaning
  pub headers : hs ≡ before ++ h ∷ behind
  pub type : h.type ≡ 133
  pub no_other : NoContainer before × NoContainer behind

-- one header of those behind a container
next_other : (g k : HeaderMeaning) (ks : List HeaderMeaning) (h : HeaderMeaning)
    → no_second g (k ∷ ks) ≡ gives h → (k.type ≢ 133) × (no_second g ks ≡ gives h)
next_other g k ks h e = (grind (arith, nat_tests), grind (arith, nat_tests))

no_other_behind : (g : HeaderMeaning) (hs : List HeaderMeaning) (h : HeaderMeaning) → no_second g hs ≡ gives h → (g ≡ h) × NoContainer hs
no_other_behind g [] h e = (gives_inj e, tt)
no_other_behind g (k ∷ ks) h e =
    let next = next_other g k ks h e in
    let more = no_other_behind g ks h next.1 in
    (more.0, (next.0, more.1))

-- one header of a chain
next_only : (k : HeaderMeaning) (ks : List HeaderMeaning) (e : ℕ) (h : HeaderMeaning) → only_container (k ∷ ks) e ≡ gives h
    → ((k.type ≡ 133) × (no_second k ks ≡ gives h)) ⊎ ((k.type ≢ 133) × (only_container ks e ≡ gives h))
next_only k ks e h q = grind (arith, nat_tests)

pub only : (hs : List HeaderMeaning) (e : ℕ) (h : HeaderMeaning) → only_container hs e ≡ gives h → Only hs h
only [] e h q = never (sym q)
only (k ∷ ks) e h q =
    elim (next_only k ks e h q) [
      | inl (type, alone) ↦
          let a = no_other_behind k ks h alone in
          record {
            before = [];
            behind = ks;
            headers = ap (λ (x : HeaderMeaning). x ∷ ks) a.0;
            type = ap (λ (x : HeaderMeaning). x.type) (sym a.0) ∙ type;
            no_other = (tt, a.1);
          }
      | inr (other, more) ↦
          let r = only ks e h more in
          record {
            before = k ∷ r.before;
            behind = r.behind;
            headers = ap (λ (x : List HeaderMeaning). k ∷ x) r.headers;
            type = r.type;
            no_other = ((other, r.no_other.0), r.no_other.1);
          }
    ]

-- what holds of each header holds of the only container
has_between : (P : HeaderMeaning → Type 0) (before behind : List HeaderMeaning) (h : HeaderMeaning) → All P (before ++ h ∷ behind) → P h
has_between P [] behind h all = all.0
has_between P (k ∷ ks) behind h all = has_between P ks behind h all.1

pub only_has : (P : HeaderMeaning → Type 0) (hs : List HeaderMeaning) (h : HeaderMeaning) → All P hs → Only hs h → P h
only_has P hs h all o = has_between P o.before o.behind h (subst (All P) o.headers all)
