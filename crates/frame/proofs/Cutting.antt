-- A frame that is cut is just the pieces of its items, each fit, and the tail; and such pieces are cut back.
use Rattle.std.proofs.Common.{◌≡◌, ℕ, zero, suc, ◌+◌, ◌<◌, Bool, true, cond, eqb, List, [], ◌∷◌, ◌++◌, length, take, drop, sym, refl, ap, ◌∙◌, subst, ap₂, append_assoc, append-nil, add-zero, arith, length-append, take-append-drop, length-take-le}
use lib.ListN.{get_or-append}
use Rattle.std.proofs.lemmas.Bool.{leb-true, le-leb}
use Rattle.std.proofs.lemmas.List.{take_at, drop_at}
use Rattle.base.specs.Answers.{gives}
use Rattle.base.specs.Octets.{bit, big_endian}
use Rattle.base.proofs.Asking.{ask_yes, asked_yes, gives_inj}
use Rattle.layout.specs.Items.{ItemGovernor, ungoverned, governed_by, ItemMeaning, item_at}
use Rattle.frame.specs.Pieces.{joined, piece, present_by, size_of, within, Cut, cut_from}

-- a piece that is the item's, where cs has the pieces of the items that it may hang on
pub record Fit (i : ItemMeaning) (cs : List (List ℕ)) (c : List ℕ) : Type 0 where
  pub long : length c ≡ size_of i cs
  pub small : within i c ≡ true

abbrev pub Good : List ItemMeaning → List (List ℕ) → List (List ℕ) → Type 0
Good [] seen [] = Unit {0}
Good [] seen (c ∷ cs) = ⊥
Good (i ∷ is) seen [] = ⊥
Good (i ∷ is) seen (c ∷ cs) = Fit i seen c × Good is (seen ++ c ∷ []) cs

snoc : (a : List (List ℕ)) (c : List ℕ) (b : List (List ℕ)) → (a ++ c ∷ []) ++ b ≡ a ++ c ∷ b
snoc a c b = append_assoc a (c ∷ []) b

pub cut_good : (is : List ItemMeaning) (seen : List (List ℕ)) (p : ℕ) (o : List ℕ) (w : Cut) → cut_from is seen p o ≡ gives w
    → (cs : List (List ℕ)) × (w.pieces ≡ seen ++ cs) × (o ≡ joined cs ++ w.tail) × Good is seen cs
unfolding cut_from
cut_good [] seen p o w e =
    let a : ◌≡◌ {A = Cut} (record { pieces = seen; tail = o }) w = gives_inj e in
    ([], ap (λ (c : Cut). c.pieces) (sym a) ∙ sym (append-nil seen), ap (λ (c : Cut). c.tail) a, tt)
cut_good (i ∷ is) seen p o w e =
    let h = asked_yes _ _ _ _ e in
    let k = asked_yes _ _ _ _ h.1 in
    let n : ℕ = size_of i seen in
    let r = cut_good is (seen ++ take n o ∷ []) (p + n) (drop n o) w k.1 in (
      take n o ∷ r.0,
      r.1 ∙ snoc seen (take n o) r.0,
      sym (take-append-drop n o) ∙ ap (λ (x : List ℕ). take n o ++ x) r.2 ∙ sym (append_assoc (take n o) (joined r.0) w.tail),
      (record { long = length-take-le n o (leb-true n (length o) h.0); small = k.0 }, r.3),
    )

pub good_cut : (is : List ItemMeaning) (seen cs : List (List ℕ)) (p : ℕ) (t : List ℕ) → Good is seen cs
    → cut_from is seen p (joined cs ++ t) ≡ gives (record { pieces = seen ++ cs; tail = t })
unfolding cut_from
good_cut [] seen [] p t g = ap (λ (x : List (List ℕ)). gives (record { pieces = x; tail = t })) (sym (append-nil seen))
good_cut [] seen (c ∷ cs) p t g = absurd g
good_cut (i ∷ is) seen [] p t g = absurd g
good_cut (i ∷ is) seen (c ∷ cs) p t g =
    let n : ℕ = size_of i seen in
    let o : List ℕ = joined (c ∷ cs) ++ t in
    let s : o ≡ c ++ (joined cs ++ t) = append_assoc c (joined cs) t in
    let ta : take n o ≡ c = ap (take n) s ∙ take_at c (joined cs ++ t) n g.0.long in
    let dr : drop n o ≡ joined cs ++ t = ap (drop n) s ∙ drop_at c (joined cs ++ t) n g.0.long in
    ask_yes _ _ _ (le-leb n (length o) (omega (arith, g.0.long, ap length s, length-append c (joined cs ++ t))))
    ∙ ask_yes _ _ _ (ap (within i) ta ∙ g.0.small)
    ∙ ap₂ (λ (x : List ℕ) (y : List ℕ). cut_from is (seen ++ x ∷ []) (p + n) y) ta dr
    ∙ good_cut is (seen ++ c ∷ []) cs (p + n) t g.1
    ∙ ap (λ (x : List (List ℕ)). gives (record { pieces = x; tail = t })) (snoc seen c cs)

-- a governor that stands before item n
abbrev pub Before : ℕ → ItemGovernor → Type 0
Before n ungoverned = Unit {0}
Before n (governed_by g b) = g < n

abbrev pub Earlier : ℕ → List ItemMeaning → Type 0
Earlier n is = (j : ℕ) → j < length is → Before (n + j) (item_at is j).governor

-- presence hangs on the governor's bit alone
pub present_at : (g : ItemGovernor) (n : ℕ) (cs ds : List (List ℕ)) → Before n g → ((k : ℕ) → k < n → piece cs k ≡ piece ds k)
    → present_by g cs ≡ present_by g ds
present_at ungoverned n cs ds h e = refl
present_at (governed_by g b) n cs ds h e = ap (λ (c : List ℕ). eqb (bit b (big_endian c)) 1) (e g h)

pub size_same : (i j : ItemMeaning) (cs ds : List (List ℕ)) → i.len ≡ j.len → present_by i.governor cs ≡ present_by j.governor ds → size_of i cs ≡ size_of j ds
size_same i j cs ds l e = ap₂ (λ (b : Bool) (n : ℕ). cond b n 0) e l

pub fit_same : (i : ItemMeaning) (cs ds : List (List ℕ)) (c : List ℕ) → present_by i.governor cs ≡ present_by i.governor ds → Fit i cs c → Fit i ds c
fit_same i cs ds c e f = record { long = f.long ∙ size_same i i cs ds refl e; small = f.small }

pub record Pieces (is : List ItemMeaning) (cs : List (List ℕ)) : Type 0 where
  pub many : length cs ≡ length is
  pub fit : (j : ℕ) → j < length is → Fit (item_at is j) cs (piece cs j)

later : (n : ℕ) (i : ItemMeaning) (is : List ItemMeaning) → Earlier n (i ∷ is) → Earlier (suc n) is
later n i is h j l = subst (λ (m : ℕ). Before m (item_at is j).governor) (omega arith) (h (suc j) (omega arith))

before_add : (n : ℕ) (g : ItemGovernor) → Before (n + 0) g → Before n g
before_add n g h = subst (λ (m : ℕ). Before m g) (add-zero n) h

length_snoc : (a : List (List ℕ)) (c : List ℕ) → length (a ++ c ∷ []) ≡ suc (length a)
length_snoc a c = omega (arith, length-append a (c ∷ []))

front : (a b : List (List ℕ)) (k : ℕ) → k < length a → piece a k ≡ piece (a ++ b) k
front a b k h = sym (get_or-append a b [] k h)

abbrev Fits : List ItemMeaning → List (List ℕ) → List (List ℕ) → Type 0
Fits is all cs = (length cs ≡ length is) × ((j : ℕ) → j < length is → Fit (item_at is j) all (piece cs j))

module _ (i : ItemMeaning) (is : List ItemMeaning) (seen : List (List ℕ)) (c : List ℕ) (cs : List (List ℕ)) (h : Earlier (length seen) (i ∷ is)) where
  same_here : present_by i.governor seen ≡ present_by i.governor (seen ++ c ∷ cs)
  same_here =
      present_at i.governor (length seen) seen (seen ++ c ∷ cs) (before_add (length seen) i.governor (h 0 (omega arith))) (front seen (c ∷ cs))

  more : Fit i seen c → Fits is ((seen ++ c ∷ []) ++ cs) cs → (j : ℕ) → j < suc (length is) → Fit (item_at (i ∷ is) j) (seen ++ c ∷ cs) (piece (c ∷ cs) j)
  more f r zero l = fit_same i seen (seen ++ c ∷ cs) c same_here f
  more f r (suc j) l = subst (λ (x : List (List ℕ)). Fit (item_at is j) x (piece cs j)) (snoc seen c cs) (r.1 j (omega arith))

  next : Earlier (length (seen ++ c ∷ [])) is
  next = subst (λ (n : ℕ). Earlier n is) (sym (length_snoc seen c)) (later (length seen) i is h)

good_fits : (is : List ItemMeaning) (seen cs : List (List ℕ)) → Earlier (length seen) is → Good is seen cs → Fits is (seen ++ cs) cs
good_fits [] seen [] h g = (refl, λ j l. absurd (omega arith))
good_fits [] seen (c ∷ cs) h g = absurd g
good_fits (i ∷ is) seen [] h g = absurd g
good_fits (i ∷ is) seen (c ∷ cs) h g =
    let r : Fits is ((seen ++ c ∷ []) ++ cs) cs = good_fits is (seen ++ c ∷ []) cs (next i is seen c cs h) g.1 in
    (ap suc r.0, more i is seen c cs h g.0 r)

fits_good : (is : List ItemMeaning) (seen cs : List (List ℕ)) → Earlier (length seen) is → Fits is (seen ++ cs) cs → Good is seen cs
fits_good [] seen [] h g = tt
fits_good [] seen (c ∷ cs) h g = omega (arith, g.0)
fits_good (i ∷ is) seen [] h g = omega (arith, g.0)
fits_good (i ∷ is) seen (c ∷ cs) h g = (
  fit_same i (seen ++ c ∷ cs) seen c (sym (same_here i is seen c cs h)) (g.1 0 (omega arith)),
  fits_good is (seen ++ c ∷ []) cs (next i is seen c cs h) (
    omega (arith, g.0),
    λ j l. subst (λ (x : List (List ℕ)). Fit (item_at is j) x (piece cs j)) (sym (snoc seen c cs)) (g.1 (suc j) (omega arith)),
  ),
)

-- what is read is the pieces, each fit, and the tail
pub read_pieces : (is : List ItemMeaning) (p : ℕ) (o : List ℕ) (w : Cut) → Earlier 0 is → cut_from is [] p o ≡ gives w
    → (o ≡ joined w.pieces ++ w.tail) × Pieces is w.pieces
read_pieces is p o w h e =
    let r = cut_good is [] p o w e in
    let f : Fits is r.0 r.0 = good_fits is [] r.0 h r.3 in (
      r.2 ∙ ap (λ (x : List (List ℕ)). joined x ++ w.tail) (sym r.1),
      subst (Pieces is) (sym r.1) (record { many = f.0; fit = f.1 }),
    )

-- and pieces that are fit are read
pub pieces_read : (is : List ItemMeaning) (cs : List (List ℕ)) (p : ℕ) (t : List ℕ) → Earlier 0 is → Pieces is cs
    → cut_from is [] p (joined cs ++ t) ≡ gives (record { pieces = cs; tail = t })
pieces_read is cs p t h g = good_cut is [] cs p t (fits_good is [] cs h (g.many, g.fit))
