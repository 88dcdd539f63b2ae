-- Questions 23 to 25 one after another, and what a file that passes them means.
use Rattle.std.proofs.Common.{◌≡◌, ℕ, Bool, not, map, ◌+◌, ◌*◌, ◌<◌, ◌≤◌, true, false, List, [], ◌∷◌, length, Some, None, Option, sym, ap, ◌∙◌, subst, arith}
use lib.ListN.{length-map}
use Rattle.std.specs.List.{slice_get, position, position_or_len}
use Rattle.std.proofs.lemmas.List.Sums.{prefix_len-le-length}
use Rattle.std.proofs.lemmas.Bool.{eq-eqb, ne_eqb, eqb-true}
use Rattle.std.proofs.lemmas.Bool.Decides.{nat_tests}
use Rattle.std.proofs.lemmas.Option.{slice_get_past}
use Rattle.std.proofs.lemmas.List.{get_or_past}
use Rattle.base.specs.declared.question.Question.TheVariants as Q
use Rattle.base.specs.Answers.{Answer, refused, gives, no_layout}
use Rattle.base.proofs.Asking.{ask_yes, ask_no, asked_yes}
use Rattle.layout.specs.declared.entry.RawEntry.{RawEntry}
use Rattle.layout.specs.Items.{name_at}
use Rattle.layout.specs.Tables.{NamedItem}
use Rattle.layout.specs.Entries.{entry_accepted}
use Rattle.layout.proofs.Firsts.{each_yes}
use Rattle.layout.proofs.Nths.{get_or-map_from_nth, le_from_nth}
use Rattle.layoutfile.specs.Files.{stated_type, stated_count, starts_well, well_sized, entry_in, entries, is_item, EachIsItem, first_no_item, file_questions, items_of, items_if, file_items, type_if, file_type, file_meaning, file_names}
use Rattle.layoutfile.proofs.Entries.{first_no_found, kept_names, as_many, item_found}

-- what a search says of the first place
found_at : {X : Type 0} (p : X → Bool) (xs : List X) (i : ℕ) → Some i ≡ position p xs → (i ≡ position_or_len p xs) × (i < length xs)
found_at p xs i e = grind (arith, nat_tests)

found_none : {X : Type 0} (p : X → Bool) (xs : List X) → None ≡ position p xs → position_or_len p xs ≡ length xs
found_none p xs e =
    let h : position_or_len p xs ≤ length xs = prefix_len-le-length (λ x. not (p x)) xs in grind (arith, nat_tests)

pub long : (os : List ℕ) → well_sized os ≡ true → length os ≡ 8 + 16 * stated_count os
long os h = grind (arith, nat_tests)

module _ (os : List ℕ) where
  pub refused_23 : false ≡ starts_well os → refused (no_layout 2 Q.FileStart 0) ≡ file_questions os
  unfolding file_questions
  refused_23 h = sym (ask_no _ _ _ (sym h))

  module _ (s : true ≡ starts_well os) where
    pub refused_24 : false ≡ well_sized os → refused (no_layout 2 Q.FileSize 5) ≡ file_questions os
    unfolding file_questions
    refused_24 h = sym (ask_yes _ _ _ (sym s) ∙ ask_no _ _ _ (sym h))

    module _ (w : true ≡ well_sized os) where
      pub passed : first_no_item (entries os) ≡ length (entries os) → gives tt ≡ file_questions os
      unfolding file_questions
      passed q = sym (ask_yes _ _ _ (sym s) ∙ ask_yes _ _ _ (sym w) ∙ ask_yes _ _ _ (eq-eqb (first_no_item (entries os)) (length (entries os)) q))

      -- the entries c, searched for the first that is no item
      module _ (c : List (List ℕ)) (e : map entry_in c ≡ entries os) where
        first : first_no_item (entries os) ≡ position_or_len (λ x. not (is_item (entry_in x))) c
        first = ap first_no_item (sym e) ∙ first_no_found is_item entry_in c

        many : length c ≡ length (entries os)
        many = sym (length-map c entry_in) ∙ ap length e

        pub refused_25 : (i : ℕ) → Some i ≡ position (λ x. not (is_item (entry_in x))) c → refused (no_layout 2 Q.Entry i) ≡ file_questions os
        unfolding file_questions
        refused_25 i p =
            let f = found_at (λ (x : List ℕ). not (is_item (entry_in x))) c i p in
            ap (λ (n : ℕ). refused (no_layout 2 Q.Entry n)) (f.0 ∙ sym first)
            ∙ sym
            (ask_yes _ _ _ (sym s)
            ∙ ask_yes _ _ _ (sym w)
            ∙ ask_no _ _ _ (ne_eqb (first_no_item (entries os)) (length (entries os)) (λ t. absurd (omega (arith, t, f.0, f.1, first, many)))))

        pub none_found : None ≡ position (λ x. not (is_item (entry_in x))) c → gives tt ≡ file_questions os
        none_found p = passed (first ∙ found_none _ c p ∙ many)

-- what the code's answers say, one after another
pub ruleset asking = (refused_23, refused_24, none_found, long)

-- what a file that passes is, answer by answer
pub record Passes (os : List ℕ) : Type 0 where
  pub starts : starts_well os ≡ true
  pub sized : well_sized os ≡ true
  pub items : first_no_item (entries os) ≡ length (entries os)

pub passes_from : (os : List ℕ) → file_questions os ≡ gives tt → Passes os
unfolding file_questions
passes_from os e =
    let a = asked_yes _ _ _ _ e in
    let b = asked_yes _ _ _ _ a.1 in
    let c = asked_yes _ _ _ _ b.1 in
    record { starts = a.0; sized = b.0; items = eqb-true (first_no_item (entries os)) (length (entries os)) c.0 }

module _ (os : List ℕ) (p : Passes os) where
  pub half_octet : stated_type os ≤ 15
  half_octet = let h : well_sized os ≡ true = p.sized in grind (arith, nat_tests)

  pub each : EachIsItem (entries os)
  each = each_yes is_item (entries os) p.items

-- the layout of a file that passes, from its entries
module _ (os : List ℕ) (q : gives tt ≡ file_questions os) where
  passes : Passes os
  passes = passes_from os (sym q)

  pub long_passed : length os ≡ 8 + 16 * stated_count os
  long_passed = long os passes.sized

  pub half_passed : stated_type os ≤ 15
  half_passed = half_octet os passes

  pub type_passed : stated_type os ≡ file_type os
  type_passed = ap (λ (a : Answer (Unit {0})). type_if a os) q

  module _ (es : List RawEntry) (e : es ≡ entries os) where
    pub each_passed : EachIsItem es
    each_passed = subst EachIsItem (sym e) (each os passes)

    pub items_passed : file_items os ≡ items_of es
    items_passed = ap (λ (a : Answer (Unit {0})). items_if a os) (sym q) ∙ ap items_of (sym e)

pub ruleset passing = (long_passed, half_passed, type_passed, each_passed, items_passed)

-- what a layout answers from entries that are all items
module _ (os : List ℕ) (es : List RawEntry) (a : EachIsItem es) (l : file_items os ≡ items_of es) where
  as_long : length es ≡ length (file_meaning os).items
  as_long = sym (length-map (file_items os) (λ (x : NamedItem). x.item) ∙ ap length l ∙ as_many es a)

  names : file_names os ≡ map (λ e. e.name.letters) es
  names = ap (map (λ x. x.name)) l ∙ kept_names es a

  pub counted : (c : List (List ℕ)) → es ≡ map entry_in c → length c ≡ length (file_meaning os).items
  counted c e = sym (length-map c entry_in) ∙ ap length (sym e) ∙ as_long

  module _ (i : ℕ) where
    pub item_here : (e : RawEntry) → Some e ≡ slice_get es i → entry_accepted e ≡ slice_get (file_meaning os).items i
    item_here e q = item_found es a i e q ∙ ap (λ (r : List NamedItem). slice_get (map (λ x. x.item) r) i) (sym l)

    pub item_past : None ≡ slice_get es i → slice_get (file_meaning os).items i ≡ None
    item_past q = slice_get_past _ i (omega (arith, as_long, le_from_nth es i q))

    pub name_here : (e : RawEntry) → Some e ≡ slice_get es i → e.name.letters ≡ name_at (file_names os) i
    name_here e q = sym (ap (λ (ns : List (List ℕ)). name_at ns i) names ∙ get_or-map_from_nth _ es i e _ q)

    pub name_past : None ≡ slice_get es i → 0 ∷ 0 ∷ 0 ∷ [] ≡ name_at (file_names os) i
    name_past q = sym (get_or_past (file_names os) i _ (omega (arith, ap length names, length-map es (λ (e : RawEntry). e.name.letters), le_from_nth es i q)))

    pub none_past : (o : Option RawEntry) → o ≡ slice_get es i → length (file_meaning os).items ≤ i → o ≡ None
    none_past o q h = q ∙ slice_get_past es i (omega (arith, as_long))

pub ruleset naming = (name_here, name_past, none_past)
