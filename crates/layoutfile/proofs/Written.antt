-- Files are what is written: the law of Laws.antt.
use Rattle.std.proofs.Common.{◌≡◌, ℕ, zero, suc, ◌+◌, ◌*◌, ◌^◌, ◌<◌, ◌≤◌, true, List, [], ◌∷◌, ◌++◌, map, length, get_or, take, drop, Some, sym, refl, ap, ◌∙◌, subst, ap₂, le_of_suc-le-suc, not-suc-le-zero, arith, lit<, length-append, length-drop, take-append-drop, length-take}
use Rattle.std.specs.List.{slice_get}
use Rattle.std.proofs.lemmas.List.{take_at, drop_at, length-take-le, take_all, nil_from_length}
use Rattle.std.proofs.lemmas.Bool.Decides.{nat_tests}
use Rattle.base.specs.Answers.{Answer, gives}
use Rattle.base.specs.Octets.{Octets, big_endian, octets_of}
use Rattle.base.proofs.Numbers.{big_endian_small}
use Rattle.base.proofs.Writing.{octets_at, octets_take, octets_drop, octets_append, big_endian-octets_of, octets_of-big_endian, octets_octets_of}
use Rattle.layout.specs.declared.entry.RawEntry.{RawEntry}
use Rattle.layout.specs.declared.maker.RawItem.{RawItem}
use Rattle.layout.proofs.Firsts.{each_yes, all_yes}
use Rattle.layoutfile.specs.Files.{stated_type, stated_count, starts_well, well_sized, sixteens, entry_in, entries, is_item, first_no_item, file_questions, items_of, items_if, type_if}
use Rattle.layoutfile.specs.Laws.{head, front, written, all_written, file_of, Writable, Listed, layout_of, ReadsBack, IsWritten, FilesAreWritten}
use Rattle.layoutfile.proofs.Entries.{length-entries, kept_names}
use Rattle.layoutfile.proofs.Passing.{passed, Passes, passes_from, long, half_octet}

-- an entry is written in 16 octets, which give it back
length-written : (e : RawEntry) → length e.name.letters ≡ 3 → length (written e) ≡ 16
length-written e n = omega (arith, length-append e.name.letters (octets_of 8 e.item.limit))

entry_back : (e : RawEntry) → Writable e → entry_in (written e) ≡ e
entry_back e w = back e.item e.name.letters w.named w.limit
  where
    back : (i : RawItem) (n : List ℕ) → length n ≡ 3 → i.limit < 2 ^ 64
        → entry_in (written (record { item = i; name = record { letters = n } })) ≡ record { item = i; name = record { letters = n } }
    back i [] l h = absurd (omega arith)
    back i (a ∷ []) l h = absurd (omega arith)
    back i (a ∷ b ∷ []) l h = absurd (omega arith)
    back i (a ∷ b ∷ c ∷ []) l h =
        ap (λ (v : ℕ). record { item = record { kind = i.kind; governor = i.governor; bit = i.bit; length = i.length; mask = i.mask; limit = v }; name = record { letters = a ∷ b ∷ c ∷ [] } })
        (big_endian-octets_of 8 i.limit h)
    back i (a ∷ b ∷ c ∷ d ∷ n) l h = absurd (omega arith)

octets_written : (e : RawEntry) → Writable e → Octets (written e)
octets_written e w = octets_append (front e) (octets_of 8 e.item.limit) w.octets (octets_octets_of 8 e.item.limit w.limit)

-- and so are many, one after another
abbrev Each : List RawEntry → Type 0
Each es = (i : ℕ) (e : RawEntry) → Some e ≡ slice_get es i → Writable e

length_all : (es : List RawEntry) → Each es → length (all_written es) ≡ 16 * length es
length_all [] w = refl
length_all (e ∷ es) w =
    let a : length (written e ++ all_written es) ≡ length (written e) + length (all_written es) = length-append (written e) (all_written es) in
    let b : length (written e) ≡ 16 = length-written e (w 0 e refl).named in
    let c : length (all_written es) ≡ 16 * length es = length_all es (λ i x q. w (suc i) x q) in
    omega arith

all_back : (es : List RawEntry) → Each es → map entry_in (sixteens (length es) (all_written es)) ≡ es
all_back [] w = refl
all_back (e ∷ es) w =
    let l : length (written e) ≡ 16 = length-written e (w 0 e refl).named in
    ap₂ ◌∷◌ (ap entry_in (take_at (written e) (all_written es) 16 l) ∙ entry_back e (w 0 e refl))
    (ap (λ (r : List ℕ). map entry_in (sixteens (length es) r)) (drop_at (written e) (all_written es) 16 l) ∙ all_back es (λ i x q. w (suc i) x q))

octets_all : (es : List RawEntry) → Each es → Octets (all_written es)
octets_all [] w = tt
octets_all (e ∷ es) w =
    octets_append (written e) (all_written es) (octets_written e (w 0 e refl)) (octets_all es (λ i x q. w (suc i) x q))

-- what is written is read back
module _ (t : ℕ) (es : List RawEntry) (h : t ≤ 15) (l : Listed es) where
  starts : starts_well (file_of t es) ≡ true
  starts = grind (arith, nat_tests)

  sized : well_sized (file_of t es) ≡ true
  sized =
      let n : length (file_of t es) ≡ 8 + 16 * length es = omega (arith, length_all es l.writable) in
      let some : 1 ≤ length es = l.some in
      let most : length es ≤ 64 = l.most in
      grind (arith, nat_tests)

  same : entries (file_of t es) ≡ es
  same = all_back es l.writable

  accepted : file_questions (file_of t es) ≡ gives tt
  accepted = sym (passed (file_of t es) (sym starts) (sym sized) (ap first_no_item same ∙ all_yes is_item es l.items ∙ ap length (sym same)))

  reads_back : ReadsBack t es
  reads_back =
      record {
        octets = (lit< tt, (lit< tt, (lit< tt, (lit< tt, (lit< tt, (omega arith, (omega (arith, l.most), (lit< tt, octets_all es l.writable))))))));
        passes = accepted;
        type = refl;
        entries_back = same;
        meaning =
            ap (λ (a : Answer (Unit {0})). record { pdu_type = type_if a (file_of t es); items = map (λ i. i.item) (items_if a (file_of t es)) }) accepted
            ∙ ap (layout_of t) same;
        names =
            ap (λ (a : Answer (Unit {0})). map (λ i. i.name) (items_if a (file_of t es))) accepted
            ∙ ap (λ (r : List RawEntry). map (λ i. i.name) (items_of r)) same
            ∙ kept_names es l.items;
      }

-- the first n octets, one by one
abbrev tab : ℕ → (ℕ → ℕ) → List ℕ
tab zero f = []
tab (suc n) f = f 0 ∷ tab n (λ i. f (suc i))

take_tab : (n : ℕ) (c : List ℕ) → n ≤ length c → take n c ≡ tab n (λ i. get_or c i 0)
take_tab zero c h = refl
take_tab (suc n) [] h = absurd (not-suc-le-zero h)
take_tab (suc n) (o ∷ c) h = ap (λ (r : List ℕ). o ∷ r) (take_tab n c (le_of_suc-le-suc h))

octets_tab : (n : ℕ) (f : ℕ → ℕ) → ((i : ℕ) → f i < 256) → Octets (tab n f)
octets_tab zero f h = tt
octets_tab (suc n) f h = (h 0, octets_tab n (λ i. f (suc i)) (λ i. h (suc i)))

-- 16 octets are written by the entry that is read in them
written_in : (c : List ℕ) → length c ≡ 16 → Octets c → written (entry_in c) ≡ c
written_in c l o = ap₂ ◌++◌ (sym (take_tab 8 c (omega arith))) limit ∙ take-append-drop 8 c
  where
    eight : length (drop 8 c) ≡ 8
    eight = omega (arith, length-drop 8 c)

    limit : octets_of 8 (big_endian (take 8 (drop 8 c))) ≡ drop 8 c
    limit =
        ap (λ (d : List ℕ). octets_of 8 (big_endian d)) (take_all 8 (drop 8 c) (omega (arith, eight)))
        ∙ subst (λ (k : ℕ). octets_of k (big_endian (drop 8 c)) ≡ drop 8 c) eight (octets_of-big_endian (drop 8 c) (octets_drop 8 c o))

writable_in : (c : List ℕ) → Octets c → Writable (entry_in c)
writable_in c o =
    record {
      octets = octets_tab 8 (λ i. get_or c i 0) (octets_at c o);
      named = refl;
      limit = big_endian_small (take 8 (drop 8 c)) (octets_at (take 8 (drop 8 c)) (octets_take 8 (drop 8 c) (octets_drop 8 c o))) (simp length-take (omega arith));
    }

all_in : (n : ℕ) (c : List ℕ) → length c ≡ 16 * n → Octets c → all_written (map entry_in (sixteens n c)) ≡ c
all_in zero c l o = sym (nil_from_length c l)
all_in (suc n) c l o =
    ap₂ ◌++◌ (written_in (take 16 c) (length-take-le 16 c (omega arith)) (octets_take 16 c o))
    (all_in n (drop 16 c) (omega (arith, length-drop 16 c)) (octets_drop 16 c o))
    ∙ take-append-drop 16 c

each_in : (n : ℕ) (c : List ℕ) → Octets c → Each (map entry_in (sixteens n c))
each_in zero c o i e q = absurd (cc)
each_in (suc n) c o zero e q =
    let s : entry_in (take 16 c) ≡ e = cc in subst Writable s (writable_in (take 16 c) (octets_take 16 c o))
each_in (suc n) c o (suc i) e q = each_in n (drop 16 c) (octets_drop 16 c o) i e q

-- what is accepted is written
module _ (os : List ℕ) (o : Octets os) (q : file_questions os ≡ gives tt) where
  p : Passes os
  p = passes_from os q

  count : (1 ≤ stated_count os) × (stated_count os ≤ 64) × (get_or os 7 0 ≡ 0)
  count = let h : well_sized os ≡ true = p.sized in grind (arith, nat_tests)

  magic : (get_or os 0 0 ≡ 85) × (get_or os 1 0 ≡ 80) × (get_or os 2 0 ≡ 76) × (get_or os 3 0 ≡ 0) × (get_or os 4 0 ≡ 1)
  magic = let h : starts_well os ≡ true = p.starts in grind (arith, nat_tests)

  head_is : head (stated_type os) (length (entries os)) ≡ take 8 os
  head_is =
      let m = magic in
      let n : length (entries os) ≡ stated_count os = length-entries os in
      let z : get_or os 7 0 ≡ 0 = count.2 in
      let h = take_tab 8 os (omega (arith, long os p.sized)) in
      cc

  is_written : IsWritten os
  is_written =
      record {
        type = half_octet os p;
        listed =
            record {
              some = omega (arith, count.0, length-entries os);
              most = omega (arith, count.1, length-entries os);
              writable = each_in (stated_count os) (drop 8 os) (octets_drop 8 os o);
              items = each_yes is_item (entries os) p.items;
            };
        whole =
            sym (ap₂ ◌++◌ head_is (all_in (stated_count os) (drop 8 os) (omega (arith, length-drop 8 os, long os p.sized)) (octets_drop 8 os o)) ∙ take-append-drop 8 os);
      }

pub files_are_written : FilesAreWritten
files_are_written = (reads_back, is_written)
