-- The published uplink layouts are a pile, by one computed test over each two tables.
use Rattle.std.proofs.Common.{◌≡◌, ℕ, zero, suc, ◌<◌, ◌≤◌, List, [], ◌∷◌, length, refl, inl, inr, arith, lit≤}
use lib.Bits.{bit_and}
use Rattle.layout.specs.declared.table.Published.{Published}
use Rattle.layout.specs.declared.table.Published.TheVariants.{Ul161, Ul163, Ul19}
use Rattle.layout.specs.Items.{ItemKind, ItemGovernor, ItemMeaning, item_at}
use Rattle.layout.specs.Tables.{published_items, published_meaning}
use Rattle.layout.proofs.Tabled.{tables_stand}
use Rattle.pile.specs.Extends.{LawfulLayout, Alike, HangsAbove, Extends, UplinksArePile}

-- the items of us start with those of is, alike
abbrev Alikes : List ItemMeaning → List ItemMeaning → Type 0
Alikes [] us = Unit {0}
Alikes (i ∷ is) [] = ⊥
Alikes (i ∷ is) (u ∷ us) = Alike i u × Alikes is us

alikes_at : (is us : List ItemMeaning) → Alikes is us → (j : ℕ) → j < length is → Alike (item_at is j) (item_at us j)
alikes_at [] us m j l = absurd (omega arith)
alikes_at (i ∷ is) [] m j l = absurd m
alikes_at (i ∷ is) (u ∷ us) m zero l = m.0
alikes_at (i ∷ is) (u ∷ us) m (suc j) l = alikes_at is us m.1 j (omega arith)

-- the items of us past the first n hang above
abbrev Hang : List ItemMeaning → ℕ → List ItemMeaning → Type 0
Hang low n [] = Unit {0}
Hang low zero (u ∷ us) = HangsAbove low u.governor × Hang low zero us
Hang low (suc n) (u ∷ us) = Hang low n us

hang_at : (low : List ItemMeaning) (n : ℕ) (us : List ItemMeaning) → Hang low n us → (j : ℕ) → n ≤ j → j < length us → HangsAbove low (item_at us j).governor
hang_at low n [] m j k l = absurd (omega arith)
hang_at low zero (u ∷ us) m zero k l = m.0
hang_at low zero (u ∷ us) m (suc j) k l = hang_at low zero us m.1 j (omega arith) (omega arith)
hang_at low (suc n) (u ∷ us) m zero k l = absurd (omega arith)
hang_at low (suc n) (u ∷ us) m (suc j) k l = hang_at low n us m j (omega arith) (omega arith)

-- two items that differ at most in their masks
al : {k : ItemKind} {g : ItemGovernor} {n lim a b : ℕ} → bit_and a b ≡ a
    → Alike (record { kind = k; governor = g; len = n; mask = a; limit = lim }) (record { kind = k; governor = g; len = n; mask = b; limit = lim })
al e = record { kind = refl; governor = refl; len = refl; limit = refl; keeps = e }

pub published-lawful : (p : Published) → LawfulLayout (published_meaning p)
published-lawful p = record { items = (tables_stand p).0; passes = (tables_stand p).1 }

pub uplinks_are_pile : UplinksArePile
uplinks_are_pile = (first, (second, published-lawful Ul19))
  where
    first : Extends (published_meaning Ul161) (published_meaning Ul163)
    first =
        record {
          below = published-lawful Ul161;
          above = published-lawful Ul163;
          type = refl;
          first = lit≤ tt;
          alike = alikes_at (published_items Ul161) (published_items Ul163) (al refl, (al refl, (al refl, (al refl, (al refl, (al refl, (al refl, (al refl, tt))))))));
          further = hang_at (published_items Ul161) 8 (published_items Ul163) (inr refl, tt);
        }

    second : Extends (published_meaning Ul163) (published_meaning Ul19)
    second =
        record {
          below = published-lawful Ul163;
          above = published-lawful Ul19;
          type = refl;
          first = lit≤ tt;
          alike = alikes_at (published_items Ul163) (published_items Ul19) (al refl, (al refl, (al refl, (al refl, (al refl, (al refl, (al refl, (al refl, (al refl, tt)))))))));
          further =
              hang_at (published_items Ul163) 9 (published_items Ul19)
              (inr refl, (inl (lit≤ tt), (inl (lit≤ tt), (inl (lit≤ tt), (inl (lit≤ tt), (inl (lit≤ tt), tt))))));
        }
