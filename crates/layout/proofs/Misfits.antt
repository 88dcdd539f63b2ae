-- Question 3 item by item, by the masks of the items before.
use Rattle.std.proofs.Common.{◌≡◌, ℕ, suc, ◌+◌, ◌<◌, ◌≤◌, Bool, true, false, List, [], ◌∷◌, ◌++◌, map, length, take, drop, Some, refl, ap, ◌∙◌, add-one, arith, length-take, length-take-le, get_or-take, below_none, below_more}
use native.Mathlib.Nat.{zero-div}
use lib.ListN.{length-map}
use Rattle.std.specs.List.{slice_get}
use Rattle.std.proofs.lemmas.Bool.Decides.{nat_tests}
use Rattle.std.proofs.lemmas.List.{drop_all, length_push, map_push, get_or-map}
use Rattle.base.specs.Answers.{first_no}
use Rattle.base.specs.Octets.{bit}
use Rattle.layout.specs.Items.{ItemGovernor, ungoverned, governed_by, ItemMeaning, may_exist, is_bits, item_at, no_item}
use Rattle.layout.specs.Questions.{governor_fits, governors_fit, first_misfit}
use Rattle.layout.specs.Masks.{governor_fits_masks}
use Rattle.layout.specs.Misfits.{AllFit, MisfitsFirst}
use Rattle.layout.proofs.Nths.{drop_at_nth, take_to_nth, lt_from_nth, get_or-from_nth}

-- the first n items may exist
abbrev MadeBelow : List ItemMeaning → ℕ → Type 0
MadeBelow is n = (j : ℕ) → j < n → may_exist (item_at is j) ≡ true

-- a number has no named bit, so a named bit is one of a bits octet
is_bits_if_named : (i : ItemMeaning) (b : ℕ) → may_exist i ≡ true → bit b i.mask ≡ 1 → is_bits i.kind ≡ true
is_bits_if_named i b m e = grind (arith, nat_tests, zero-div)

pub masks_fit : (is : List ItemMeaning) (n : ℕ) (g : ItemGovernor) → MadeBelow is n → n ≤ length is
    → governor_fits_masks g (map (λ i. i.mask) (take n is)) ≡ governor_fits is n g
masks_fit is n ungoverned m h = refl
masks_fit is n (governed_by g b) m h =
    grind (arith, nat_tests, is_bits_if_named (item_at is g) b, m g, get_or-take n is g no_item, length-map, length-take-le n is h, get_or-map (λ (i : ItemMeaning). i.mask) (take n is) g no_item 0)

-- the first i items may exist and fit, and ms has their masks
pub record Fitted (is : List ItemMeaning) (i : ℕ) (ms : List ℕ) : Type 0 where
  pub so_far : first_misfit is ≡ i + first_no (governors_fit is i (drop i is))
  pub made : MadeBelow is i
  pub masks : ms ≡ map (λ (x : ItemMeaning). x.mask) (take i is)
  pub each : length ms ≡ i

pub fitted_start : (is : List ItemMeaning) (i : ℕ) (ms : List ℕ) → i ≡ 0 → ms ≡ [] → Fitted is i ms
fitted_start is i ms a b = rw (a, b) (record { so_far = omega arith; made = below_none _; masks = refl; each = refl })

module _ (is : List ItemMeaning) (i : ℕ) (ms : List ℕ) (x : ItemMeaning) (f : Fitted is i ms) (e : Some x ≡ slice_get is i) (b : Bool)
    (a : b ≡ governor_fits_masks x.governor ms) where
  fits : governor_fits is i x.governor ≡ b
  fits = grind (arith, lt_from_nth is i x e, f.masks, masks_fit is i x.governor f.made)

  here : first_misfit is ≡ i + first_no (b ∷ governors_fit is (suc i) (drop (suc i) is))
  here = grind (arith, fits, f.so_far, drop_at_nth is i x e)

  pub misfit_here : b ≡ false → (k : ℕ) → k ≡ length ms → MisfitsFirst is k
  misfit_here n k l = record { first = grind (arith, here, f.each); within = grind (arith, lt_from_nth is i x e, f.each) }

  pub fitted_more : b ≡ true → may_exist x ≡ true → (j : ℕ) → j ≡ i + 1 → (ns : List ℕ) → ns ≡ ms ++ x.mask ∷ [] → Fitted is j ns
  fitted_more y m j n ns p = rw (n, p) (record {
    so_far = rw (add-one, here, y) (omega arith);
    made = below_more _ _ f.made (ap may_exist (get_or-from_nth is i x no_item e) ∙ m);
    masks = rw add-one (grind (arith, f.masks, map_push, take_to_nth is i x e));
    each = grind (arith, f.each, length_push);
  })

pub fitted_all : (is : List ItemMeaning) (i : ℕ) (ms : List ℕ) → Fitted is i ms → length is ≤ i → AllFit is
fitted_all is i ms f h =
    let l : i ≡ length (take i is) = grind (arith, f.each, f.masks, length-map) in
    record {
      fit = grind (arith, f.so_far, drop_all, l, length-take);
      exist = λ j k. f.made j (omega (arith, l, length-take i is));
    }
