-- Item i of a list, as an option and with a default.
use Rattle.std.proofs.Common.{◌≡◌, ℕ, suc, ◌<◌, ◌≤◌, List, [], ◌∷◌, ◌++◌, map, length, get_or, take, drop, Some, None, sym, arith}
use Rattle.std.specs.List.{slice_get}
use Rattle.std.proofs.lemmas.List.{get_or-map}
use Rattle.std.proofs.lemmas.Option.{gets, slice_get_within, slice_get_past, get_or_from_slice_get}
use Rattle.std.proofs.Math.Seq.{take-suc, drop-cons}

module _ {X : Type 0} where
  pub lt_from_nth : (xs : List X) (i : ℕ) (x : X) → Some x ≡ slice_get xs i → i < length xs
  lt_from_nth xs i x e = slice_get_within xs i x (sym e)

  pub le_from_nth : (xs : List X) (i : ℕ) → None ≡ slice_get xs i → length xs ≤ i
  le_from_nth xs i e = grind (arith, gets)

  pub nth_past : (xs : List X) (i : ℕ) → length xs ≤ i → slice_get xs i ≡ None
  nth_past = slice_get_past

  pub get_or-from_nth : (xs : List X) (i : ℕ) (x d : X) → Some x ≡ slice_get xs i → get_or xs i d ≡ x
  get_or-from_nth xs i x d e = get_or_from_slice_get xs i x d (sym e)

  pub get_or-map_from_nth : {Y : Type 0} (f : X → Y) (xs : List X) (i : ℕ) (x : X) (d : Y) → Some x ≡ slice_get xs i → get_or (map f xs) i d ≡ f x
  get_or-map_from_nth f xs i x d e = grind (arith, gets, get_or-map)

  pub drop_at_nth : (xs : List X) (i : ℕ) (x : X) → Some x ≡ slice_get xs i → drop i xs ≡ x ∷ drop (suc i) xs
  drop_at_nth xs i x e = grind (arith, gets, drop-cons)

  pub take_to_nth : (xs : List X) (i : ℕ) (x : X) → Some x ≡ slice_get xs i → take (suc i) xs ≡ take i xs ++ x ∷ []
  take_to_nth xs i x e = grind (arith, gets, take-suc)
