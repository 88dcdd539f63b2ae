-- The rules on one item, by the numbers that the code has in place of octets.
use Rattle.std.proofs.Common.{◌≡◌, ℕ, zero, suc, ◌+◌, Bool, eqb, ltb, List, [], ◌∷◌, ◌++◌, map, length, get_or, Some, None, Option, sym, refl, ap, ◌∙◌, add-zero, arith, length-append}
use mir.Val.{bool_byte}
use Rattle.std.proofs.lemmas.Bool.{lt-ltb}
use Rattle.base.specs.Octets.{bit, big_endian}
use Rattle.layout.specs.declared.kind.Governor.{Governor}
use Rattle.layout.specs.Items.{ItemKind, bits_octet, a_number, ItemMeaning}
use Rattle.layout.specs.Views.{governor_meaning}
use Rattle.frame.specs.declared.row.Row.{Row}
use Rattle.frame.specs.Pieces.{joined, piece, present_by, within_as}
use Rattle.frame.specs.Rows.{row_of, rows_of, how_many}
use Rattle.frame.specs.Surveys.{last_octet, present_by_octets, within_number, row_number}
use Rattle.frame.proofs.Octets.{bit-last_octet}

get_or-last : (cs : List (List ℕ)) (g : ℕ) → get_or (map last_octet cs) g 0 ≡ last_octet (piece cs g)
get_or-last [] g = refl
get_or-last (c ∷ cs) zero = refl
get_or-last (c ∷ cs) (suc g) = get_or-last cs g

-- presence and size by the last octets are those by the pieces
pub present_is : (g : Option Governor) (cs : List (List ℕ)) (os : List ℕ) → os ≡ map last_octet cs → present_by (governor_meaning g) cs ≡ present_by_octets (governor_meaning g) os
present_is None cs os e = refl
present_is (Some g) cs os e =
    ap (λ (v : ℕ). eqb v 1)
    (sym (bit-last_octet (big_endian (piece cs g.item)) g.bit g.octet)
    ∙ ap (bit g.bit) (sym (get_or-last cs g.item) ∙ ap (λ (l : List ℕ). get_or l g.item 0) (sym e)))

pub within_is : (k : ItemKind) (limit : ℕ) (c : List ℕ) → within_as k limit c ≡ within_number k limit (big_endian c)
within_is bits_octet limit c = refl
within_is a_number limit c = refl

pub row_is : (i : ItemMeaning) (p : ℕ) (c : List ℕ) → row_of i p c ≡ row_number i p (length c) (big_endian c)
row_is i p [] = refl
row_is i p (o ∷ os) = refl

-- one item more
pub joined_push : (cs : List (List ℕ)) (c : List ℕ) → length (joined (cs ++ c ∷ [])) ≡ length (joined cs) + length c
joined_push [] c = omega (arith, length-append c [])
joined_push (d ∷ cs) c = omega (arith, length-append d (joined (cs ++ c ∷ [])), length-append d (joined cs), joined_push cs c)

pub how_many_push : (cs : List (List ℕ)) (c : List ℕ) → how_many (cs ++ c ∷ []) ≡ how_many cs + bool_byte (ltb 0 (length c))
how_many_push [] [] = refl
how_many_push [] (o ∷ os) = sym (ap (λ (b : Bool). 0 + bool_byte b) (lt-ltb 0 (suc (length os)) (omega arith)))
how_many_push ([] ∷ cs) c = how_many_push cs c
how_many_push ((o ∷ os) ∷ cs) c = ap suc (how_many_push cs c) ∙ plus (how_many cs) (bool_byte (ltb 0 (length c)))
  where
    plus : (a b : ℕ) → suc (a + b) ≡ suc a + b
    plus a b = omega arith

pub rows_push : (is : List ItemMeaning) (cs : List (List ℕ)) (i : ItemMeaning) (c : List ℕ) (p : ℕ) → length is ≡ length cs
    → rows_of (is ++ i ∷ []) p (cs ++ c ∷ []) ≡ rows_of is p cs ++ row_of i (p + length (joined cs)) c ∷ []
rows_push [] [] i c p e = ap (λ (q : ℕ). row_of i q c ∷ []) (sym (add-zero p))
rows_push [] (d ∷ cs) i c p e = absurd (let b : ⊥ = omega arith in b)
rows_push (j ∷ is) [] i c p e = absurd (let b : ⊥ = omega arith in b)
rows_push (j ∷ is) (d ∷ cs) i c p e =
    let q : p + length d + length (joined cs) ≡ p + length (d ++ joined cs) = omega (arith, length-append d (joined cs)) in
    ap (λ (l : List Row). row_of j p d ∷ l)
    (rows_push is cs i c (p + length d) (omega arith) ∙ ap (λ (k : ℕ). rows_of is (p + length d) cs ++ row_of i k c ∷ []) q)
