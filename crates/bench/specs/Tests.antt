-- The tests by which the code tells a line's fields.
use Rattle.std.specs.List.{list_all}
use Rattle.std.specs.Prelude.{ℕ, ◌%◌, Bool, ◌&&◌, ◌||◌, List, length, ◌==◌, nat_le, nat_lt}

abbrev pub is_hex_digit : ℕ → Bool
is_hex_digit c = (nat_le 48 c && nat_le c 57) || (nat_le 65 c && nat_le c 70)

abbrev pub are_hex_digits : List ℕ → Bool
are_hex_digits cs = list_all is_hex_digit cs

abbrev pub are_hex_pairs : List ℕ → Bool
are_hex_pairs cs = nat_lt 0 (length cs) && (length cs % 2 == 0 && (nat_le (length cs) 18432 && are_hex_digits cs))
