-- Names of items, as text.
use Rattle.std.specs.Prelude.{ℕ, List, ◌++◌, slice_index, encode_utf8}

-- the three characters of a name
abbrev pub name_text : List ℕ → List ℕ
name_text name = encode_utf8 (slice_index name 0) ++ (encode_utf8 (slice_index name 1) ++ encode_utf8 (slice_index name 2))
