-- Rows printed one after another.
use Rattle.std.proofs.Common.{◌≡◌, ℕ, ◌+◌, ◌<◌, ◌≤◌, List, ◌++◌, length, get_or, drop, append_assoc, append-nil, add-one}
use Rattle.std.proofs.lemmas.List.{drop_all, drop_more}
use Rattle.layout.specs.Items.{name_at}
use Rattle.frame.specs.declared.row.Row.{Row}
use Rattle.frame.specs.Rows.{absent}
use Rattle.bench.specs.Texts.{row_text, rows_text}

module _ (ns : List (List ℕ)) (rs : List Row) (i : ℕ) (all so_far : List ℕ) (e : all ≡ so_far ++ rows_text ns i (drop i rs)) where
  pub rows_more : i < length rs → (name next : List ℕ) (r : Row) → name ≡ name_at ns i → r ≡ get_or rs i absent → next ≡ so_far ++ row_text name r
      → all ≡ next ++ rows_text ns (i + 1) (drop (i + 1) rs)
  rows_more h name next r en er f = rw (e, drop_more rs i absent h, f, en, er) (simp (append_assoc, add-one))

  pub rows_all : length rs ≤ i → so_far ≡ all
  rows_all h = rw (e, drop_all i rs h, append-nil)
