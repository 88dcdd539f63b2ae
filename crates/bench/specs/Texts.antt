-- The text of the bench's answers.
use Rattle.std.specs.Prelude.{ℕ, suc, cond, List, [], ◌∷◌, ◌++◌, length, take, codes, decimal, Ok, Err, Result}
use Rattle.base.specs.declared.refusal.Refusal.{Refusal}
use Rattle.base.specs.Answers.{question_number}
use Rattle.layout.specs.Items.{name_at}
use Rattle.layout.specs.Names.{name_text}
use Rattle.layout.specs.Tables.{published_names, published_items}
use Rattle.frame.specs.declared.row.Row.{Row}
use Rattle.bench.specs.declared.reply.Reply.{Reply}
use Rattle.bench.specs.declared.reply.Reply.TheVariants.{Kept, Shown}

-- an item: its name and its value, and nothing if it is absent
abbrev pub row_text : List ℕ → Row → List ℕ
row_text name r =
    cond r.present (name_text name ++ (32 ∷ (decimal r.value ++ 10 ∷ []))) []

-- a refusal: its number and its place
abbrev pub no_text : Refusal → List ℕ
no_text r = codes "NO " ++ (decimal (question_number r.question) ++ (32 ∷ (decimal r.place ++ 10 ∷ [])))

-- the end of an accepted answer: the packet's octets, or how many items are present
abbrev pub ok_text : ℕ → List ℕ
ok_text n = codes "OK " ++ (decimal n ++ 10 ∷ [])

-- the rows from item i on
abbrev pub rows_text : List (List ℕ) → ℕ → List Row → List ℕ
rows_text ns i [] = []
rows_text ns i (r ∷ rs) = row_text (name_at ns i) r ++ rows_text ns (suc i) rs

-- a reply, with the table that a read has filled
abbrev pub reply_text : Result Reply Refusal → List Row → List ℕ
reply_text (Err r) t = no_text r
reply_text (Ok (Kept n)) t = ok_text n
reply_text (Ok (Shown l n)) t = rows_text (published_names l) 0 (take (length (published_items l)) t) ++ ok_text n
