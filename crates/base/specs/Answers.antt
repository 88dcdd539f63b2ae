-- What a call answers: a result, or the refusal of the first question whose answer is no.
use Rattle.std.specs.Prelude.{ℕ, suc, Bool, true, false, List, [], ◌∷◌, Some, None, Ok, Err, Result}
use Rattle.base.specs.declared.refusal.Refusal.{Refusal}
use Rattle.base.specs.declared.question.Question.{Question}
use Rattle.base.specs.declared.question.Question.TheVariants as Q
use Rattle.base.specs.declared.layer.Layer.{Layer}
use Rattle.base.specs.declared.layer.Layer.TheVariants as L

pub data Answer (A : Type 0) : Type 0 where
  refused : Refusal → Answer A
  gives : A → Answer A

-- a question: its answer, the refusal that a no gives, and what comes after a yes
unfoldable pub ask : {A : Type 0} → Bool → Refusal → Answer A → Answer A
ask true r next = next
ask false r next = refused r

-- one answer after another: the first refusal stays
unfoldable pub bind : {A B : Type 0} → Answer A → (A → Answer B) → Answer B
bind (refused r) f = refused r
bind (gives a) f = f a

-- the place of the first no in a list of answers; their number where there is none
abbrev pub first_no : List Bool → ℕ
first_no [] = 0
first_no (true ∷ bs) = suc (first_no bs)
first_no (false ∷ bs) = 0

-- what a call of the code answers, given what its results and its faults mean
abbrev pub answer_of : {T E A : Type 0} → (T → A) → (E → Refusal) → Result T E → Answer A
answer_of f g (Ok x) = gives (f x)
answer_of f g (Err e) = refused (g e)

-- the layers' numbers
abbrev pub layer_number : Layer → ℕ
layer_number L.Layout = 1
layer_number L.Packet = 2
layer_number L.Frame = 3
layer_number L.Call = 4
layer_number L.Bench = 5

-- the questions' numbers
abbrev pub question_number : Question → ℕ
question_number Q.ItemCount = 1
question_number Q.FirstItem = 2
question_number Q.Governors = 3
question_number Q.TableRows = 4
question_number Q.PacketCount = 5
question_number Q.Flags = 6
question_number Q.MessageType = 7
question_number Q.StatedLength = 8
question_number Q.Header = 9
question_number Q.Container = 10
question_number Q.PduType = 11
question_number Q.ItemFits = 12
question_number Q.Limit = 13
question_number Q.Room = 21
question_number Q.RowFits = 22
question_number Q.FileStart = 23
question_number Q.FileSize = 24
question_number Q.Entry = 25
question_number Q.Space = 26
question_number Q.AddedGovernor = 27
question_number Q.SpareBits = 28
question_number Q.Command = 29

-- what each question is put to
abbrev pub question_layer : Question → Layer
question_layer Q.ItemCount = L.Layout
question_layer Q.FirstItem = L.Layout
question_layer Q.Governors = L.Layout
question_layer Q.TableRows = L.Call
question_layer Q.PacketCount = L.Packet
question_layer Q.Flags = L.Packet
question_layer Q.MessageType = L.Packet
question_layer Q.StatedLength = L.Packet
question_layer Q.Header = L.Packet
question_layer Q.Container = L.Packet
question_layer Q.PduType = L.Frame
question_layer Q.ItemFits = L.Frame
question_layer Q.Limit = L.Frame
question_layer Q.Room = L.Call
question_layer Q.RowFits = L.Call
question_layer Q.FileStart = L.Layout
question_layer Q.FileSize = L.Layout
question_layer Q.Entry = L.Layout
question_layer Q.Space = L.Layout
question_layer Q.AddedGovernor = L.Layout
question_layer Q.SpareBits = L.Layout
question_layer Q.Command = L.Bench

-- a no: the question and the place; of a layout also its origin
abbrev pub no_to : Question → ℕ → Refusal
no_to q p = record { question = q; place = p; origin = None }

abbrev pub no_layout : ℕ → Question → ℕ → Refusal
no_layout o q p = record { question = q; place = p; origin = Some o }
