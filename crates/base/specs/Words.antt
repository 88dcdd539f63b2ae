-- The words of layers and questions.
use Rattle.std.specs.Prelude.{ℕ, List, [], ◌++◌, codes, decimal, Some, None, Option}
use Rattle.base.specs.declared.layer.Layer.{Layer}
use Rattle.base.specs.declared.layer.Layer.TheVariants as L
use Rattle.base.specs.declared.question.Question.{Question}
use Rattle.base.specs.declared.question.Question.TheVariants as Q
use Rattle.base.specs.declared.refusal.Refusal.{Refusal}
use Rattle.base.specs.Answers.{layer_number, question_number, question_layer}

abbrev pub layer_words : Layer → List ℕ
layer_words L.Layout = codes "layout"
layer_words L.Packet = codes "packet"
layer_words L.Frame = codes "frame"
layer_words L.Call = codes "call"
layer_words L.Bench = codes "bench"

-- what is asked
abbrev pub question_words : Question → List ℕ
question_words Q.ItemCount = codes "has the layout 1 to 64 items?"
question_words Q.FirstItem = codes "is item 0 an ungoverned bits octet with bits 7 to 4 named?"
question_words Q.Governors = codes "is the governor an earlier bits octet, its bit named and not bits 7 to 4 of item 0?"
question_words Q.TableRows = codes "has the table a row for each item?"
question_words Q.PacketCount = codes "has the packet 12 to 9216 octets, all in the buffer?"
question_words Q.Flags = codes "are bits 7 to 4 of octet 0 equal to 3 and bit 2 set?"
question_words Q.MessageType = codes "is octet 1 equal to 255?"
question_words Q.StatedLength = codes "are octets 2 and 3 the count less 8?"
question_words Q.Header = codes "has the header a unit count above 0, and does it fit?"
question_words Q.Container = codes "is there exactly one PDU session container?"
question_words Q.PduType = codes "is the frame's upper half octet the PDU type?"
question_words Q.ItemFits = codes "does the item fit?"
question_words Q.Limit = codes "is the number within its limit?"
question_words Q.Room = codes "has the frame at most 1018 octets, and the packet at most 9216 and no more than the buffer?"
question_words Q.RowFits = codes "does the row fit its item?"
question_words Q.FileStart = codes "has the file 8 octets or more, and does it start with UPL and version 1?"
question_words Q.FileSize = codes "is the file 8 octets and 16 for each of 1 to 64 entries long, its PDU type at most 15, its eighth octet 0?"
question_words Q.Entry = codes "is the entry an item, and its name three capitals or digits?"
question_words Q.Space = codes "is there space for one more item, 16 added and 64 in all?"
question_words Q.AddedGovernor = codes "is the governor an earlier bits octet, its bit spare below or in an added item?"
question_words Q.SpareBits = codes "are the bits to be named not none, and all spare in a bits octet below?"
question_words Q.Command = codes "is the line a command?"

-- a refusal: its number, its layer with the origin of the layout asked, its place, and what was asked
abbrev pub origin_words : Option ℕ → List ℕ
origin_words None = []
origin_words (Some o) = codes " of origin " ++ decimal o

abbrev pub refusal_words : Refusal → List ℕ
refusal_words r =
    codes "refusal "
    ++ (decimal (question_number r.question)
    ++ (codes ", layer "
    ++ (decimal (layer_number (question_layer r.question))
    ++ (codes " ("
    ++ (layer_words (question_layer r.question)
    ++ (origin_words r.origin
    ++ (codes "), place "
    ++ (decimal r.place
    ++ (codes ": " ++ question_words r.question)))))))))
