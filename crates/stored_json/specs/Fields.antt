-- The members of a command, by name, and the words that stand in them.
use Rattle.std.specs.Prelude.{ℕ, List, [], ◌∷◌, Option, codes, find}
use Rattle.std.specs.Str.{bytes_eq}
use Rattle.stored_json.specs.declared.field.JsonField.{JsonField}
use Rattle.stored_json.specs.declared.field.JsonField.TheVariants.{Body, Number, Do, Crew, Seat}
use Rattle.stored_json.specs.declared.field.JsonField.TheVariants.{Name, Pairing, Periods}
use Rattle.stored_json.specs.declared.field.JsonField.TheVariants.{OtherPairing, OtherCrew, Ground}
use Rattle.stored_json.specs.declared.field.JsonField.TheVariants.{Begin, End, Task, Period, Report}
use Rattle.stored_json.specs.declared.field.JsonField.TheVariants.{Release, Segments, Base, Zone}
use Rattle.stored_json.specs.declared.field.JsonField.TheVariants.{Outside}
use Rattle.stored_json.specs.declared.verb.Verb.{Verb}
use Rattle.stored_json.specs.declared.verb.Verb.TheVariants as verb

-- the name of a member of a command's object
abbrev pub field_name : JsonField → List ℕ
field_name Body = codes "body"
field_name Number = codes "number"
field_name Do = codes "do"
field_name Crew = codes "crew"
field_name Seat = codes "seat"
field_name Name = codes "name"
field_name Pairing = codes "pairing"
field_name Periods = codes "periods"
field_name OtherPairing = codes "other_pairing"
field_name OtherCrew = codes "other_crew"
field_name Ground = codes "ground"
field_name Begin = codes "begin"
field_name End = codes "end"
field_name Task = codes "task"
field_name Period = codes "period"
field_name Report = codes "report"
field_name Release = codes "release"
field_name Segments = codes "segments"
field_name Base = codes "base"
field_name Zone = codes "zone"
field_name Outside = codes "outside"

-- the word of a verb
abbrev pub verb_text : Verb → List ℕ
verb_text verb.AddBase = codes "add-base"
verb_text verb.AddCrew = codes "add-crew"
verb_text verb.AddPairing = codes "add-pairing"
verb_text verb.CancelPairing = codes "cancel-pairing"
verb_text verb.Assign = codes "assign"
verb_text verb.Release = codes "release"
verb_text verb.Swap = codes "swap"
verb_text verb.AddGround = codes "add-ground"
verb_text verb.CancelGround = codes "cancel-ground"
verb_text verb.Actual = codes "actual"
verb_text verb.RecordOutside = codes "record-outside"

-- the eleven verbs
abbrev pub all_verbs : List Verb
all_verbs =
    verb.AddBase ∷ verb.AddCrew ∷ verb.AddPairing ∷ verb.CancelPairing ∷ verb.Assign ∷ verb.Release
    ∷ verb.Swap ∷ verb.AddGround ∷ verb.CancelGround ∷ verb.Actual ∷ verb.RecordOutside ∷ []

-- the value, of a list of values, whose word a text is, if there is one
abbrev pub worded : {A : Type 0} → (A → List ℕ) → List A → List ℕ → Option A
worded word all text = find (λ a. bytes_eq text (word a)) all
