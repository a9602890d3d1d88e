-- What a reader has where a head is looked for.
use Rattle.std.specs.Prelude.{◌≡◌, ◌≤◌, ◌<◌, ⊤, ℕ, Bool, ◌||◌, ◌==◌, List, [], drop, length, Option}
use Rattle.std.specs.Prelude.{Some, None}
use Rattle.httparse.specs.Grammar.{RequestHead, ReadsRequest, HasNoRequest, print_request}
use Rattle.httparse.specs.Spans.{IsRequestAt, IsRequestWithin, RequestOverflows}
use Rattle.httparse.specs.declared.spans.HeaderSpan.{HeaderSpan}
use Rattle.http_message.specs.declared.reading.Parsed.{Parsed}
use Rattle.http_message.specs.declared.reading.Parsed.TheVariants as parsed
use Rattle.http_message.specs.Heading.{Heading, heading}
use Rattle.http_message.specs.declared.reading.HeadRead.{HeadRead}
use Rattle.http_message.specs.declared.reading.HeadRead.TheVariants.{Nothing, NoHead, Whole}
use Rattle.http_message.specs.declared.reading.ReadFault.{ReadFault}
use Rattle.http_message.specs.declared.reading.ReadFault.TheVariants.{Memory, Reader}

-- An input begins with this head, of at most 16,384 bytes and 64 fields, and goes on with the rest.
pub record HasHead (input : List ℕ) (h : RequestHead) (rest : List ℕ) : Type 0 where
  pub reads : ReadsRequest input h rest
  pub short : length (print_request h) ≤ 16_384
  pub few : length h.fields ≤ 64

-- An input begins with no whole head of at most 16,384 bytes and 64 fields.
abbrev pub HasNoHead : List ℕ → Type 0
HasNoHead input = (h : RequestHead) (rest : List ℕ) → ¬ (HasHead input h rest)

-- If the reader's input is known, it begins with a head of these parts, and what follows the head
-- is left.
abbrev pub IsReadWhole : Option (List ℕ) → Option (List ℕ) → Heading → Type 0
IsReadWhole None left head = ⊤
IsReadWhole (Some input) left head =
    (h : RequestHead) × (rest : List ℕ) × HasHead input h rest × (head ≡ heading h)
    × (left ≡ Some rest)

-- If the reader's input is known, it isn't empty, and begins with no whole head.
abbrev pub HasNoWholeHead : Option (List ℕ) → Type 0
HasNoWholeHead None = ⊤
HasNoWholeHead (Some input) = (0 < length input) × HasNoHead input

-- If the reader's input is known, it has no byte.
abbrev pub IsReadEmpty : Option (List ℕ) → Type 0
IsReadEmpty None = ⊤
IsReadEmpty (Some input) = input ≡ []

-- What a reader had and has left, by the outcome of its look for a head, where the input is known.
abbrev pub IsHeadRead : Option (List ℕ) → Option (List ℕ) → HeadRead → Type 0
IsHeadRead had left Nothing = IsReadEmpty had
IsHeadRead had left NoHead = HasNoWholeHead had
IsHeadRead had left (Whole head) = IsReadWhole had left head

-- By the fault of a read: out of memory, one byte of a known input was read.
abbrev pub IsHeadUnread : ReadFault → Option (List ℕ) → Option (List ℕ) → Type 0
IsHeadUnread Memory None left = ⊤
IsHeadUnread Memory (Some input) left = (0 < length input) × (left ≡ Some (drop 1 input))
IsHeadUnread Reader had left = ⊤

-- ---- what the reading of a head knows of its bytes so far

-- whether a byte ends a line: CR or LF
abbrev pub is_line_end : ℕ → Bool
is_line_end byte = byte == 13 || byte == 10

-- The bytes so far are a head and what follows it, are no head yet, or never become a head of at
-- most 64 fields.
abbrev pub IsParsed : List ℕ → List HeaderSpan → Parsed → Type 0
IsParsed bytes fields (parsed.Whole spans) =
    (h : RequestHead) × IsRequestAt bytes fields spans h × IsRequestWithin bytes fields spans
IsParsed bytes fields parsed.Unfinished = HasNoRequest bytes
IsParsed bytes fields parsed.Hopeless = RequestOverflows 64 bytes
