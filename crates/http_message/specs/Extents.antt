-- How many bytes of an input settle what it asks.
use Rattle.std.specs.Prelude.{◌≡◌, ◌⊎◌, ℕ, ◌+◌, Bool, false, List, ◌++◌, length}
use Rattle.httparse.specs.Grammar.{RequestHead, print_request}
use Rattle.http_message.specs.Heading.{heading}
use Rattle.http_message.specs.Plan.{Step, plan_for_head, receive, refuse, show, show_count}
use Rattle.http_message.specs.Plan.{show_desk}
use Rattle.http_message.specs.Reading.{HasHead, HasNoHead}
use Rattle.http_message.specs.declared.extents.Extent.{Extent}
use Rattle.http_message.specs.declared.extents.Extent.TheVariants.{Known, Unknown}

-- Whatever follows these bytes, they don't begin with a whole head.
abbrev pub NeverHasHead : List ℕ → Type 0
NeverHasHead bytes = (more : List ℕ) → HasNoHead (bytes ++ more)

-- how many bytes after the head a step wants
abbrev pub body_length : Step → ℕ
body_length (refuse fault) = 0
body_length (receive expected) = expected.length
body_length (show what form) = 0
body_length show_desk = 0
body_length show_count = 0

-- whether the client waits before it sends the body that a step wants
abbrev pub waits : Step → Bool
waits (refuse fault) = false
waits (receive expected) = expected.continues
waits (show what form) = false
waits show_desk = false
waits show_count = false

-- A head of this many bytes, for which this is done, and the body that is wanted settle a request.
abbrev pub IsExtentOf : ℕ → Step → Extent → Type 0
IsExtentOf head step Unknown = ⊥
IsExtentOf head step (Known it) = (it.length ≡ head + body_length step) × (it.waits ≡ waits step)

-- These bytes have no whole head. Or none whatever follows, and no byte more is wanted. Or they
-- begin with a head, and so many bytes settle the request as it and its body have.
abbrev pub IsExtent : List ℕ → Extent → Type 0
IsExtent bytes Unknown = HasNoHead bytes
IsExtent bytes (Known it) =
    (NeverHasHead bytes × (it.length ≡ 0) × (it.waits ≡ false))
    ⊎ ((h : RequestHead) × (rest : List ℕ) × HasHead bytes h rest
    × IsExtentOf (length (print_request h)) (plan_for_head (heading h)).step (Known it))
