use Rattle.std.proofs.Common.{refl}
use Rattle.std.specs.Fmt.{digits}
use Rattle.http_message.specs.Response.{status_line, type_line, length_line, allow_line, close_line, store_text}
use Rattle.http_message.proofs.responses.no_store_response.Goals as goal

pub returns-then-is_head : goal.returns-then-is_head
unfolding digits status_line type_line length_line allow_line close_line store_text
returns-then-is_head c = rw c.if-is_head.true refl

pub returns-else-is_head : goal.returns-else-is_head
unfolding digits status_line type_line length_line allow_line close_line store_text
returns-else-is_head c = rw c.if-is_head.false refl
