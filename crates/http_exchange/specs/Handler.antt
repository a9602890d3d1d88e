-- What a handler is asked, and what it answers.
use Rattle.std.specs.Prelude.{ℕ, List, Result, Ok, Err, string_bytes}
use Rattle.request.specs.declared.form.Form.{Form}
use Rattle.request.specs.declared.subject.Subject.{Subject}
use Rattle.request.specs.Subjects.{subject_copied}
use Rattle.http_message.specs.Response.{advice_lines}
use Rattle.http_message.specs.declared.plan.Submission.{Submission}
use Rattle.http_message.specs.declared.responses.MediaType.{MediaType}
use Rattle.http_exchange.specs.declared.handler.Request.{Request}
use Rattle.http_exchange.specs.declared.handler.Request.TheVariants as rust
use Rattle.http_exchange.specs.declared.handler.Response.{Response}
use Rattle.http_exchange.specs.declared.handler.HandlerFault.{HandlerFault}

-- what a handler is asked: to do what a body says, to show a report in a form, to show the page of
-- the desk, or to show how many requests are kept
pub data HandlerRequest : Type 0 where
  submit : Submission → List ℕ → HandlerRequest
  show : Subject (List ℕ) (List ℕ) → Form → HandlerRequest
  show_desk show_count : HandlerRequest

-- what a handler answers: a status, and a text with its type and the fields for a browser
pub record StatusText : Type 0 where
  pub status : ℕ
  pub media_type : MediaType
  pub advice : List ℕ
  pub text : List ℕ

-- ---- requests and responses as the program holds them

-- a request as contracts see it
abbrev pub handler_request : Request → HandlerRequest
handler_request (rust.Submit to body) = submit to body.now
handler_request (rust.Show what form) = show (subject_copied what) form
handler_request rust.ShowDesk = show_desk
handler_request rust.ShowCount = show_count

-- a response as contracts see it
abbrev pub answer : Response → StatusText
answer r = record {
  status = r.status;
  media_type = r.media_type;
  advice = advice_lines r.advice;
  text = string_bytes r.text;
}

-- a response as contracts see it, or the handler's fault
abbrev pub answer_or_fault : Result Response HandlerFault → Result StatusText HandlerFault
answer_or_fault (Ok r) = Ok (answer r)
answer_or_fault (Err fault) = Err fault
