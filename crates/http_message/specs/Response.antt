-- A response as bytes.
use Rattle.std.specs.Prelude.{ℕ, Bool, List, [], ◌∷◌, ◌++◌, length, codes, decimal, if◌then◌else◌}
use Rattle.std.specs.Prelude.{Option, Some, None}
use Rattle.http.specs.StatusCode.{status_text}
use Rattle.http_message.specs.Refusals.{status, allow}
use Rattle.http_message.specs.declared.refusals.Methods.{Methods}
use Rattle.http_message.specs.declared.refusals.Methods.TheVariants as methods
use Rattle.http_message.specs.declared.refusals.RequestFault.{RequestFault}
use Rattle.http_message.specs.declared.responses.BrowserAdvice.{BrowserAdvice}
use Rattle.http_message.specs.declared.responses.BrowserAdvice.TheVariants as advice
use Rattle.http_message.specs.declared.responses.MediaType.{MediaType}
use Rattle.http_message.specs.declared.responses.MediaType.TheVariants as media

-- the end of a line
abbrev pub crlf : List ℕ
crlf = 13 ∷ 10 ∷ []

-- the first line of a response: the code and its phrase, as the crate `http` has it
unfoldable pub status_line : ℕ → List ℕ
status_line code = codes "HTTP/1.1 " ++ status_text code ++ crlf

-- the field that gives the type of the text
unfoldable pub type_line : MediaType → List ℕ
type_line media.Json = codes "Content-Type: application/json" ++ crlf
type_line media.PlainText = codes "Content-Type: text/plain; charset=utf-8" ++ crlf
type_line media.Html = codes "Content-Type: text/html; charset=utf-8" ++ crlf

-- the field that gives how many bytes the text has
unfoldable pub length_line : ℕ → List ℕ
length_line length = codes "Content-Length: " ++ decimal length ++ crlf

-- the field that names the methods that a resource takes, if the response names any
unfoldable pub allow_line : Option Methods → List ℕ
allow_line None = []
allow_line (Some methods.Post) = codes "Allow: POST" ++ crlf
allow_line (Some methods.GetAndHead) = codes "Allow: GET, HEAD" ++ crlf

-- the fields by which a browser takes a text for nothing else than its type says, and gives it to
-- no page of another site
unfoldable pub own_lines : List ℕ
own_lines =
    codes "X-Content-Type-Options: nosniff" ++ crlf
    ++ codes "Cross-Origin-Resource-Policy: same-origin" ++ crlf

-- the fields of a text that also isn't kept for another time
unfoldable pub unkept_lines : List ℕ
unkept_lines = codes "Cache-Control: no-store" ++ crlf ++ own_lines

-- the field that gives the policy of a page: what the page may load and ask
unfoldable pub policy_line : List ℕ → List ℕ
policy_line policy = codes "Content-Security-Policy: " ++ policy ++ crlf

-- the other fields of a page: that the page is asked for anew each time, stands in no frame, isn't
-- told to another server, and has no hold on a page that opened it
unfoldable pub page_lines : List ℕ
page_lines =
    codes "Cache-Control: no-cache" ++ crlf
    ++ codes "X-Frame-Options: DENY" ++ crlf
    ++ codes "Referrer-Policy: no-referrer" ++ crlf
    ++ codes "Cross-Origin-Opener-Policy: same-origin" ++ crlf
    ++ own_lines

-- the fields that say to a browser how to treat a text
abbrev pub advice_lines : BrowserAdvice → List ℕ
advice_lines advice.Nothing = []
advice_lines advice.Unkept = unkept_lines
advice_lines (advice.Page policy) = policy_line policy.now ++ page_lines

-- the field that says that the connection ends
unfoldable pub close_line : List ℕ
close_line = codes "Connection: close" ++ crlf

-- the head of a response: the status line, the fields in their order, and an empty line
abbrev pub head : ℕ → MediaType → Option Methods → List ℕ → ℕ → List ℕ
head code media allowed advice length =
    status_line code ++ type_line media ++ length_line length ++ allow_line allowed ++ advice
    ++ (close_line ++ crlf)

-- a whole response: head and text, to `HEAD` without the text
abbrev pub message : ℕ → MediaType → Option Methods → List ℕ → List ℕ → Bool → List ℕ
message code media allowed advice text is_head =
    head code media allowed advice (length text) ++ (if is_head then [] else text)

-- a response with a text under a status, with these fields for a browser
abbrev pub response : ℕ → MediaType → List ℕ → List ℕ → Bool → List ℕ
response code media advice text is_head = message code media None advice text is_head

-- the text that reports a status
unfoldable pub status_error_text : ℕ → List ℕ
status_error_text code = codes "{\"result\":\"error\",\"status\":" ++ decimal code ++ codes "}"

-- the response to a refused request
abbrev pub fault_response : RequestFault → Bool → List ℕ
fault_response fault is_head =
    message (status fault) media.Json (allow fault) [] (status_error_text (status fault)) is_head

-- the text that reports that the program is out of memory (91)
unfoldable pub memory_text : List ℕ
memory_text = codes "{\"name\":\"Memory\",\"refusal\":91,\"result\":\"refused\"}"

-- the response when no memory was left
abbrev pub no_memory : Bool → List ℕ
no_memory is_head = response 503 media.Json [] memory_text is_head

-- the text that reports a fault of the store (90)
unfoldable pub store_text : List ℕ
store_text = codes "{\"name\":\"Store\",\"refusal\":90,\"result\":\"refused\"}"

-- the response when the store failed
abbrev pub no_store : Bool → List ℕ
no_store is_head = response 503 media.Json [] store_text is_head

-- the interim response that asks for a body
abbrev pub continue_bytes : List ℕ
continue_bytes = codes "HTTP/1.1 100 Continue" ++ crlf ++ crlf
