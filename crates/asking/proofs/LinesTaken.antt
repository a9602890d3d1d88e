-- Requests that were taken to a book in turn, up to one more.
use Rattle.std.proofs.Common.{◌≡◌, ◌==◌, ◌∙◌, ◌<◌, ◌≤◌, ◌+◌, ◌⊎◌, inl, inr, refl, sym, ap, subst, arith, ℕ, suc, Bool, true, false, if◌then◌else◌, List, [], ◌∷◌, ◌++◌, append-nil, length, length-append, map, take, drop, get_or, slice_get, codes, string_bytes, Some, Result, Ok, Err, Bor}
use Rattle.std.proofs.Math.Seq.{get_or-append_seam}
use Rattle.std.proofs.lemmas.Bool.{eqb-true}
use Rattle.std.proofs.lemmas.Grind.{flat_map-append, take_at_read}
use Rattle.std.proofs.lemmas.List.{append_assoc, map-append, length-map, take-append-drop, take_all, take_at}
use Rattle.std.proofs.lemmas.List.Elements.{filter-append}
use Rattle.std.proofs.lemmas.Option.{slice_get-get_or}
use Rattle.std.specs.Global.{Global}
use Rattle.std.specs.List.{flat_map}
use Rattle.std.specs.Prelude.{String}
use Rattle.sqlite_trees.specs.declared.store.Store.{Ghosts}
use Rattle.codec.specs.Requests.{read_request}
use Rattle.roster.specs.Folds.{Asked, ReplyOrRefusal}
use Rattle.state_rows.specs.declared.fault.StoreFault.{StoreFault}
use Rattle.book.specs.Answered.{IsAnswered}
use Rattle.book.specs.Kept.{Kept, result_of}
use Rattle.book.specs.declared.answer.Answer.{Answer}
use Rattle.asking.specs.Answers.{Reports, ReportsUnread, with_commas}
use Rattle.asking.specs.Lines.{AreTaken, IsToldAlso, Told, answers_text, asked_by_request, commands_in, has_bytes, not_empty, requests_of, told_of, told_text}
use Rattle.asking.specs.Requests.{HasChecked, AreAnswered, IsCheckedAsRead, IsDoneAsRead, IsRequestAsked, IsRequestChecked, ReadRequest, asked_as}
use Rattle.asking.specs.declared.answers.AskFault.{AskFault}
use Rattle.asking.specs.declared.answers.AskFault.TheVariants.{Book, Memory}
use Rattle.asking.specs.declared.answers.JsonAnswer.{JsonAnswer}
use Rattle.asking.specs.declared.answers_text.AnswersText.{AnswersText}

-- ---- Two lists of requests, one after the other

pub commands_both : (requests more : List ReadRequest) → commands_in (requests ++ more) ≡ commands_in requests ++ commands_in more
commands_both requests more = flat_map-append asked_by_request requests more

pub told_both : (requests more : List ReadRequest) (answers others : List ReplyOrRefusal) → length answers ≡ length (commands_in requests) →
    told_of (requests ++ more) (answers ++ others) ≡ told_of requests answers ++ told_of more others
told_both [] more [] others each = refl
told_both [] more (answer ∷ answers) others each = absurd (omega (arith, each))
told_both (Err fault ∷ requests) more answers others each = ap (λ (t : List Told). Err fault ∷ t) (told_both requests more answers others each)
told_both (Ok asked ∷ requests) more [] others each = absurd (omega (arith, each))
told_both (Ok asked ∷ requests) more (answer ∷ answers) others each = ap (λ (t : List Told). Ok answer ∷ t) (told_both requests more answers others (omega (arith, each)))

-- what is told of requests whose commands got these answers
abbrev pub texts : List ReadRequest → List Answer → List (List ℕ)
texts requests answers = map told_text (told_of requests (map result_of answers))

texts_both : (requests more : List ReadRequest) (answers others : List Answer) → length answers ≡ length (commands_in requests) →
    texts (requests ++ more) (answers ++ others) ≡ texts requests answers ++ texts more others
texts_both requests more answers others each =
    ap (λ (l : List ReplyOrRefusal). map told_text (told_of (requests ++ more) l)) (map-append result_of answers others)
    ∙ ap (map told_text) (told_both requests more (map result_of answers) (map result_of others) (length-map answers result_of ∙ each))
    ∙ map-append told_text (told_of requests (map result_of answers)) (told_of more (map result_of others))

-- ---- One more text

abbrev pub is_some_text : List (List ℕ) → Bool
is_some_text [] = false
is_some_text (text ∷ more) = true

is_some_then : (told : List (List ℕ)) (text : List ℕ) → true ≡ is_some_text (told ++ text ∷ [])
is_some_then [] text = refl
is_some_then (first ∷ told) text = refl

commas_then : (told : List (List ℕ)) (text : List ℕ) → with_commas told ++ ((if is_some_text told then codes "," else []) ++ text) ≡ with_commas (told ++ text ∷ [])
commas_then [] text = sym (append-nil text)
commas_then (first ∷ told) text =
    let comma : List ℕ → List ℕ = λ t. codes "," ++ t in
    append_assoc first (flat_map comma told) (comma text)
    ∙ ap (λ t. first ++ (flat_map comma told ++ t)) (sym (append-nil (comma text)))
    ∙ ap (λ t. first ++ t) (sym (flat_map-append comma told (text ∷ [])))

-- this is the text of these, as far as they are told
pub record HasTexts (text : AnswersText) (told : List (List ℕ)) : Type 0 where
  pub is : string_bytes text.text ≡ codes "{\"answers\":[" ++ with_commas told
  pub some : text.has_some ≡ is_some_text told

has_more : (old new : AnswersText) (told : List (List ℕ)) (text : List ℕ) → HasTexts old told → IsToldAlso old new text → HasTexts new (told ++ text ∷ [])
has_more old new told text was also = record {
  is =
      also.0
      ∙ ap (λ b. string_bytes old.text ++ ((if b then codes "," else []) ++ text)) was.some
      ∙ ap (λ t. t ++ ((if is_some_text told then codes "," else []) ++ text)) was.is
      ∙ append_assoc (codes "{\"answers\":[") (with_commas told) ((if is_some_text told then codes "," else []) ++ text)
      ∙ ap (λ t. codes "{\"answers\":[" ++ t) (commas_then told text);
  some = also.1 ∙ is_some_then told text;
}

-- ---- Requests

module _ {S : Type 0} (Takes : Kept S → Kept S → Asked → Result Answer StoreFault → Type 0) where
  pub each_in_turn : (old new : Kept S) (asked : List Asked) (answers : List Answer) → AreAnswered Takes old asked answers new → length answers ≡ length asked
  each_in_turn old new [] [] are = refl
  each_in_turn old new [] (answer ∷ answers) are = absurd are
  each_in_turn old new (one ∷ asked) [] are = absurd are
  each_in_turn old new (one ∷ asked) (answer ∷ answers) are = ap suc (each_in_turn are.0 new asked answers are.2)

  pub one_in_turn : (old : Kept S) (asked : List Asked) (answers : List Answer) (now next : Kept S) (a : Asked) (answer : Answer)
      → AreAnswered Takes old asked answers now → Takes now next a (Ok answer) → AreAnswered Takes old (asked ++ a ∷ []) (answers ++ answer ∷ []) next
  one_in_turn old [] [] now next a answer same is = (next, subst (λ (b : Kept S). Takes b next a (Ok answer)) same is, refl)
  one_in_turn old [] (x ∷ answers) now next a answer none is = absurd none
  one_in_turn old (b ∷ asked) [] now next a answer none is = absurd none
  one_in_turn old (b ∷ asked) (x ∷ answers) now next a answer first is = (first.0, first.1, one_in_turn first.0 asked answers now next a answer first.2 is)

  -- a request was taken to a book, and what became of it is reported
  abbrev pub TakesRequest : Kept S → Kept S → ReadRequest → Result JsonAnswer AskFault → Type 0
  TakesRequest now next (Ok asked) result = (answer : Result Answer StoreFault) × Takes now next (asked_as asked) answer × Reports answer result
  TakesRequest now next (Err fault) result = (next ≡ now) × ReportsUnread fault result

  -- the same of a body, or there was no memory to read it
  abbrev pub TakesBody : Kept S → Kept S → List ℕ → Result JsonAnswer AskFault → Type 0
  TakesBody now next body result = TakesRequest now next (read_request body) result ⊎ ((next ≡ now) × (result ≡ Err Memory))

  -- these requests, and one more with this text, were taken to a book
  pub record IsOneMore (old : Kept S) (requests : List ReadRequest) (answers : List Answer) (request : ReadRequest) (next : Kept S) (text : List ℕ) : Type 0 where
    pub all : List Answer
    pub taken : AreAnswered Takes old (commands_in (requests ++ request ∷ [])) all next
    pub told : texts (requests ++ request ∷ []) all ≡ texts requests answers ++ text ∷ []

  module _ (old now next : Kept S) (requests : List ReadRequest) (answers : List Answer) (was : AreAnswered Takes old (commands_in requests) answers now) where
    each : length answers ≡ length (commands_in requests)
    each = each_in_turn old now (commands_in requests) answers was

    answered_more : (asked : _) (a : Answer) → Takes now next (asked_as asked) (Ok a) → AreAnswered Takes old (commands_in (requests ++ Ok asked ∷ [])) (answers ++ a ∷ []) next
    answered_more asked a is =
        subst (λ (l : List Asked). AreAnswered Takes old l (answers ++ a ∷ []) next) (sym (commands_both requests (Ok asked ∷ [])))
        (one_in_turn old (commands_in requests) answers now next (asked_as asked) a was is)

    unread_more : (fault : _) → next ≡ now → AreAnswered Takes old (commands_in (requests ++ Err fault ∷ [])) answers next
    unread_more fault same =
        subst (λ (l : List Asked). AreAnswered Takes old l answers next) (sym (append-nil (commands_in requests)) ∙ sym (commands_both requests (Err fault ∷ [])))
        (subst (AreAnswered Takes old (commands_in requests) answers) (sym same) was)

    pub one_more : (request : ReadRequest) (answer : JsonAnswer) → TakesRequest now next request (Ok answer) → IsOneMore old requests answers request next (string_bytes answer.text)
    one_more (Ok asked) answer (Ok a, taken, reported) = record {
      all = answers ++ a ∷ [];
      taken = answered_more asked a taken;
      told = texts_both requests (Ok asked ∷ []) answers (a ∷ []) each ∙ ap (λ t. texts requests answers ++ t ∷ []) (sym reported.1);
    }
    one_more (Ok asked) answer (Err fault, taken, reported) = absurd (cc)
    one_more (Err fault) answer (same, reported) = record {
      all = answers;
      taken = unread_more fault same;
      told =
          ap (texts (requests ++ Err fault ∷ [])) (sym (append-nil answers))
          ∙ texts_both requests (Err fault ∷ []) answers [] each
          ∙ ap (λ t. texts requests answers ++ t ∷ []) (sym reported.1);
    }

  -- ---- Requests so far

  -- these requests were taken to a book so far, and are told of in this text
  pub record AreSoFar (old : Kept S) (requests : List ReadRequest) (now : Kept S) (text : AnswersText) : Type 0 where
    pub answers : List Answer
    pub taken : AreAnswered Takes old (commands_in requests) answers now
    pub has : HasTexts text (texts requests answers)

  pub none_so_far : (old : Kept S) (text : AnswersText) → string_bytes text.text ≡ codes "{\"answers\":[" → text.has_some ≡ false → AreSoFar old [] old text
  none_so_far old text begun none = record { answers = []; taken = refl; has = record { is = begun ∙ sym (append-nil (codes "{\"answers\":[")); some = none } }

  pub one_more_so_far : (old now next : Kept S) (requests : List ReadRequest) (request : ReadRequest) (answer : JsonAnswer) (text later : AnswersText)
      → AreSoFar old requests now text → TakesRequest now next request (Ok answer) → IsToldAlso text later (string_bytes answer.text)
      → AreSoFar old (requests ++ request ∷ []) next later
  one_more_so_far old now next requests request answer text later was taken also =
      let more = one_more old now next requests was.answers was.taken request answer taken in
      record {
        answers = more.all;
        taken = more.taken;
        has = subst (HasTexts later) (sym more.told) (has_more text later (texts requests was.answers) (string_bytes answer.text) was.has also);
      }

  -- ---- How taking them ended

  -- the answers to the first requests are those to the first commands of all
  firsts : (old now : Kept S) (first rest : List ReadRequest) (answers : List Answer) → AreAnswered Takes old (commands_in first) answers now
      → AreAnswered Takes old (take (length answers) (commands_in (first ++ rest))) answers now
  firsts old now first rest answers taken =
      let each = each_in_turn old now (commands_in first) answers taken in
      let is : take (length answers) (commands_in (first ++ rest)) ≡ commands_in first =
      ap (take (length answers)) (commands_both first rest) ∙ take_at (commands_in first) (commands_in rest) (length answers) (sym each) in
      subst (λ (l : List Asked). AreAnswered Takes old l answers now) (sym is) taken

  -- all were told of
  pub all_told : (old now new : Kept S) (requests : List ReadRequest) (text : AnswersText) (whole : String Global) → AreSoFar old requests now text → new ≡ now
      → string_bytes whole ≡ string_bytes text.text ++ codes "]}" → AreTaken Takes old new requests (Ok whole)
  all_told old now new requests text whole was same ends =
      let each = each_in_turn old now (commands_in requests) was.answers was.taken in
      record {
        answers = was.answers;
        now = now;
        taken = subst (λ (l : List Asked). AreAnswered Takes old l was.answers now) (sym (take_all (length was.answers) (commands_in requests) (omega (arith, each)))) was.taken;
        ends = (
          each,
          same,
          ends ∙ ap (λ t. t ++ codes "]}") was.has.is ∙ append_assoc (codes "{\"answers\":[") (with_commas (texts requests was.answers)) (codes "]}"),
        );
      }

  -- there was no memory for a line, or for the text
  no_memory_then : (old now new : Kept S) (first rest : List ReadRequest) (answers : List Answer) → AreAnswered Takes old (commands_in first) answers now → new ≡ now
      → AreTaken Takes old new (first ++ rest) (Err Memory)
  no_memory_then old now new first rest answers taken same = record { answers = answers; now = now; taken = firsts old now first rest answers taken; ends = same }

  pub no_memory_at_once : (book : Kept S) (requests : List ReadRequest) → AreTaken Takes book book requests (Err Memory)
  no_memory_at_once book requests = no_memory_then book book book [] requests [] refl refl

  pub no_memory_at_end : (old now new : Kept S) (requests : List ReadRequest) (text : AnswersText) → AreSoFar old requests now text → new ≡ now → AreTaken Takes old new requests (Err Memory)
  no_memory_at_end old now new requests text was same =
      subst (λ (l : List ReadRequest). AreTaken Takes old new l (Err Memory)) (append-nil requests) (no_memory_then old now new requests [] was.answers was.taken same)

  module _ (old now next : Kept S) (first : List ReadRequest) (request : ReadRequest) (rest : List ReadRequest) (text : AnswersText) (was : AreSoFar old first now text) where
    with_this : (answers : List Answer) (new : Kept S) → AreAnswered Takes old (commands_in (first ++ request ∷ [])) answers new → AreTaken Takes old new (first ++ request ∷ rest) (Err Memory)
    with_this answers new taken =
        subst (λ (l : List ReadRequest). AreTaken Takes old new l (Err Memory)) (append_assoc first (request ∷ []) rest) (no_memory_then old new new (first ++ request ∷ []) rest answers taken refl)

    -- there was no memory to tell of a request
    pub untold : (answer : JsonAnswer) → TakesRequest now next request (Ok answer) → AreTaken Takes old next (first ++ request ∷ rest) (Err Memory)
    untold answer taken = let more = one_more old now next first was.answers was.taken request answer taken in with_this more.all next more.taken

  -- a request has no answer
  module _ (old now next : Kept S) (first rest : List ReadRequest) (text : AnswersText) (was : AreSoFar old first now text) where
    at_place : (asked : _) → slice_get (commands_in (first ++ Ok asked ∷ rest)) (length was.answers) ≡ Some (asked_as asked)
    at_place asked =
        let xs = commands_in first in
        let ys = commands_in rest in
        let a = asked_as asked in
        let place : length was.answers ≡ length xs = each_in_turn old now xs was.answers was.taken in
        ap (λ (l : List Asked). slice_get l (length was.answers)) (commands_both first (Ok asked ∷ rest))
        ∙ ap (slice_get (xs ++ a ∷ ys)) place
        ∙ slice_get-get_or (xs ++ a ∷ ys) (length xs) a (omega (arith, length-append xs (a ∷ ys)))
        ∙ ap Some (get_or-append_seam xs a ys a)

    unanswered : (request : ReadRequest) (fault : AskFault) → TakesRequest now next request (Err fault) → AreTaken Takes old next (first ++ request ∷ rest) (Err fault)
    unanswered (Ok asked) fault (Ok a, taken, memory) =
        subst (λ f. AreTaken Takes old next (first ++ Ok asked ∷ rest) (Err f)) (sym memory)
        (with_this old now next first (Ok asked) rest text was (was.answers ++ a ∷ []) next (answered_more old now next first was.answers was.taken asked a taken))
    unanswered (Ok asked) fault (Err met, taken, reported) =
        let is : fault ≡ Book met = cc in
        subst (λ f. AreTaken Takes old next (first ++ Ok asked ∷ rest) (Err f)) (sym is)
        (record { answers = was.answers; now = now; taken = firsts old now first (Ok asked ∷ rest) was.answers was.taken; ends = (asked_as asked, at_place asked, taken) })
    unanswered (Err unread) fault (same, memory) =
        subst (λ f. AreTaken Takes old next (first ++ Err unread ∷ rest) (Err f)) (sym memory)
        (no_memory_then old now next first (Err unread ∷ rest) was.answers was.taken same)

    pub body_unanswered : (body : List ℕ) (fault : AskFault) → TakesBody now next body (Err fault) → AreTaken Takes old next (first ++ read_request body ∷ rest) (Err fault)
    body_unanswered body fault (inl taken) = unanswered (read_request body) fault taken
    body_unanswered body fault (inr (same, is)) =
        let memory : fault ≡ Memory = cc in
        subst (λ f. AreTaken Takes old next (first ++ read_request body ∷ rest) (Err f)) (sym memory)
        (no_memory_then old now next first (read_request body ∷ rest) was.answers was.taken same)

    -- a request has one
    pub body_answered : (body : List ℕ) (answer : JsonAnswer) → TakesBody now next body (Ok answer) → TakesRequest now next (read_request body) (Ok answer)
    body_answered body answer (inl taken) = taken
    body_answered body answer (inr (same, is)) = absurd (cc)

-- ---- The lines of requests

-- the requests of lines as a slice has them
abbrev pub asked_of : List (Bor (List ℕ)) → List ReadRequest
asked_of lines = requests_of (not_empty (map (λ (line : Bor (List ℕ)). line.now) lines))

asked_both : (lines more : List (Bor (List ℕ))) → asked_of (lines ++ more) ≡ asked_of lines ++ asked_of more
asked_both lines more =
    let now : Bor (List ℕ) → List ℕ = λ line. line.now in
    ap (λ l. requests_of (not_empty l)) (map-append now lines more)
    ∙ ap requests_of (filter-append has_bytes (map now lines) (map now more))
    ∙ map-append read_request (not_empty (map now lines)) (not_empty (map now more))

module _ (lines : List (Bor (List ℕ))) (i : ℕ) (d : Bor (List ℕ)) (within : i < length lines) where
  up_to : asked_of (take (i + 1) lines) ≡ asked_of (take i lines) ++ asked_of (get_or lines i d ∷ [])
  up_to = ap asked_of (take_at_read lines i d within).1 ∙ asked_both (take i lines) (get_or lines i d ∷ [])

  empty_none : (line : List ℕ) → true ≡ (length line == 0) → requests_of (not_empty (line ∷ [])) ≡ []
  empty_none [] none = refl
  empty_none (b ∷ line) none =
      let is : length (b ∷ line) ≡ 0 = eqb-true (length (b ∷ line)) 0 (sym none) in
      absurd (omega (arith, is))

  one_of_it : (line : List ℕ) → false ≡ (length line == 0) → requests_of (not_empty (line ∷ [])) ≡ read_request line ∷ []
  one_of_it [] some = absurd (cc)
  one_of_it (b ∷ line) some = refl

  -- an empty line has none
  pub asked_past : true ≡ (length (get_or lines i d).now == 0) → asked_of (take (i + 1) lines) ≡ asked_of (take i lines)
  asked_past none = up_to ∙ ap (λ l. asked_of (take i lines) ++ l) (empty_none (get_or lines i d).now none) ∙ append-nil (asked_of (take i lines))

  -- those up to another line, and all of them
  pub asked_up_to : false ≡ (length (get_or lines i d).now == 0) → asked_of (take (i + 1) lines) ≡ asked_of (take i lines) ++ read_request (get_or lines i d).now ∷ []
  asked_up_to some = up_to ∙ ap (λ l. asked_of (take i lines) ++ l) (one_of_it (get_or lines i d).now some)

  pub asked_around : false ≡ (length (get_or lines i d).now == 0) → asked_of lines ≡ asked_of (take i lines) ++ read_request (get_or lines i d).now ∷ asked_of (drop (i + 1) lines)
  asked_around some =
      ap asked_of (sym (take-append-drop (i + 1) lines))
      ∙ asked_both (take (i + 1) lines) (drop (i + 1) lines)
      ∙ ap (λ l. l ++ asked_of (drop (i + 1) lines)) (asked_up_to some)
      ∙ append_assoc (asked_of (take i lines)) (read_request (get_or lines i d).now ∷ []) (asked_of (drop (i + 1) lines))

-- ---- As requests are asked, and as they are checked

module _ {S : Type 0} (g : Ghosts S) (old new : Kept S) (body : List ℕ) (result : Result JsonAnswer AskFault) where
  pub body_asked : IsRequestAsked g old new body result → TakesBody (IsAnswered g) old new body result
  body_asked (inr unread) = inr unread
  body_asked (inl done) = inl (go (read_request body) done)
    where
      go : (read : ReadRequest) → IsDoneAsRead g old new read result → TakesRequest (IsAnswered g) old new read result
      go (Ok asked) it = (it.answer, it.answered, it.reported)
      go (Err fault) it = it

  pub body_checked : IsRequestChecked g old new body result → TakesBody (HasChecked g) old new body result
  body_checked (inr unread) = inr unread
  body_checked (inl done) = inl (go (read_request body) done)
    where
      go : (read : ReadRequest) → IsCheckedAsRead g old new read result → TakesRequest (HasChecked g) old new read result
      go (Ok asked) it = (it.answer, it.checked, it.reported)
      go (Err fault) it = it
