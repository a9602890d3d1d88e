-- How many bytes settle an input, by its front.
use Rattle.std.proofs.Common.{◌≡◌, ◌≤◌, inr, ℕ, Bool, true, false, Option, Some, None, codes, nat_lt, if◌then◌else◌, List, ◌++◌, length, drop, refl, sym, ap, ◌∙◌, subst, arith, append_assoc, length-append}
use Rattle.httparse.specs.declared.spans.HeaderSpan.{HeaderSpan}
use Rattle.httparse.specs.declared.spans.RequestSpans.{RequestSpans}
use Rattle.httparse.specs.Grammar.{RequestHead, HasNoRequest, print_request}
use Rattle.httparse.specs.Spans.{IsRequestAt, IsRequestWithin, RequestOverflows}
use Rattle.httparse.proofs.GrammarLemmas.{ReadsRequest-append}
use Rattle.std.specs.Str.{is_utf8}
use Rattle.http_message.specs.Heading.{Heading, heading, shown_head}
use Rattle.http_message.specs.Reading.{HasHead, HasNoHead}
use Rattle.http_message.specs.Target.{path_of, form_of, without_json}
use Rattle.request.specs.declared.form.Form.{Form}
use Rattle.request.specs.declared.form.Form.TheVariants.{Text, Json}
use Rattle.request.specs.Days.{Days, days_read}
use Rattle.request.specs.declared.subject.Subject.{Subject}
use Rattle.request.specs.declared.subject.Subject.TheVariants as subject
use Rattle.http_message.specs.Routes.{PathResource, place_of_path}
use Rattle.http_message.specs.Routes as place
use Rattle.http_message.specs.Numbers.{path_number}
use Rattle.http_message.specs.Plan.{Step, board_shown, count_shown, field, imported, desk_shown, request_shown, is_foreign, is_method, is_to_show, lacks_host, plan_for_head, posted, shown, step_of_place}
use Rattle.http_message.specs.declared.plan.Submission.{Submission}
use Rattle.http_message.specs.Extents.{IsExtent, IsExtentOf, NeverHasHead, body_length, waits}
use Rattle.http_message.specs.declared.extents.Extent.{Extent}
use Rattle.http_message.specs.declared.extents.Extent.TheVariants.{Known, Unknown}
use Rattle.http_message.proofs.HeadLemmas.{no_head_hopeless, no_head_too_long, fields_counted, shown_is}

pub never_hopeless : (bytes front back : List ℕ) → front ++ back ≡ bytes → RequestOverflows 64 front → NeverHasHead bytes
never_hopeless bytes front back is over more =
    subst HasNoHead (sym (append_assoc front back more) ∙ ap (λ t. t ++ more) is) (no_head_hopeless front (back ++ more) over)

pub never_too_long : (bytes front back : List ℕ) → front ++ back ≡ bytes → length front ≡ 16_384 → HasNoRequest front → NeverHasHead bytes
never_too_long bytes front back is full none more =
    subst HasNoHead (sym (append_assoc front back more) ∙ ap (λ t. t ++ more) is) (no_head_too_long front (back ++ more) full none)

pub head_extent : (bytes front back : List ℕ) (fields : List HeaderSpan) (spans : RequestSpans) (it : Extent) → front ++ back ≡ bytes → length front ≤ 16_384 → length fields ≡ 64
    → (h : RequestHead) × IsRequestAt front fields spans h × IsRequestWithin front fields spans
    → IsExtentOf spans.len (plan_for_head (shown_head front fields spans)).step it → IsExtent bytes it
head_extent bytes front back fields spans Unknown is short room at never = absurd never
head_extent bytes front back fields spans (Known it) is short room (h, at, within) known =
    let rest = drop spans.len front in
    let has : HasHead (front ++ back) h (rest ++ back) = record {
      reads = ReadsRequest-append front h rest back at.reads;
      short = omega (arith, short, ap length at.reads.1, length-append (print_request h) rest);
      few = fields_counted front fields spans h at within room;
    } in
    let same = shown_is front fields spans h at in
    let by_head : IsExtentOf spans.len (plan_for_head (heading h)).step (Known it) = subst (λ t. IsExtentOf spans.len (plan_for_head t).step (Known it)) same known in
    inr (h, rest ++ back, subst (λ t. HasHead t h (rest ++ back)) is has, subst (λ n. IsExtentOf n (plan_for_head (heading h)).step (Known it)) at.len by_head)

-- ---- Only a POST has a body

-- a step that receives no body
abbrev NeedsNoBody : Step → Type 0
NeedsNoBody step = (body_length step ≡ 0) × (waits step ≡ false)

either_needs_none : (b : Bool) (first second : Step) → NeedsNoBody first → NeedsNoBody second → NeedsNoBody (if b then first else second)
either_needs_none true first second one other = one
either_needs_none false first second one other = other

module _ (h : Heading) (other : is_method h (codes "POST") ≡ false) where
  not_posted : (to : Submission) → NeedsNoBody (posted h to)
  not_posted to = rw other (refl, refl)

  only_shown : (what : Subject (List ℕ) (List ℕ)) (form : Form) → NeedsNoBody (shown h what form)
  only_shown what form = either_needs_none (is_to_show h) _ _ (refl, refl) (refl, refl)

  only_request_shown : (number : Option ℕ) (form : Form) → NeedsNoBody (request_shown h number form)
  only_request_shown None form = (refl, refl)
  only_request_shown (Some number) form = only_shown (subject.Request number) form

  only_board_shown : (days : Option Days) (form : Form) → NeedsNoBody (board_shown h days form)
  only_board_shown None form = (refl, refl)
  only_board_shown (Some days) form = only_shown (subject.Board days) form

  only_desk_shown : NeedsNoBody (desk_shown h)
  only_desk_shown = either_needs_none (is_to_show h) _ _ (refl, refl) (refl, refl)

  only_count_shown : NeedsNoBody (count_shown h)
  only_count_shown = either_needs_none (is_to_show h) _ _ (refl, refl) (refl, refl)

  not_imported : (number : Option ℕ) → NeedsNoBody (imported h number)
  not_imported None = (refl, refl)
  not_imported (Some number) = not_posted _

  no_place_needs_a_body : (named : Option PathResource) (form : Form) → NeedsNoBody (step_of_place h named form)
  no_place_needs_a_body None form = (refl, refl)
  no_place_needs_a_body (Some (place.report what)) form = only_shown what form
  no_place_needs_a_body (Some (place.request number)) form = only_request_shown (path_number number) form
  no_place_needs_a_body (Some (place.board first last)) form = only_board_shown (days_read first last) form
  no_place_needs_a_body (Some place.desk) Text = only_desk_shown
  no_place_needs_a_body (Some place.count) Json = only_count_shown
  no_place_needs_a_body (Some place.requests) Text = not_posted _
  no_place_needs_a_body (Some place.checks) Text = not_posted _
  no_place_needs_a_body (Some place.lines) Text = not_posted _
  no_place_needs_a_body (Some place.line_checks) Text = not_posted _
  no_place_needs_a_body (Some (place.import number)) Text = not_imported (path_number number)
  no_place_needs_a_body (Some place.count) Text = (refl, refl)
  no_place_needs_a_body (Some place.desk) Json = (refl, refl)
  no_place_needs_a_body (Some place.requests) Json = (refl, refl)
  no_place_needs_a_body (Some place.checks) Json = (refl, refl)
  no_place_needs_a_body (Some place.lines) Json = (refl, refl)
  no_place_needs_a_body (Some place.line_checks) Json = (refl, refl)
  no_place_needs_a_body (Some (place.import number)) Json = (refl, refl)

  no_body : NeedsNoBody (plan_for_head h).step
  no_body =
      either_needs_none (lacks_host h) _ _ (refl, refl)
      (either_needs_none (is_foreign h) _ _ (refl, refl)
      (either_needs_none (nat_lt 0 (length (field h (codes "transfer-encoding")))) _ _ (refl, refl)
      (either_needs_none (is_utf8 (path_of h.target)) _ _ (no_place_needs_a_body (place_of_path (without_json (path_of h.target))) (form_of (path_of h.target))) (refl, refl))))

-- a head of another method than POST settles its request
pub only_posts_have_bodies : (h : Heading) (length : ℕ) → is_method h (codes "POST") ≡ false → IsExtentOf length (plan_for_head h).step (Known (record { length = length; waits = false }))
only_posts_have_bodies h length other =
    let none = no_body h other in
    (omega (arith, none.0), sym none.1)
