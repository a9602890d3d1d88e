-- A step over lists, and a list of named duties as the duties of a member that are judged.
use Rattle.std.proofs.Common.{◌≡◌, ◌∙◌, ℕ, suc, ◌+◌, ◌-◌, ◌<◌, arith, List, [], ◌∷◌, ◌++◌, map, length, drop, get_or, add-one, drop-cons, append_assoc, refl, sym, ap, ap₂, subst, Some, None}
use Rattle.std.specs.Prelude.{slice_range}
use Rattle.std.proofs.lemmas.List.{drop-map, length-drop, length-map, map-append, take_all}
use Rattle.std.proofs.Math.Seq.{drop-append_seam}
use Rattle.duty.specs.declared.duty_in_force.DutyInForce.{DutyInForce}
use Rattle.limits.specs.Judgement.{all_sections}
use Rattle.nearness.specs.Nearness.{IsNearness}
use Rattle.roster.specs.Places.{Placed, duties, history_of, periods_at}
use Rattle.roster.specs.State.{State, zone_of}
use Rattle.roster.specs.declared.state.PairingEntry.{PairingEntry}
use Rattle.limits_report.specs.NearestLimits.{AreNearest, Judged, names, nearest_limit, others_than}
use Rattle.limits_report.specs.Listing.{AreNearestOf, all_but_pairing, named_duty, names_of, times_of}
use Rattle.limits_report.specs.declared.named_duties.NamedDuty.{NamedDuty}
use Rattle.limits_report.specs.declared.nearest.NearestLimit.{NearestLimit}

-- one item more
pub one_more : {X Y : Type 0} (f : X → Y) (before after : List Y) (y : Y) (all : List Y) (items : List X) (k : ℕ) (d : X) → k < length items →
    y ≡ f (get_or items k d) → after ≡ before ++ y ∷ [] → before ++ map f (drop k items) ≡ all → after ++ map f (drop (k + 1) items) ≡ all
one_more f before after y all items k d l is added so_far =
    let rest : drop k items ≡ get_or items k d ∷ drop (suc k) items = drop-cons items k d l in
    let more = map f (drop (k + 1) items) in
    let next : map f (drop k items) ≡ f (get_or items k d) ∷ more = rw (add-one k) (ap (map f) rest) in
    ap (λ ys. ys ++ more) added
    ∙ append_assoc before (y ∷ []) more
    ∙ ap (λ x. before ++ x ∷ more) is
    ∙ ap (λ ys. before ++ ys) (sym next)
    ∙ so_far

-- the duties from an index on, without their names
pub times_to_end : (n : ℕ) (list : List NamedDuty) (new : List DutyInForce) → new ≡ times_of (slice_range list n (length list)) →
    new ≡ times_of (drop n list)
times_to_end n list new are =
    let long = length-drop n list in
    let all : slice_range list n (length list) ≡ drop n list = take_all (length list - n) (drop n list) (omega (arith, long)) in
    are ∙ ap times_of all

pub times_from : (n : ℕ) (list : List NamedDuty) (all new : List DutyInForce) → all ≡ times_of list → new ≡ times_of (drop n list) → drop n all ≡ new
times_from n list all new is are = ap (drop n) is ∙ drop-map (λ (d : NamedDuty). d.duty) n list ∙ sym are

-- named duties have the times and the names of their places
times_named : (xs : List Placed) → times_of (map named_duty xs) ≡ duties xs
times_named [] = refl
times_named (x ∷ xs) = ap (λ ds. x.1 ∷ ds) (times_named xs)

names_named : (xs : List Placed) → names_of (map named_duty xs) ≡ names xs
names_named [] = refl
names_named (x ∷ xs) = ap (λ ns. (named_duty x).name ∷ ns) (names_named xs)

pub judged_from : (j : Judged) (list : List NamedDuty) (others : ℕ) (limits : List NearestLimit) → list ≡ map named_duty (j.others ++ j.new) →
    others ≡ length j.others → AreNearestOf list others limits → AreNearest j limits
judged_from j list others limits is count found =
    let all : times_of list ≡ duties (j.others ++ j.new) = ap times_of is ∙ times_named (j.others ++ j.new) in
    let split : list ≡ map named_duty j.others ++ map named_duty j.new = is ∙ map-append named_duty j.others j.new in
    let long : others ≡ length (map named_duty j.others) = count ∙ sym (length-map j.others named_duty) in
    let last : drop others list ≡ map named_duty j.new = ap₂ drop long split ∙ drop-append_seam (map named_duty j.others) (map named_duty j.new) in
    let new : times_of (drop others list) ≡ duties j.new = ap times_of last ∙ times_named j.new in
    let is_named : names_of list ≡ names (j.others ++ j.new) = ap names_of is ∙ names_named (j.others ++ j.new) in
    record {
      nearness = found.nearness;
      nearest =
          subst (λ n. IsNearness (duties (j.others ++ j.new)) (duties j.new) n found.nearness) count
          (subst (λ ds. IsNearness (duties (j.others ++ j.new)) ds others found.nearness) new
          (subst (λ ds. IsNearness ds (times_of (drop others list)) others found.nearness) all found.nearest));
      are = found.are ∙ ap (λ ns. map (nearest_limit ns found.nearness) all_sections) is_named;
    }

-- the list of a member's duties, of which none is left out
but_none : (xs : List Placed) → all_but_pairing None xs ≡ map named_duty xs
but_none [] = refl
but_none (x ∷ xs) = ap (λ ds. named_duty x ∷ ds) (but_none xs)

pub listed_as_they_are : (s : State) (who : List ℕ) (a b : List NamedDuty) → a ≡ all_but_pairing None (history_of s who) → b ≡ a →
    b ≡ map named_duty ([] ++ history_of s who)
listed_as_they_are s who a b all is = is ∙ all ∙ but_none (history_of s who)

-- the list of a member's duties but for a pairing, and then the periods of the pairing
pub listed_as_if_held : (s : State) (who own id : List ℕ) (r : PairingEntry) (a b c : List NamedDuty) → a ≡ all_but_pairing (Some id) (history_of s who) →
    own ≡ zone_of s who → b ≡ a ++ map named_duty (periods_at own (id, r)) → c ≡ b →
    c ≡ map named_duty (others_than s who id ++ periods_at (zone_of s who) (id, r))
listed_as_if_held s who own id r a b c all same added is =
    is ∙ added ∙ ap₂ (λ ds z. ds ++ map named_duty (periods_at z (id, r))) all same
    ∙ sym (map-append named_duty (others_than s who id) (periods_at (zone_of s who) (id, r)))

pub count_of_others : (s : State) (who id : List ℕ) (a : List NamedDuty) (n : ℕ) → a ≡ all_but_pairing (Some id) (history_of s who) → n ≡ length a →
    n ≡ length (others_than s who id)
count_of_others s who id a n all count = count ∙ ap length all ∙ length-map (others_than s who id) named_duty
