-- HOME among the bases of a roster, and a roster that has HOME alone.
use Rattle.std.proofs.Common.{◌≡◌, inl, inr, sym, ap, subst, ◌∙◌, ℕ, true, List, [], Some, None, cond, Result, Ok, Err, IfOk}
use Rattle.std.specs.FinMap as fin
use Rattle.std.specs.Cmp.Lexicographic.{nat_list_cmp_total}
use Rattle.std.specs.Option.{unwrap_or}
use Rattle.std.specs.Ordering.{eq_by_cmp}
use Rattle.std.proofs.lemmas.Bool.{cases_Bool}
use Rattle.values.specs.Name.{name_cmp}
use Rattle.values.proofs.Names.{alike}
use Rattle.time117.specs.Local.{is_zone_text}
use Rattle.duty.specs.Shape.{home, is_id}
use Rattle.command.specs.declared.member.Member.{Member}
use Rattle.roster.specs.Bases.{Bases, IsBase, home_zone, only_home}
use Rattle.roster.specs.Sound.{Members}
use Rattle.roster.specs.State.{State, empty}
use Rattle.roster.proofs.Accepted.{insert_here}
use Rattle.state_rows.proofs.Lists.{some_same}
use Rattle.state_rows.specs.First.{IsFirst}
use Rattle.entries.specs.Right.{AreBased, AreBases}
use Rattle.loading.specs.Reading.{AreAtHome, HasNoLater}
use Rattle.entries.specs.declared.fault.LoadFault.{LoadFault}

-- ---- HOME alone

pub home_there : (zone : List ℕ) → fin.get (only_home zone) home ≡ Some zone
home_there zone = insert_here (fin.empty {R = name_cmp}) home zone

pub home_is : (zone : List ℕ) → home_zone (only_home zone) ≡ zone
home_is zone = ap (λ o. unwrap_or o []) (home_there zone)

-- the zone that stands under HOME is that of HOME
pub zone_there : (bases : Bases) (zone : List ℕ) → fin.get bases home ≡ Some zone → home_zone bases ≡ zone
zone_there bases zone there = ap (λ o. unwrap_or o []) there

pub begun : (r : State) (zone : List ℕ) → r ≡ empty zone → home_zone r.bases ≡ zone
begun r zone is = ap (λ (s : State). home_zone s.bases) is ∙ home_is zone

pub begun_empty : (r : State) (zone : List ℕ) → r ≡ empty zone → r ≡ empty (home_zone r.bases)
begun_empty r zone is = is ∙ ap empty (sym (begun r zone is))

get_home : (zone q : List ℕ) → fin.get (only_home zone) q ≡ cond (eq_by_cmp name_cmp q home) (Some zone) None
get_home zone q = fin.get-insert nat_list_cmp_total (fin.empty {R = name_cmp}) home zone q ∙ ap (λ o. cond (eq_by_cmp name_cmp q home) (Some zone) o) (fin.get-empty name_cmp q)

-- what stands in it is HOME
pub alone : (zone id other : List ℕ) → fin.get (only_home zone) id ≡ Some other → (id ≡ home) × (other ≡ zone)
alone zone id other there = elim (cases_Bool (eq_by_cmp name_cmp id home)) [
  | inl tied ↦
      let told : Some zone ≡ Some other = sym (get_home zone id ∙ ap (λ b. cond b (Some zone) None) tied) ∙ there in
      (alike id home tied, sym (some_same told))
  | inr apart ↦
      let told : None ≡ Some other = sym (get_home zone id ∙ ap (λ b. cond b (Some zone) None) apart) ∙ there in
      absurd (cc)
]

-- ---- A state that version 1 can say

module _ (s : State) (first : IsFirst s) where
  pub has_home : IsBase s.bases home
  has_home = (home_zone s.bases, ap (λ (m : Bases). fin.get m home) first.bases ∙ home_there (home_zone s.bases))

  pub are_bases : is_zone_text (home_zone s.bases) ≡ true → AreBases s
  are_bases text = record {
    has_home = has_home;
    shaped = λ id zone there.
        let it = alone (home_zone s.bases) id zone (ap (λ (m : Bases). fin.get m id) (sym first.bases) ∙ there) in
        (ap is_id it.0, ap is_zone_text it.1 ∙ text);
  }

  pub are_based : AreBased s
  are_based who m there = subst (IsBase s.bases) (sym (first.members who m there)) has_home

-- ---- Members at HOME

pub none_at_home : (c : Members) → c ≡ fin.empty → AreAtHome c
none_at_home c none who m there = absurd (let e = sym (ap (λ (x : Members). fin.get x who) none ∙ fin.get-empty name_cmp who) ∙ there in cc)

pub one_at_home : (c : Members) (id : List ℕ) (m : Member) → m.base ≡ home → AreAtHome c → AreAtHome (fin.insert c id m)
one_at_home c id m here at who n there =
    let got = fin.get-insert nat_list_cmp_total c id m who in
    elim (cases_Bool (eq_by_cmp name_cmp who id)) [
      | inl tied ↦
          let same : m ≡ n = some_same (ap (λ b. cond b (Some m) (fin.get c who)) (sym tied) ∙ sym got ∙ there) in
          ap (λ (x : Member). x.base) (sym same) ∙ here
      | inr apart ↦ at who n (ap (λ b. cond b (Some m) (fin.get c who)) (sym apart) ∙ sym got ∙ there)
    ]

-- ---- A roster that is read from the tables of version 1

planned_without_later : (s t u : State) → s ≡ empty (home_zone s.bases) → t ≡ record s { crew = t.crew } → AreAtHome t.crew → u ≡ record t { pairings = u.pairings } → HasNoLater u
planned_without_later s t u none read at planned =
    subst HasNoLater (sym planned) (
      subst (λ (m : Bases). m ≡ only_home (home_zone m)) (sym (ap (λ (x : State). x.bases) read)) (ap (λ (x : State). x.bases) none),
      at,
      ap (λ (x : State). x.outsides) read ∙ ap (λ (x : State). x.outsides) none,
    )

pub plans_without_later : (s t : State) (result : Result State LoadFault) → s ≡ empty (home_zone s.bases) → t ≡ record s { crew = t.crew } → AreAtHome t.crew →
    IfOk result (λ u. u ≡ record t { pairings = u.pairings }) → IfOk result HasNoLater
plans_without_later s t (Ok u) none read at planned = planned_without_later s t u none read at planned
plans_without_later s t (Err fault) none read at planned = tt

pub duties_without_later : (s t : State) (result : Result State LoadFault) → HasNoLater s → t ≡ record s { pairings = t.pairings } → IfOk result (λ u. u ≡ record t { grounds = u.grounds }) → IfOk result HasNoLater
duties_without_later s t (Ok u) at one two = subst HasNoLater (sym two) (subst HasNoLater (sym one) at)
duties_without_later s t (Err fault) at one two = tt

pub exceedances_without_later : (s t : State) → HasNoLater s → t ≡ record s { exceedances = t.exceedances } → HasNoLater t
exceedances_without_later s t at one = subst HasNoLater (sym one) at
