-- Near pairings that are added, each with its member in a seat, say of the state's what is so.
use Rattle.std.proofs.Common.{◌≡◌, inl, inr, ◌⊎◌, ℕ, true, false, ◌||◌, List, [], ◌∷◌, ◌++◌, refl, sym, ap, subst, ◌∙◌, Option, Some, None, is_some, cond, Contains, if◌then◌else◌}
use Rattle.std.specs.Ordering.{eq_by_cmp}
use Rattle.std.specs.FinMap as fin
use Rattle.std.specs.Cmp.Lexicographic.{nat_list_cmp_total}
use Rattle.std.specs.List.{fold}
use Rattle.std.specs.Option.{option_map}
use Rattle.std.proofs.lemmas.Bool.{cases_Bool}
use Rattle.std.proofs.lemmas.List.Elements.{Contains-append_cases}
use Rattle.std.proofs.lemmas.Option.{same_Some}
use Rattle.std.proofs.lemmas.Slice.Eq.{bytes_eq-Decides}
use Rattle.values.specs.Name.{name_cmp}
use Rattle.values.proofs.Names.{alike, get-changed_at, itself}
use Rattle.command.specs.declared.member.Member.{Member}
use Rattle.command.specs.declared.member.Seat.{Seat}
use Rattle.command.specs.declared.member.Seat.TheVariants.{Captain, FirstOfficer}
use Rattle.duty.specs.declared.span.Span.{Span}
use Rattle.roster.specs.Near.{AreHeldNear, IsHeldNear, with_free_seats}
use Rattle.roster.specs.Pairings.{holder, holds, is_held_by, with_holder}
use Rattle.roster.specs.Sound.{Sound}
use Rattle.roster.specs.State.{State}
use Rattle.roster.specs.declared.state.PairingEntry.{PairingEntry}
use Rattle.roster.proofs.Members.{first_or_later, from_map, in_map, is_first, is_later, none_in}
use Rattle.part.specs.Near.{AreSo, HaveHeld, IsSoOf}
use Rattle.part.specs.Sources.{AddsNear, FliesIn, with_held}

-- ---- Seats

of_held : (who : List ℕ) (o : Option (List ℕ)) → is_held_by who o ≡ true → o ≡ Some who
of_held who None is = absurd (cc)
of_held who (Some other) is = ap Some ((bytes_eq-Decides other who).0 is)

is_held : (who : List ℕ) (o : Option (List ℕ)) → o ≡ Some who → is_held_by who o ≡ true
is_held who o is = ap (is_held_by who) is ∙ (bytes_eq-Decides who who).1 refl

pub seat_held : (who : List ℕ) (r : PairingEntry) (x : Seat) → holder x r ≡ Some who → holds who r ≡ true
seat_held who r Captain held = ap (λ b. b || is_held_by who r.first_officer) (is_held who r.captain held)
seat_held who r FirstOfficer held = elim (is_held_by who r.captain) as (λ b. (b || is_held_by who r.first_officer) ≡ true) [ true ↦ refl | false ↦ is_held who r.first_officer held ]

pub some_seat : (who : List ℕ) (r : PairingEntry) → holds who r ≡ true → (x : Seat) × (holder x r ≡ Some who)
some_seat who r is = elim (cases_Bool (is_held_by who r.captain)) [
  | inl captain ↦ (Captain, of_held who r.captain captain)
  | inr other ↦ (FirstOfficer, of_held who r.first_officer (ap (λ b. b || is_held_by who r.first_officer) (sym other) ∙ is))
]

-- one who has a seat in the first has it in the second
pub holds_so : (r some : PairingEntry) → IsSoOf r some → (who : List ℕ) → holds who some ≡ true → holds who r ≡ true
holds_so r some so who is = let x = some_seat who some is in seat_held who r x.0 (so.seats x.0 who x.1)

-- a holder is put into a seat
put_there : (x : Seat) (o : Option (List ℕ)) (r : PairingEntry) → holder x (with_holder x o r) ≡ o
put_there Captain o r = refl
put_there FirstOfficer o r = refl

-- a pairing with the holder that it has is itself
put_same : (x : Seat) (r : PairingEntry) → with_holder x (holder x r) r ≡ r
put_same Captain r = refl
put_same FirstOfficer r = refl

-- whoever has a seat then had it before, or was put there
put_cases : (x y : Seat) (o : Option (List ℕ)) (r : PairingEntry) (w : List ℕ) → holder y (with_holder x o r) ≡ Some w →
    (holder y r ≡ Some w) ⊎ ((x ≡ y) × (o ≡ Some w))
put_cases Captain Captain o r w is = inr (refl, is)
put_cases Captain FirstOfficer o r w is = inl is
put_cases FirstOfficer Captain o r w is = inl is
put_cases FirstOfficer FirstOfficer o r w is = inr (refl, is)

-- a seat stays as it was, or is the one of which the holder is put
stays_cases : (x y : Seat) (o : Option (List ℕ)) (r : PairingEntry) → (holder y (with_holder x o r) ≡ holder y r) ⊎ (x ≡ y)
stays_cases Captain Captain o r = inr refl
stays_cases Captain FirstOfficer o r = inl refl
stays_cases FirstOfficer Captain o r = inl refl
stays_cases FirstOfficer FirstOfficer o r = inr refl

put_plan : (x : Seat) (o : Option (List ℕ)) (r : PairingEntry) → (with_holder x o r).plan ≡ r.plan
put_plan Captain o r = refl
put_plan FirstOfficer o r = refl

put_actuals : (x : Seat) (o : Option (List ℕ)) (r : PairingEntry) → (with_holder x o r).actuals ≡ r.actuals
put_actuals Captain o r = refl
put_actuals FirstOfficer o r = refl

-- what is said with the right holder in a seat is so
put_so : (r some : PairingEntry) (x : Seat) (who : List ℕ) → holder x r ≡ Some who → IsSoOf r some → IsSoOf r (with_holder x (Some who) some)
put_so r some x who held so = record {
  plan = put_plan x (Some who) some ∙ so.plan;
  actuals = put_actuals x (Some who) some ∙ so.actuals;
  seats = λ y w is. elim (put_cases x y (Some who) some w is) [
    | inl before ↦ so.seats y w before
    | inr put ↦ ap (λ z. holder z r) (sym put.0) ∙ held ∙ put.1
  ];
}

nobody_there : (r : PairingEntry) (y : Seat) (w : List ℕ) → holder y (with_free_seats r) ≡ Some w → ⊥
nobody_there r Captain w e = cc
nobody_there r FirstOfficer w e = cc

free_so : (r free : PairingEntry) → free ≡ with_free_seats r → IsSoOf r free
free_so r free is = record {
  plan = ap (λ (q : PairingEntry). q.plan) is;
  actuals = ap (λ (q : PairingEntry). q.actuals) is;
  seats = λ y w held. absurd (nobody_there r y w (ap (holder y) (sym is) ∙ held));
}

-- who had a seat still has it
put_kept : (r some : PairingEntry) (x : Seat) (who : List ℕ) → holder x r ≡ Some who → IsSoOf r some → (w : List ℕ) → holds w some ≡ true →
    holds w (with_holder x (Some who) some) ≡ true
put_kept r some x who held so w is =
    let y = some_seat w some is in
    seat_held w (with_holder x (Some who) some) y.0 (elim (stays_cases x y.0 (Some who) some) [
      | inl same ↦ same ∙ y.1
      | inr here ↦
          ap (λ z. holder z (with_holder x (Some who) some)) (sym here) ∙ put_there x (Some who) some
          ∙ sym held ∙ ap (λ z. holder z r) here ∙ so.seats y.0 w y.1
    ])

module _ (s : State) (sound : Sound s) where
  -- a member of whom a pairing has a seat flies in this seat
  flies_in : (who id : List ℕ) (r : PairingEntry) → fin.get s.pairings id ≡ Some r → (x : Seat) → holder x r ≡ Some who → FliesIn s x who
  flies_in who id r there Captain held = (sound.pairings id r there).captain who held
  flies_in who id r there FirstOfficer held = (sound.pairings id r there).first_officer who held

  own_seat : (seat : Seat) (who : List ℕ) → FliesIn s seat who → (id : List ℕ) (r : PairingEntry) → fin.get s.pairings id ≡ Some r → holds who r ≡ true → holder seat r ≡ Some who
  own_seat seat who flies id r there is =
      let x = some_seat who r is in
      let it = flies_in who id r there x.0 x.1 in
      let same : it.0 ≡ flies.0 = same_Some it.0 flies.0 (sym it.1 ∙ flies.1) in
      let seats : x.0 ≡ seat = sym it.2 ∙ ap (λ (m : Member). m.seat) same ∙ flies.2 in
      ap (λ y. holder y r) (sym seats) ∙ x.1

  -- who is no member holds nothing
  pub no_member : (spans : List Span) (who : List ℕ) → fin.get s.crew who ≡ None → (id : List ℕ) → IsHeldNear s spans who id → ⊥
  no_member spans who none id is =
      let x = some_seat who is.0 is.2 in
      let it = flies_in who id is.0 is.1 x.0 x.1 in
      let no : None ≡ Some it.0 = sym none ∙ it.1 in cc

-- ---- One pairing

module _ (p : fin.FinMap name_cmp PairingEntry) (k : List ℕ) (free : PairingEntry) where
  -- it is there, as it was or with its seats free
  abbrev with_free : fin.FinMap name_cmp PairingEntry
  with_free = if fin.contains_key p k then p else fin.insert p k free

  free_there : (x : PairingEntry) × (fin.get with_free k ≡ Some x) × ((fin.get p k ≡ Some x) ⊎ ((fin.get p k ≡ None) × (x ≡ free)))
  free_there = elim (fin.get p k) as (λ o. fin.get p k ≡ o →
      (x : PairingEntry) × (fin.get (if is_some o then p else fin.insert p k free) k ≡ Some x) × ((o ≡ Some x) ⊎ ((o ≡ None) × (x ≡ free)))) [
        | None ↦ λ none. (free, fin.get-insert nat_list_cmp_total p k free k ∙ ap (λ b. cond b (Some free) (fin.get p k)) (itself k k refl), inr (refl, refl))
        | Some x ↦ λ there. (x, there, inl refl)
      ] refl

  free_elsewhere : (id : List ℕ) → eq_by_cmp name_cmp id k ≡ false → fin.get with_free id ≡ fin.get p id
  free_elsewhere id other = elim (fin.contains_key p k) as (λ b. fin.get (if b then p else fin.insert p k free) id ≡ fin.get p id) [
    | true ↦ refl
    | false ↦ fin.get-insert nat_list_cmp_total p k free id ∙ ap (λ b. cond b (Some free) (fin.get p id)) other
  ]

module _ (seat : Seat) (who : List ℕ) (free : PairingEntry) (p : fin.FinMap name_cmp PairingEntry) where
  abbrev q : fin.FinMap name_cmp PairingEntry
  q = with_held seat who free p

  abbrev k : List ℕ
  k = free.plan.id

  abbrev put : PairingEntry → PairingEntry
  put = with_holder seat (Some who)

  at_key : (x : PairingEntry) × (fin.get q k ≡ Some (put x)) × ((fin.get p k ≡ Some x) ⊎ ((fin.get p k ≡ None) × (x ≡ free)))
  at_key =
      let it = free_there p k free in (
        it.0,
        get-changed_at (with_free p k free) k put k
            ∙ ap (λ b. cond b (option_map put (fin.get (with_free p k free) k)) (fin.get (with_free p k free) k)) (itself k k refl)
            ∙ ap (option_map put) it.1,
        it.2,
      )

  elsewhere : (id : List ℕ) → eq_by_cmp name_cmp id k ≡ false → fin.get q id ≡ fin.get p id
  elsewhere id other =
      get-changed_at (with_free p k free) k put id
      ∙ ap (λ b. cond b (option_map put (fin.get (with_free p k free) k)) (fin.get (with_free p k free) id)) other
      ∙ free_elsewhere p k free id other

  -- of the state, whose member flies in the seat and holds the pairing
  module _ (s : State) (sound : Sound s) (flies : FliesIn s seat who) (r : PairingEntry) (there : fin.get s.pairings k ≡ Some r) (is_free : free ≡ with_free_seats r) (held : holds who r ≡ true) where
    seated : holder seat r ≡ Some who
    seated = own_seat s sound seat who flies k r there held

    whole_one : (id : List ℕ) → fin.get p id ≡ fin.get s.pairings id → fin.get q id ≡ fin.get s.pairings id
    whole_one id same = elim (cases_Bool (eq_by_cmp name_cmp id k)) [
      | inl tied ↦ (let here : id ≡ k = alike id k tied in elim at_key.2 [
        | inl known ↦
            let value : at_key.0 ≡ r = same_Some at_key.0 r (sym known ∙ subst (λ i. fin.get p i ≡ fin.get s.pairings i) here same ∙ there) in
            let put_r : put r ≡ r = ap (λ o. with_holder seat o r) (sym seated) ∙ put_same seat r in
            ap (fin.get q) here ∙ at_key.1 ∙ ap (λ x. Some (put x)) value ∙ ap Some put_r ∙ sym there ∙ ap (fin.get s.pairings) (sym here)
        | inr none ↦ absurd (let no : None ≡ Some r = sym none.0 ∙ subst (λ i. fin.get p i ≡ fin.get s.pairings i) here same ∙ there in cc)
      ])
      | inr other ↦ elsewhere id other ∙ same
    ]

    -- what is said of it at its key
    so_before : AreSo s p → IsSoOf r at_key.0
    so_before so = elim at_key.2 [
      | inl known ↦
          let it = so k at_key.0 known in
          let same : it.0 ≡ r = same_Some it.0 r (sym it.1 ∙ there) in
          subst (λ x. IsSoOf x at_key.0) same it.2
      | inr none ↦ subst (IsSoOf r) (sym none.1) (free_so r free is_free)
    ]

    so_one : AreSo s p → AreSo s q
    so_one so id some at = elim (cases_Bool (eq_by_cmp name_cmp id k)) [
      | inl tied ↦
          let here : id ≡ k = alike id k tied in
          let is : put at_key.0 ≡ some = same_Some (put at_key.0) some (sym at_key.1 ∙ ap (fin.get q) (sym here) ∙ at) in
          (r, ap (fin.get s.pairings) here ∙ there, subst (IsSoOf r) is (put_so r at_key.0 seat who seated (so_before so)))
      | inr other ↦ so id some (sym (elsewhere id other) ∙ at)
    ]

    kept_one : AreSo s p → (w id : List ℕ) → HaveHeld p w id → HaveHeld q w id
    kept_one so w id has = elim (cases_Bool (eq_by_cmp name_cmp id k)) [
      | inl tied ↦ (let here : id ≡ k = alike id k tied in elim at_key.2 [
        | inl known ↦
            let value : has.0 ≡ at_key.0 = same_Some has.0 at_key.0 (sym has.1 ∙ ap (fin.get p) here ∙ known) in
            (put at_key.0, ap (fin.get q) here ∙ at_key.1, put_kept r at_key.0 seat who seated (so_before so) w (ap (holds w) (sym value) ∙ has.2))
        | inr none ↦ absurd (let no : None ≡ Some has.0 = sym none.0 ∙ ap (fin.get p) (sym here) ∙ has.1 in cc)
      ])
      | inr other ↦ (has.0, elsewhere id other ∙ has.1, has.2)
    ]

    here_one : HaveHeld q who k
    here_one = (put at_key.0, at_key.1, seat_held who (put at_key.0) seat (put_there seat (Some who) at_key.0))

-- ---- Several pairings

module _ (s : State) (sound : Sound s) (seat : Seat) (who : List ℕ) (flies : FliesIn s seat who) where
  abbrev all_held : List PairingEntry → fin.FinMap name_cmp PairingEntry → fin.FinMap name_cmp PairingEntry
  all_held found p = fold (λ some free. with_held seat who free some) p found

  -- each of these is the state's, which the member holds
  abbrev AreHeld : List PairingEntry → Type 0
  AreHeld found = (free : PairingEntry) → Contains found free →
      (r : PairingEntry) × (fin.get s.pairings free.plan.id ≡ Some r) × (free ≡ with_free_seats r) × (holds who r ≡ true)

  -- the pairings after this one
  later : (free : PairingEntry) (found : List PairingEntry) → AreHeld (free ∷ found) → AreHeld found
  later free found held x c = held x (is_later free found x c)

  whole_all : (found : List PairingEntry) (p : fin.FinMap name_cmp PairingEntry) → AreHeld found → (id : List ℕ) →
      fin.get p id ≡ fin.get s.pairings id → fin.get (all_held found p) id ≡ fin.get s.pairings id
  whole_all [] p held id same = same
  whole_all (free ∷ found) p held id same =
      let it = held free (is_first free found free refl) in
      whole_all found (with_held seat who free p) (later free found held) id (whole_one seat who free p s sound flies it.0 it.1 it.2 it.3 id same)

  so_all : (found : List PairingEntry) (p : fin.FinMap name_cmp PairingEntry) → AreHeld found → AreSo s p → AreSo s (all_held found p)
  so_all [] p held so = so
  so_all (free ∷ found) p held so =
      let it = held free (is_first free found free refl) in
      so_all found (with_held seat who free p) (later free found held) (so_one seat who free p s sound flies it.0 it.1 it.2 it.3 so)

  kept_all : (found : List PairingEntry) (p : fin.FinMap name_cmp PairingEntry) → AreHeld found → AreSo s p → (w id : List ℕ) → HaveHeld p w id → HaveHeld (all_held found p) w id
  kept_all [] p held so w id has = has
  kept_all (free ∷ found) p held so w id has =
      let it = held free (is_first free found free refl) in
      kept_all found (with_held seat who free p) (later free found held) (so_one seat who free p s sound flies it.0 it.1 it.2 it.3 so) w id
      (kept_one seat who free p s sound flies it.0 it.1 it.2 it.3 so w id has)

  here_all : (found : List PairingEntry) (p : fin.FinMap name_cmp PairingEntry) → AreHeld found → AreSo s p → (free : PairingEntry) → Contains found free → HaveHeld (all_held found p) who free.plan.id
  here_all [] p held so free c = absurd (none_in free c)
  here_all (x ∷ found) p held so free c =
      let it = held x (is_first x found x refl) in
      let next = so_one seat who x p s sound flies it.0 it.1 it.2 it.3 so in
      elim (first_or_later x found free c) [
        | inl same ↦ kept_all found (with_held seat who x p) (later x found held) next who free.plan.id
            (subst (λ (y : PairingEntry). HaveHeld (with_held seat who x p) who y.plan.id) same (here_one seat who x p s sound flies it.0 it.1 it.2 it.3))
        | inr c ↦ here_all found (with_held seat who x p) (later x found held) next free c
      ]

  pub adds_held : (spans : List Span) (found : List PairingEntry) → AreHeldNear s spans who found → (p q : fin.FinMap name_cmp PairingEntry) → q ≡ all_held found p →
      AddsNear s spans (who ∷ []) p q
  adds_held spans found near p q is =
      let held : AreHeld found = λ free c. (
      let there = near.1 free c in
      let near_one = (near.0 free.plan.id).0 (in_map (λ (r : PairingEntry). r.plan.id) found free c) in
      let same : near_one.0 ≡ there.0 = same_Some near_one.0 there.0 (sym near_one.1 ∙ there.1) in
      (there.0, there.1, there.2, ap (holds who) (sym same) ∙ near_one.2)) in
      subst (AddsNear s spans (who ∷ []) p) (sym is) (record {
        whole = whole_all found p held;
        so = so_all found p held;
        kept = λ so w id has. kept_all found p held so w id has;
        near = λ so w c id is. (
            let same : who ≡ w = elim (first_or_later who [] w c) [ inl same ↦ same | inr none ↦ absurd (none_in w none) ] in
            let its = from_map (λ (r : PairingEntry). r.plan.id) found id ((near.0 id).1 (subst (λ v. IsHeldNear s spans v id) (sym same) is)) in
            subst (λ v. HaveHeld (all_held found p) v id) same
            (subst (λ i. HaveHeld (all_held found p) who i) its.2 (here_all found p held so its.0 its.1)));
      })

-- ---- The pairings of several members

module _ (s : State) (spans : List Span) where
  pub adds_none : (p : fin.FinMap name_cmp PairingEntry) → AddsNear s spans [] p p
  adds_none p = record {
    whole = λ id same. same;
    so = λ so. so;
    kept = λ so w id has. has;
    near = λ so w c. absurd (none_in w c);
  }

  pub adds_no_member : Sound s → (who : List ℕ) → fin.get s.crew who ≡ None → (p : fin.FinMap name_cmp PairingEntry) → AddsNear s spans (who ∷ []) p p
  adds_no_member sound who none p = record {
    whole = λ id same. same;
    so = λ so. so;
    kept = λ so w id has. has;
    near = λ so w c id is. elim (first_or_later who [] w c) [
      | inl same ↦ absurd (no_member s sound spans who none id (subst (λ v. IsHeldNear s spans v id) (sym same) is))
      | inr none ↦ absurd (none_in w none)
    ];
  }

  pub adds_then : (names more : List (List ℕ)) (a b c : fin.FinMap name_cmp PairingEntry) → AddsNear s spans names a b → AddsNear s spans more b c → AddsNear s spans (names ++ more) a c
  adds_then names more a b c one two = record {
    whole = λ id same. two.whole id (one.whole id same);
    so = λ so. two.so (one.so so);
    kept = λ so w id has. two.kept (one.so so) w id (one.kept so w id has);
    near = λ so w there id is. elim (Contains-append_cases names more w there) [
      | inl first ↦ two.kept (one.so so) w id (one.near so w first id is)
      | inr second ↦ two.near (one.so so) w second id is
    ];
  }
