-- What the exceedances that a command records make of the rows of a state.
use Rattle.std.proofs.Common.{◌≡◌, ◌⊎◌, ◌↔◌, inl, inr, refl, sym, ap, ◌∙◌, ℕ, zero, suc, List, [], ◌∷◌, Some, slice_get}
use Rattle.std.specs.FinMap as fin
use Rattle.std.specs.List.{fold}
use Rattle.values.specs.Name.{name_cmp}
use Rattle.sqlite_value.specs.Order.{Row}
use Rattle.command.specs.Keys.{KeyParts}
use Rattle.command.specs.declared.exceedance.Exceedance.{Exceedance}
use Rattle.roster.proofs.Accepted.{decide, inserted, insert_here, insert_elsewhere}
use Rattle.roster.proofs.Records.{names_same}
use Rattle.roster.specs.State.{exceedance_name}
use Rattle.roster.specs.Steps.{recorded}
use Rattle.roster.specs.declared.state.DutyId.{DutyId}
use Rattle.state_rows.specs.Rows.{ExceedanceAt, row_of_exceedance}
use Rattle.state_rows.proofs.Lists.{some_same}
use Rattle.writing.proofs.Growing.{SomeOf, placed, some_of}

module _ (key : KeyParts) (named : DutyId) where
  abbrev name_of : Exceedance → List ℕ
  name_of e = exceedance_name key e.crew e.section

  -- what is there stays, under another name or as this duty
  stays : (es : List Exceedance) (m : fin.FinMap name_cmp DutyId) (name : List ℕ) (q : DutyId) → (((e : Exceedance) → name ≡ name_of e → ⊥) ⊎ (named ≡ q)) →
      fin.get m name ≡ Some q → fin.get (fold (recorded key named) m es) name ≡ Some q
  stays [] m name q why at = at
  stays (e ∷ es) m name q why at = stays es (recorded key named m e) name q why (elim (decide name (name_of e)) [
    | inl same ↦ elim why [
      | inl other ↦ absurd (other e same)
      | inr is ↦ ap (fin.get (recorded key named m e)) same ∙ insert_here m (name_of e) named ∙ ap Some is
    ]
    | inr apart ↦ insert_elsewhere m (name_of e) named name apart ∙ at
  ])

  recorded_here : (es : List Exceedance) (m : fin.FinMap name_cmp DutyId) (place : ℕ) (e : Exceedance) → slice_get es place ≡ Some e → fin.get (fold (recorded key named) m es) (name_of e) ≡ Some named
  recorded_here [] m place e at = absurd (cc)
  recorded_here (x ∷ es) m zero e at =
      stays es (recorded key named m x) (name_of e) named (inr refl) (ap (λ y. fin.get (recorded key named m x) (name_of y)) (sym (some_same at)) ∙ insert_here m (name_of x) named)
  recorded_here (x ∷ es) m (suc place) e at = recorded_here es (recorded key named m x) place e at

  pub record Recorded (es : List Exceedance) (name : List ℕ) (q : DutyId) : Type 0 where
    pub place : ℕ
    pub value : Exceedance
    pub there : slice_get es place ≡ Some value
    pub known_by : name ≡ name_of value
    pub same : named ≡ q

  recorded_back : (es : List Exceedance) (m : fin.FinMap name_cmp DutyId) (name : List ℕ) (q : DutyId) → fin.get (fold (recorded key named) m es) name ≡ Some q →
      Recorded es name q ⊎ (fin.get m name ≡ Some q)
  recorded_back [] m name q at = inr at
  recorded_back (e ∷ es) m name q at = elim (recorded_back es (recorded key named m e) name q at) [
    | inl it ↦ inl (record { place = suc it.place; value = it.value; there = it.there; known_by = it.known_by; same = it.same })
    | inr was ↦ elim (inserted m (name_of e) named name q was) [
      | inl new ↦ inl (record { place = 0; value = e; there = refl; known_by = new.0; same = new.1 })
      | inr old ↦ inr old.1
    ]
  ]

  abbrev pub NewExceedance : ℕ → Exceedance → Row → Type 0
  NewExceedance place e x = x ≡ row_of_exceedance key e.crew e.section named

  pub exceedances_words : (m : fin.FinMap name_cmp DutyId) (es : List Exceedance) →
      ((at : ExceedanceAt m) → at.key ≡ key → ⊥) → (row : Row) →
      (SomeOf NewExceedance 0 es row ⊎ ((at : ExceedanceAt m) × (row ≡ row_of_exceedance at.key at.crew at.section at.named)))
      ↔ ((at : ExceedanceAt (fold (recorded key named) m es)) × (row ≡ row_of_exceedance at.key at.crew at.section at.named))
  exceedances_words m es fresh row = (
    λ h. elim h [
      | inl new ↦
          let it = placed NewExceedance 0 es row new in
          (record { key = key; crew = it.value.crew; section = it.value.section; named = named; there = recorded_here es m it.place it.value it.there }, it.is)
      | inr was ↦
          let other : (e : Exceedance) → exceedance_name was.0.key was.0.crew was.0.section ≡ name_of e → ⊥ = λ e same.
          fresh was.0 (names_same was.0.key key was.0.crew e.crew was.0.section e.section same).0 in (
            record {
              key = was.0.key;
              crew = was.0.crew;
              section = was.0.section;
              named = was.0.named;
              there = stays es m _ was.0.named (inl other) was.0.there;
            },
            was.1,
          )
    ],
    λ h. elim (recorded_back es m (exceedance_name h.0.key h.0.crew h.0.section) h.0.named h.0.there) [
      | inl it ↦
          let same = names_same h.0.key key h.0.crew it.value.crew h.0.section it.value.section it.known_by in
          inl (some_of NewExceedance 0 es row it.place it.value it.there (h.1 ∙ (λ i. row_of_exceedance (same.0 i) (same.1 i) (same.2 i) (sym it.same i))))
      | inr was ↦ inr (record { key = h.0.key; crew = h.0.crew; section = h.0.section; named = h.0.named; there = was }, h.1)
    ],
  )
