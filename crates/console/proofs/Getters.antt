-- From the getters of the matches to the rows.
use Rattle.std.proofs.Common.{◌≡◌, ◌∙◌, refl, ap, sym, true, is_some, List, Option, Some, None}
use Rattle.std.proofs.Common.{option_map, true≢false, Bor}
use Rattle.std.specs.Option.{IsSome}
use Rattle.clap.specs.Matches.{first_value, matched_of, raw_values}
use Rattle.clap.specs.Walk.{Text, all_of, first_of, rows_of, texts}
use Rattle.clap.specs.declared.parser.matches.Found.{Found}
use Rattle.clap.proofs.WalkLemmas.{first_value-rows, raw_values-rows}

mapped_there : {X Y : Type 0} (f : X → Y) (o : Option X) (t : Option Y) → option_map f o ≡ t → is_some t ≡ true
    → IsSome o
mapped_there f None t e some = absurd (true≢false (sym (ap is_some e ∙ some)))
mapped_there f (Some x) t e some = refl

pub text_there : (f : Found) (id : Text) (o : Option (Bor Text)) → option_map (λ s. s.now) o ≡ first_value f id
    → is_some (first_of id (rows_of f)) ≡ true → IsSome o
text_there f id o got some = mapped_there _ o _ (got ∙ first_value-rows f id) some

pub text_read : (f : Found) (id : Text) (o : Option (Bor Text)) (x : Bor Text)
    → option_map (λ s. s.now) o ≡ first_value f id → o ≡ Some x
    → first_of id (rows_of f) ≡ Some x.now
text_read f id o x got is = sym (first_value-rows f id) ∙ (sym got ∙ ap (option_map (λ s. s.now)) is)

pub no_text_read : (f : Found) (id : Text) (o : Option (Bor Text)) → option_map (λ s. s.now) o ≡ first_value f id
    → o ≡ None → first_of id (rows_of f) ≡ None
no_text_read f id o got is = sym (first_value-rows f id) ∙ (sym got ∙ ap (option_map (λ s. s.now)) is)

pub texts_there : (f : Found) (id : Text) (o : Option (Bor (List (Bor Text))))
    → option_map (λ s. texts s.now) o ≡ option_map raw_values (matched_of f id)
    → is_some (all_of id (rows_of f)) ≡ true → IsSome o
texts_there f id o got some = mapped_there _ o _ (got ∙ raw_values-rows f id) some

pub texts_read : (f : Found) (id : Text) (o : Option (Bor (List (Bor Text)))) (x : Bor (List (Bor Text)))
    → option_map (λ s. texts s.now) o ≡ option_map raw_values (matched_of f id) → o ≡ Some x
    → all_of id (rows_of f) ≡ Some (texts x.now)
texts_read f id o x got is = sym (raw_values-rows f id) ∙ (sym got ∙ ap (option_map (λ s. texts s.now)) is)
