-- What is shown of a state in each form: something, if it is sound, and one thing at most.
use Rattle.request.specs.declared.form.Form.TheVariants as form
use Rattle.part.proofs.EachShown.{each_is_shown}
use Rattle.part.proofs.OneShown.{one_shown}
use Rattle.part_json.proofs.Each.{each_is_shown_json}
use Rattle.part_json.proofs.One.{one_shown_json}
use Rattle.asking.specs.Laws.{EachIsShownAs, HasOneShownAs}

pub each_is_shown_as : EachIsShownAs
each_is_shown_as form.Text s what sound = each_is_shown s what sound
each_is_shown_as form.Json s what sound = each_is_shown_json s what sound

pub one_shown_as : HasOneShownAs
one_shown_as form.Text s what a b is is' = one_shown s what a b is is'
one_shown_as form.Json s what a b is is' = one_shown_json s what a b is is'
