use Rattle.std.proofs.Common.{◌≡◌, ◌∙◌, false, map, length, sym, ap}
use Rattle.std.proofs.lemmas.List.{length-map}
use Rattle.std.proofs.lemmas.Result.{IfOk-weaker}
use Rattle.codec.specs.Grouping.{last_place, told, told_all, told_open}
use Rattle.codec.specs.Places.{goes_on}
use Rattle.codec.proofs.Loop.{grows_away, stands_away, told_alone, told_closed}
use Rattle.codec.proofs.grouping.Grouping.with.Goals as goal

pub returns-in-None-clause-stands : goal.returns-in-None-clause-stands
returns-in-None-clause-stands c = rw (c.in-None.is, told_alone c.args.self.whole.items) c.begin_pairing.ensures.stands

pub returns-in_ok-push-in-Some-clause-stands : goal.returns-in_ok-push-in-Some-clause-stands
returns-in_ok-push-in-Some-clause-stands c =
    let away : goes_on (last_place c.args.self) c.args.it.place ≡ false = rw c.in-Some.is (sym c.eq.ensures ∙ c.if-eq.false) in
    let more = c.in_ok-push-in-Some.ensures.items in
    let told_is : map told c.push.new.self.items ≡ told_all c.args.self = rw (c.in-Some.is, more) (told_closed c.args.self.whole.items c.in_ok-into_draft-in-Some.field-0 (told_open c.in-Some.last) c.in_ok-into_draft-in-Some.ensures) in
    let count : length (told_all c.args.self) ≡ length c.push.new.self.items = ap length (sym told_is) ∙ length-map c.push.new.self.items told in
    rw (stands_away (length (told_all c.args.self)) (length c.push.new.self.items) (last_place c.args.self) c.args.it.place away count) c.begin_pairing-in-Some.ensures.stands

pub returns-in_ok-push-in-Some-clause-refused : goal.returns-in_ok-push-in-Some-clause-refused
returns-in_ok-push-in-Some-clause-refused c =
    let away : goes_on (last_place c.args.self) c.args.it.place ≡ false = rw c.in-Some.is (sym c.eq.ensures ∙ c.if-eq.false) in
    let more = c.in_ok-push-in-Some.ensures.items in
    let told_is : map told c.push.new.self.items ≡ told_all c.args.self = rw (c.in-Some.is, more) (told_closed c.args.self.whole.items c.in_ok-into_draft-in-Some.field-0 (told_open c.in-Some.last) c.in_ok-into_draft-in-Some.ensures) in
    let count : length (told_all c.args.self) ≡ length c.push.new.self.items = ap length (sym told_is) ∙ length-map c.push.new.self.items told in
    rw (stands_away (length (told_all c.args.self)) (length c.push.new.self.items) (last_place c.args.self) c.args.it.place away count) c.begin_pairing-in-Some.ensures.refused

pub returns-in_ok-push-in-Some-clause-grown : goal.returns-in_ok-push-in-Some-clause-grown
returns-in_ok-push-in-Some-clause-grown c =
    let away : goes_on (last_place c.args.self) c.args.it.place ≡ false = rw c.in-Some.is (sym c.eq.ensures ∙ c.if-eq.false) in
    let more = c.in_ok-push-in-Some.ensures.items in
    let told_is : map told c.push.new.self.items ≡ told_all c.args.self = rw (c.in-Some.is, more) (told_closed c.args.self.whole.items c.in_ok-into_draft-in-Some.field-0 (told_open c.in-Some.last) c.in_ok-into_draft-in-Some.ensures) in
    IfOk-weaker c.begin_pairing-in-Some.result _ _ (λ g adds. grows_away c.args.number c.args.it c.args.self g (map told c.push.new.self.items) away told_is adds) c.begin_pairing-in-Some.ensures.added
