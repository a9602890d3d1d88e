-- From the parts of a schedule that were asked and answered to what `import` reports of them.
use Rattle.std.proofs.Common.{◌≡◌, ◌||◌, inl, inr, ℕ, ◌+◌, Bool, true, false, List, [], ◌∷◌, ◌++◌, length, map, take, refl, ap, sym, subst, ◌∙◌, arith, Some, None, Result, Ok, Err, length-append, IsTrue}
use Rattle.std.proofs.lemmas.List.{append_assoc, length-map, take_all}
use Rattle.std.specs.Bool.{⊤}
use Rattle.std.specs.Io.KnownBytes.{Appends}
use Rattle.std.specs.List.{fold}
use Rattle.std.specs.declared.io.Error.{Error}
use Rattle.sqlite.specs.Held.{state}
use Rattle.sqlite_trees.specs.declared.store.Store.{Ghosts}
use Rattle.duty.specs.Plans.{Plan}
use Rattle.stored_json.specs.Texts.{codec_fault_text}
use Rattle.stored_json.specs.declared.fault.CodecFault.{CodecFault}
use Rattle.stored_json.specs.declared.fault.CodecFault.TheVariants.{BadCsv}
use Rattle.codec.specs.Schedule.{IsAtFault}
use Rattle.roster.specs.Folds.{Asked, Replies, ReplyOrRefusal, import}
use Rattle.roster.specs.Laws.{AreMade}
use Rattle.roster.specs.State.{State}
use Rattle.state_rows.specs.declared.fault.StoreFault.{StoreFault}
use Rattle.state_rows.specs.declared.fault.StoreFault.TheVariants.{Store, Memory}
use Rattle.book.specs.Kept.{Ends, Kept, is_some_store_fault, result_of}
use Rattle.book.specs.declared.answer.Answer.{Answer}
use Rattle.book.proofs.CommandLists.{replies_take}
use Rattle.asking.specs.Schedules.{ArePartsAsked, HasHeard, IsScheduleAsked}
use Rattle.asking.specs.declared.schedules.NotAllAsked.{NotAllAsked}
use Rattle.asking.specs.declared.schedules.NotAllAsked.TheVariants.{Unread, Ask, Unheard}
use Rattle.asking.specs.declared.answers.AskFault.{AskFault}
use Rattle.asking.specs.declared.answers.AskFault.TheVariants as ask
use Rattle.asking.proofs.Chains.{all_parts, length-replies, parts_heard, parts_to_fault}
use Rattle.asking.proofs.Parts.{length-import, schedule_made}
use Rattle.http_exchange.specs.Exchange.{ChannelBytes}
use Rattle.rosterbook.specs.Asking.{AreAddedAndTold, AreStopped, IsImported, IsImportStopped, IsLeftAfterAnswers, IsPartTold, IsUnasked, answered_parts, status_with, stop_of}
use Rattle.rosterbook.specs.Streams.{IsOfChannel, ReadsInput, refused_line}
use Rattle.rosterbook.specs.declared.import_command.PartLines.{PartLines}
use Rattle.rosterbook.specs.declared.status.Status.TheVariants.{Done, Refused}
use Rattle.rosterbook.specs.declared.stop.Stop.{Stop}
use Rattle.rosterbook.specs.declared.stop.Stop.TheVariants as stops
use Rattle.rosterbook.proofs.RefusalLemmas.{appends_nothing}
use Rattle.rosterbook.proofs.Stopping.{no_fault_of_book, untold}

-- ---- What was written

pub appends_both : (held held' held'' : ChannelBytes) (xs ys : List ℕ) → Appends held held' xs → Appends held' held'' ys → Appends held held'' (xs ++ ys)
appends_both None held' held'' xs ys first second = tt
appends_both (Some a) None held'' xs ys first second = absurd first
appends_both (Some a) (Some b) None xs ys first second = absurd second
appends_both (Some a) (Some b) (Some c) xs ys first second = second ∙ ap (λ t. t ++ ys) first ∙ append_assoc a xs ys

module _ {O : Type 0} (contents : O → ChannelBytes) where
  abbrev pub Hears : PartLines O → PartLines O → ℕ → ReplyOrRefusal → Result ⊤ Error → Type 0
  Hears old new part answer result = IsPartTold contents old new part answer result

  -- the line of each answer was written by the same writer, and counted
  record AreWritten (old new : PartLines O) (part : ℕ) (answers : List ReplyOrRefusal) : Type 0 where
    pub same_writer : new.out.ghost_name ≡ old.out.ghost_name
    pub printed : Appends (contents old.out.now) (contents new.out.now) (answered_parts part answers)
    pub ends : new.status ≡ fold status_with old.status answers

  all_written : (part : ℕ) (answers : List Answer) (old new : PartLines O) → HasHeard Hears old part answers new → AreWritten old new part (map result_of answers)
  all_written part [] old new same = record {
    same_writer = ap (λ (l : PartLines O). l.out.ghost_name) same;
    printed = subst (λ (l : PartLines O). Appends (contents old.out.now) (contents l.out.now) []) (sym same) (appends_nothing (contents old.out.now));
    ends = ap (λ (l : PartLines O). l.status) same;
  }
  all_written part (answer ∷ answers) old new (next, told, rest) =
      let it = all_written (part + 1) answers next new rest in
      record {
        same_writer = it.same_writer ∙ told.0;
        printed = appends_both (contents old.out.now) (contents next.out.now) (contents new.out.now) _ _ told.1 it.printed;
        ends = it.ends ∙ ap (λ s. fold status_with s (map result_of answers)) told.2;
      }

-- ---- The parts of a schedule

module _ {S O : Type 0} (g : Ghosts S) (contents : O → ChannelBytes) (old new : Kept S) (begun heard : PartLines O) (number : ℕ) where
  module _ (plans : List Plan) (made : AreMade (import number plans)) where
    abbrev parts : List Asked
    parts = import number plans

    abbrev Asked_so : Result ⊤ (NotAllAsked Error) → Type 0
    Asked_so result = ArePartsAsked g (Hears contents) old new begun heard parts result

    written : (result : Result ⊤ (NotAllAsked Error)) (it : Asked_so result) → heard ≡ it.heard → AreWritten contents begun heard 1 (map result_of it.answers)
    written result it same = all_written contents 1 it.answers begun heard (subst (λ (l : PartLines O). HasHeard (Hears contents) begun 1 it.answers l) (sym same) it.all_heard)

    -- all were answered, and are reported
    all_added : (it : Asked_so (Ok tt)) → begun.status ≡ Done → AreAddedAndTold g old new number plans heard.status (contents begun.out.now) (contents heard.out.now)
    all_added it begins =
        let are = all_parts g (Hears contents) old new begun heard parts made tt it in
        let lines = written (Ok tt) it it.ends.2 in
        record {
          answers = map result_of it.answers;
          told = record {
            each = length-map it.answers result_of ∙ it.ends.0 ∙ length-import number plans;
            printed = lines.printed;
            ends = lines.ends ∙ ap (λ s. fold status_with s (map result_of it.answers)) begins;
          };
          answered = λ s at clean. are.replies s at clean ∙ take_all (length it.answers) (Replies s parts) (omega (arith, it.ends.0, length-replies s parts));
          left = λ s at. are.outcome s at;
        }

    left_at : (fault : StoreFault) (s : State) (n : ℕ) → Ends (state g new.held) s parts n (Some fault) → IsLeftAfterAnswers g new s parts n (stops.Book fault)
    left_at Store s n is = is
    left_at Memory s n is = is

    failed_at : (fault : StoreFault) (was is : Bool) → is ≡ (was || is_some_store_fault (Some fault)) → stops.Book fault ≡ stops.Book Store → IsTrue is
    failed_at Store true is same which = same
    failed_at Store false is same which = same
    failed_at Memory was is same which = absurd (cc)

    -- the book met a fault at one
    at_fault : (fault : StoreFault) (it : Asked_so (Err (Ask (ask.Book fault)))) → AreStopped g old new number plans (contents begun.out.now) (contents heard.out.now) (stops.Book fault)
    at_fault fault it =
        let are = parts_to_fault g (Hears contents) old new begun heard parts made fault it in
        let each : length (map result_of it.answers) ≡ length it.answers = length-map it.answers result_of in
        record {
          answers = map result_of it.answers;
          asked = record {
            told = inl (fault, refl);
            few = omega (arith, each, are.count);
            unanswered = λ is. omega (arith, each, are.stopped refl);
            failed = failed_at fault old.failed new.failed are.failed;
            disk = are.disk;
            answered = λ s at clean. rw (sym each) at (are.replies s at clean);
            left = λ s at. subst (λ n. IsLeftAfterAnswers g new s parts n (stops.Book fault)) (sym each) (left_at fault s (length it.answers) (are.outcome s at));
          };
          printed = λ is. (written (Err (Ask (ask.Book fault))) it it.ends.3).printed;
        }

    -- the line of one was not written
    at_line : (error : Error) (stop : Stop) (out' : ChannelBytes) → IsOfChannel stop → Asked_so (Err (Unheard error)) → AreStopped g old new number plans (contents begun.out.now) out' stop
    at_line error stop out' which it =
        let answers = it.answers ++ it.ends.2 ∷ [] in
        let n = length it.answers in
        let so_far = parts_heard g (Hears contents) old new begun heard parts made error it in
        let are = so_far.1 in
        let each : length (map result_of answers) ≡ n + 1 = length-map answers result_of ∙ length-append it.answers (it.ends.2 ∷ []) in
        record {
          answers = map result_of answers;
          asked = untold g old new parts (n + 1) (map result_of answers) stop which (omega (arith, so_far.0)) each are.disk
              (λ s at clean. are.replies s at clean
              ∙ take_all (length answers) (Replies s (take (n + 1) parts)) (omega (arith, are.whole refl, length-replies s (take (n + 1) parts)))
              ∙ sym (replies_take s parts (n + 1)))
              (λ s at. are.outcome s at);
          printed = λ is. absurd (no_fault_of_book stop which is);
        }

  -- ---- A schedule

  module _ (text : List ℕ) where
    abbrev Asked_with : Result ⊤ (NotAllAsked Error) → Type 0
    Asked_with result = IsScheduleAsked g (Hears contents) old new begun heard number text result

    -- the lines are written by the writer that was lent
    pub same_writer : Asked_with (Ok tt) → heard.out.ghost_name ≡ begun.out.ghost_name
    same_writer (inl (unread, same, still)) = ap (λ (l : PartLines O). l.out.ghost_name) still
    same_writer (inr (plans, is, it)) = (written plans (schedule_made number text plans is) (Ok tt) it it.ends.2).same_writer

    pub same_writer_at_fault : (fault : AskFault) → Asked_with (Err (Ask fault)) → heard.out.ghost_name ≡ begun.out.ghost_name
    same_writer_at_fault fault (inl (unread, same, still)) = ap (λ (l : PartLines O). l.out.ghost_name) still
    same_writer_at_fault (ask.Book fault) (inr (plans, is, it)) = (written plans (schedule_made number text plans is) (Err (Ask (ask.Book fault))) it it.ends.3).same_writer
    same_writer_at_fault ask.Memory (inr (plans, is, it)) = absurd it.ends

    record IsUnread (fault : CodecFault) : Type 0 where
      pub line : ℕ
      pub at_fault : IsAtFault text line
      pub is : fault ≡ BadCsv line
      pub unasked : new ≡ old
      pub silent : heard ≡ begun

    unread : (fault : CodecFault) → Asked_with (Err (Unread fault)) → IsUnread fault
    unread fault (inl (inl (line, at_fault, is), same, still)) = record { line = line; at_fault = at_fault; is = let it : fault ≡ BadCsv line = cc in it; unasked = same; silent = still }
    unread fault (inl (inr never, same, still)) = absurd (cc)
    unread fault (inr (plans, is, it)) = absurd it.ends

    pub same_writer_unread : (fault : CodecFault) → Asked_with (Err (Unread fault)) → heard.out.ghost_name ≡ begun.out.ghost_name
    same_writer_unread fault asked = ap (λ (l : PartLines O). l.out.ghost_name) (unread fault asked).silent

    module _ (held : ChannelBytes) (read : ReadsInput held text) (out' : O) where
      module _ (is_out : out' ≡ heard.out.now) where
        -- all its pairings were answered
        pub imported : (err : ChannelBytes) → begun.status ≡ Done → Asked_with (Ok tt) → IsImported g old new number held (contents begun.out.now) (contents out') err err heard.status
        imported err begins (inl (inl (line, at_fault, never), same, still)) = absurd (cc)
        imported err begins (inl (inr never, same, still)) = absurd (cc)
        imported err begins (inr (plans, is, it)) = record {
          text = text;
          read = read;
          done = inr (
            plans,
            is,
            subst (λ o. AreAddedAndTold g old new number plans heard.status (contents begun.out.now) (contents o)) (sym is_out) (all_added plans (schedule_made number text plans is) it begins),
            refl,
          );
        }

        -- it is none, and that was reported
        pub refused : (err err' : ChannelBytes) (fault : CodecFault) → Asked_with (Err (Unread fault)) → Appends err err' (refused_line (codec_fault_text fault))
            → IsImported g old new number held (contents begun.out.now) (contents out') err err' Refused
        refused err err' fault asked told =
            let it = unread fault asked in
            record {
              text = text;
              read = read;
              done = inl (
                record {
                  line = it.line;
                  at_fault = it.at_fault;
                  ends = refl;
                  prints = ap contents (is_out ∙ ap (λ (l : PartLines O). l.out.now) it.silent);
                  complains = subst (λ f. Appends err err' (refused_line (codec_fault_text f))) it.is told;
                },
                it.unasked,
              );
            }

        unasked : (stop : Stop) → IsOfChannel stop → new ≡ old → heard ≡ begun → IsUnasked old new (contents begun.out.now) (contents out') stop
        unasked stop which same still = record {
          unchanged = same;
          silent = ap contents (is_out ∙ ap (λ (l : PartLines O). l.out.now) still);
          told = which;
        }

        -- and it could not be reported
        pub refused_untold : (err err' : ChannelBytes) (fault : CodecFault) (stop : Stop) → IsOfChannel stop → Asked_with (Err (Unread fault))
            → IsImportStopped g old new number held (contents begun.out.now) (contents out') err err' stop
        refused_untold err err' fault stop which asked =
            let it = unread fault asked in
            inl (unasked stop which it.unasked it.silent)

        -- the book met a fault, or there was no memory to read the schedule
        pub stopped : (err : ChannelBytes) (fault : AskFault) → Asked_with (Err (Ask fault)) → IsImportStopped g old new number held (contents begun.out.now) (contents out') err err (stop_of fault)
        stopped err fault (inl (inl (line, at_fault, never), same, still)) = absurd (cc)
        stopped err (ask.Book fault) (inl (inr never, same, still)) = absurd (cc)
        stopped err ask.Memory (inl (inr memory, same, still)) = inl (unasked stops.Memory (inl refl) same still)
        stopped err ask.Memory (inr (plans, is, it)) = absurd it.ends
        stopped err (ask.Book fault) (inr (plans, is, it)) = inr (
          text,
          plans,
          read,
          is,
          subst (λ o. AreStopped g old new number plans (contents begun.out.now) (contents o) (stops.Book fault)) (sym is_out) (at_fault plans (schedule_made number text plans is) fault it),
          refl,
        )

      -- a line was not written
      pub unwritten : (err : ChannelBytes) (error : Error) (stop : Stop) → IsOfChannel stop → Asked_with (Err (Unheard error))
          → IsImportStopped g old new number held (contents begun.out.now) (contents out') err err stop
      unwritten err error stop which (inl (inl (line, at_fault, never), same, still)) = absurd (cc)
      unwritten err error stop which (inl (inr never, same, still)) = absurd (cc)
      unwritten err error stop which (inr (plans, is, it)) = inr (text, plans, read, is, at_line plans (schedule_made number text plans is) error stop (contents out') which it, refl)
