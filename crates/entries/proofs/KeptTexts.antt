-- What a kept text is read as, and that a key has a name of its own.
use Rattle.std.proofs.Common.{◌≡◌, sym, ap, ◌∙◌, ℕ, List, Result, Ok, Err, [], codes}
use Rattle.serde_json.proofs.OnLiterals.{serde_json_on_literals}
use Rattle.command.specs.Keys.{KeyParts, key_name}
use Rattle.command.specs.declared.exceedance.Reply.{Reply}
use Rattle.command.specs.declared.instruction.Instruction.{Instruction}
use Rattle.stored_json.proofs.InstructionsBack.{kept_back}
use Rattle.stored_json.proofs.ReplyBack.{reply_back}
use Rattle.stored_json.specs.CommandJson.{read_kept}
use Rattle.stored_json.specs.KeptText.{kept_text}
use Rattle.stored_json.specs.Laws.{IsCommand}
use Rattle.stored_json.specs.ReplyText.{reply_text, read_reply}
use Rattle.stored_json.specs.declared.fault.CodecFault.{CodecFault}

-- ---- Texts

pub ok_same : {A E : Type 0} {a b : A} → ◌≡◌ {A = Result A E} (Ok a) (Ok b) → a ≡ b
ok_same e = cc

-- a text that isn't read is no command's
pub not_kept : (text : List ℕ) (fault : CodecFault) → read_kept text ≡ Err fault → (instruction : Instruction) → IsCommand instruction → kept_text instruction ≡ text → ⊥
not_kept text fault failed instruction is same = absurd (let f = sym failed ∙ ap read_kept (sym same) ∙ kept_back instruction is.0 is.1 in cc)

-- nor is one from which a command is read that is kept as another text
pub kept_otherwise : (text : List ℕ) (command : Instruction) → read_kept text ≡ Ok command → (kept_text command ≡ text → ⊥) → (instruction : Instruction) → IsCommand instruction → kept_text instruction ≡ text → ⊥
kept_otherwise text command read other instruction is same =
    let one : instruction ≡ command = ok_same (sym (kept_back instruction is.0 is.1) ∙ ap read_kept same ∙ read) in
    other (ap kept_text (sym one) ∙ same)

pub not_reply : (text : List ℕ) (fault : CodecFault) → read_reply text ≡ Err fault → (reply : Reply) → reply_text reply ≡ text → ⊥
not_reply text fault failed reply same = absurd (let f = sym failed ∙ ap read_reply (sym same) ∙ reply_back reply in cc)

pub told_otherwise : (text : List ℕ) (told : Reply) → read_reply text ≡ Ok told → (reply_text told ≡ text → ⊥) → (reply : Reply) → reply_text reply ≡ text → ⊥
told_otherwise text told read other reply same =
    let one : reply ≡ told = ok_same (sym (reply_back reply) ∙ ap read_reply same ∙ read) in
    other (ap reply_text (sym one) ∙ same)

-- the text of a reply without an exceedance
pub without_exceedance : (text : List ℕ) → text ≡ codes "{\"exceedances\":[],\"result\":\"accepted\"}" → reply_text (record { exceedances = [] }) ≡ text
unfolding reply_text serde_json_on_literals
without_exceedance text same = sym same

-- ---- One record

pub keys_same : (a b : KeyParts) → key_name a ≡ key_name b → a ≡ b
keys_same a b e =
    let number : a.number ≡ b.number = cc in
    let part : a.part ≡ b.part = cc in
    λ i. record { number = number i; part = part i }
