-- What holds of every kept text.
use Rattle.std.specs.Prelude.{◌≡◌, true, Ok}
use Rattle.command.specs.Instructions.{IsMade}
use Rattle.command.specs.declared.exceedance.Reply.{Reply}
use Rattle.command.specs.declared.instruction.Instruction.{Instruction}
use Rattle.stored_json.specs.CommandJson.{read_kept}
use Rattle.stored_json.specs.Instants.{instruction_has_instants}
use Rattle.stored_json.specs.KeptText.{kept_text}
use Rattle.stored_json.specs.ReplyText.{reply_text, read_reply}

-- An instruction is a command whose instants are of the years 2000 to 2099, as the types of its
-- parts ensure.
abbrev pub IsCommand : Instruction → Type 0
IsCommand instruction = IsMade instruction × (instruction_has_instants instruction ≡ true)

-- The kept text of a command is read as that command.
abbrev pub KeptTextsAreRead : Type 0
KeptTextsAreRead = (instruction : Instruction) → IsCommand instruction →
    read_kept (kept_text instruction) ≡ Ok instruction

-- Two commands with the same kept text are the same command.
abbrev pub KeptTextsDiffer : Type 0
KeptTextsDiffer = (a b : Instruction) → IsCommand a → IsCommand b →
    kept_text a ≡ kept_text b → a ≡ b

-- The text of a reply is read as that reply.
abbrev pub ReplyTextsAreRead : Type 0
ReplyTextsAreRead = (reply : Reply) → read_reply (reply_text reply) ≡ Ok reply
