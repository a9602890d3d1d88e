-- A refusal that was written is the definition's, or that there was no memory.
use Rattle.std.proofs.Common.{◌≡◌, ◌≢◌, ◌⊎◌, inl, inr, [], refl, sym, subst, append-nil, Some, None, Result, Err}
use Rattle.std.specs.Io.KnownBytes.{Appends}
use Rattle.http_exchange.specs.Exchange.{ChannelBytes}
use Rattle.rosterbook.specs.Program.{Gives, duty_answer, memory_answer, refusal_line}
use Rattle.period_verdict.specs.Verdict.{VerdictLine}
use Rattle.period_verdict.specs.declared.fault.LineFault.{LineFault}
use Rattle.period_verdict.specs.declared.fault.LineFault.TheVariants.{Zone, Time, SegmentCount, BadTimes, Memory}
use Rattle.rosterbook.specs.declared.status.Status.{Status}
use Rattle.rosterbook.specs.declared.status.Status.TheVariants.{Refused, Failed}

pub appends_nothing : (held : ChannelBytes) → Appends held held []
appends_nothing None = tt
appends_nothing (Some bytes) = sym (append-nil bytes)

-- a fault other than out of memory is the definition's
is_wanted : (fault : LineFault) (wanted : Result VerdictLine LineFault) (status : Status) (out err err' : ChannelBytes) → fault ≢ Memory → (fault ≢ Memory → status ≡ Refused) → (fault ≡ Memory) ⊎ (wanted ≡ Err fault) → Appends err err' (refusal_line fault) → Gives (duty_answer wanted) status out out err err' ⊎ Gives memory_answer status out out err err'
is_wanted fault wanted status out err err' other refused (inl e) told = absurd (other e)
is_wanted fault wanted status out err err' other refused (inr e) told =
    let given : Gives (duty_answer (Err fault)) status out out err err' = record { ends = refused other; prints = appends_nothing out; complains = told } in
    inl (subst (λ w. Gives (duty_answer w) status out out err err') (sym e) given)

pub gives-refusal : (fault : LineFault) (wanted : Result VerdictLine LineFault) (status : Status) (out err err' : ChannelBytes) → (fault ≡ Memory → status ≡ Failed) → (fault ≢ Memory → status ≡ Refused) → (fault ≡ Memory) ⊎ (wanted ≡ Err fault) → Appends err err' (refusal_line fault) → Gives (duty_answer wanted) status out out err err' ⊎ Gives memory_answer status out out err err'
gives-refusal Memory wanted status out err err' failed refused why told = inr (record { ends = failed refl; prints = appends_nothing out; complains = told })
gives-refusal Zone wanted status out err err' failed refused why told = is_wanted Zone wanted status out err err' (λ e. cc) refused why told
gives-refusal (Time t) wanted status out err err' failed refused why told = is_wanted (Time t) wanted status out err err' (λ e. cc) refused why told
gives-refusal SegmentCount wanted status out err err' failed refused why told = is_wanted SegmentCount wanted status out err err' (λ e. cc) refused why told
gives-refusal BadTimes wanted status out err err' failed refused why told = is_wanted BadTimes wanted status out err err' (λ e. cc) refused why told
