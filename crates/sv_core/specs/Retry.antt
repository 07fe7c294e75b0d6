use Rattle.std.specs.Prelude.{Option, Some, None, ℕ, if◌then◌else◌}
use Rattle.sv_core.specs.Core.{PlainCore}
use Rattle.sv_events.specs.Answer.{PlainAnswer, plain_answer}
use Rattle.sv_events.specs.declared.event.Act.{Act}
use Rattle.sv_events.specs.declared.event.Retry.{Retry}
use Rattle.sv_events.specs.declared.event.Retry.TheVariants.{Now, StillHeld}
use Rattle.sv_rules.specs.Entries.{Entries}
use Rattle.sv_rules.specs.Legal.{is_still_held, journal_after}
use Rattle.sv_rules.specs.Refused.{awaited}

-- the answer at a retry: none where the party is still held
abbrev pub plain_retry : Retry → Option PlainAnswer
plain_retry (Now answer) = Some (plain_answer answer)
plain_retry StillHeld = None

-- the journal after the act that a party waits for, if it waits for one
abbrev pub journal_retried : Entries → ℕ → Option Act → Entries
journal_retried journal party None = journal
journal_retried journal party (Some act) = journal_after journal party act

-- the core after a retry: it stays where the party is still held
abbrev pub core_retried : PlainCore → ℕ → PlainCore
core_retried core party =
    if is_still_held core.users core.journal party then core
    else record { users = core.users; journal = journal_retried core.journal party (awaited core.journal party) }
