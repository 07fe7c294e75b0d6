use Rattle.std.proofs.Common.{ap, sym, ◌∙◌, ◌∷◌, take, arith}
use Rattle.sv_events.specs.Entry.{plain_entry}
use Rattle.sv_events.specs.declared.entry.Entry.{Entry}
use Rattle.sv_rules.specs.Journal.{journal_of}
use Rattle.sv_rules.proofs.JournalLemmas.{journal_of-take_more}
use Rattle.sv_plain.proofs.stories.opening_state.Goals as goal

pub opening_state_after-requires-clause-entry : goal.opening_state_after-requires-clause-entry
opening_state_after-requires-clause-entry c =
    journal_of-take_more c.args.entries.now c.loop-i.i c.index-entries-i.result (omega arith)
    ∙ ap (λ (e : Entry). plain_entry e ∷ journal_of (take c.loop-i.i c.args.entries.now)) (sym c.index-entries-i.is)
