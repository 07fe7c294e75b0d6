use Rattle.std.proofs.Common.{◌∙◌, Some, ap, sym}
use Rattle.sv_events.specs.declared.entry.Entry.{Entry}
use Rattle.sv_core.proofs.WaitingLemmas.{entry_awaited}
use Rattle.sv_core.proofs.processor.act_awaited.Goals as goal

pub returns : goal.returns
returns c =
    sym (entry_awaited c.args.entries.now c.args.party c.args.place c.requires.at c.index-entries-place.result c.index-entries-place.is)
    ∙ ap (λ (e : Entry). Some e.act) c.index-entries-place.is
