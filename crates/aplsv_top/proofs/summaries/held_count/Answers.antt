use Rattle.std.proofs.Common.{rules, ◌∙◌, Bool}
use Rattle.std.proofs.lemmas.Iterator.{YieldsList-from_slice}
use Rattle.std.proofs.lemmas.Iterator.Consumers.{YieldsList-from_filter, count_from_yields_List}
use Rattle.std.proofs.lemmas.List.Sums.{length-filter}
use Rattle.sv_events.specs.Entry.{plain_entry}
use Rattle.sv_events.specs.declared.entry.Entry.{Entry}
use Rattle.aplsv_top.specs.Summary.{was_held}
use Rattle.aplsv_top.proofs.summaries.held_count.Goals as goal

abbrev is_held_entry : Entry → Bool
is_held_entry entry = was_held (plain_entry entry)

pub returns : goal.returns
returns c =
    count_from_yields_List c.filter.result c.count.result c.count.ensures.ran
    (YieldsList-from_filter _ is_held_entry (YieldsList-from_slice c.args.journal.now cc) c.filter.ensures.closure (λ x r q k. search rules))
    ∙ length-filter is_held_entry c.args.journal.now
