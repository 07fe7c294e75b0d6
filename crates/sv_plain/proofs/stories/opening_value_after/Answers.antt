use Rattle.std.proofs.Common.{ap, sym, ◌∙◌, Option}
use Rattle.apl_arrays.specs.Array.{PlainArray}
use Rattle.sv_access.specs.declared.access.Side.TheVariants.{A}
use Rattle.sv_plain.specs.Told.{value_with}
use Rattle.sv_events.specs.Entry.{plain_entry}
use Rattle.sv_rules.specs.Journal.{journal_of}
use Rattle.sv_rules.specs.Story.{access_on}
use Rattle.sv_plain.proofs.ToldLemmas.{opening_value-opens, opening_value-stays}
use Rattle.sv_plain.proofs.stories.opening_value_after.Goals as goal

pub returns-then-opens : goal.returns-then-opens
returns-then-opens c =
    c.known_value.ensures
    ∙ sym (opening_value-opens A (plain_entry c.args.entry.now) (journal_of c.args.before.now) (journal_of c.args.upto.now) c.args.offer.now c.requires.entry (sym c.in_ok-opens.ensures ∙ c.if-opens.true))

pub returns-else-opens : goal.returns-else-opens
returns-else-opens c =
    let got = access_on c.args.offer.now (plain_entry c.args.entry.now) in
    c.value_with.ensures ∙ ap (λ (v : Option PlainArray). value_with v got) c.requires.value
    ∙ sym (opening_value-stays A (plain_entry c.args.entry.now) (journal_of c.args.before.now) (journal_of c.args.upto.now) c.args.offer.now c.requires.entry (sym c.in_ok-opens.ensures ∙ c.if-opens.false))
