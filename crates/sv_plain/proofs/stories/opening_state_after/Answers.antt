use Rattle.std.proofs.Common.{ap, sym, ◌∙◌, Option}
use Rattle.std.specs.Prelude.{option_map}
use Rattle.apl_arrays.specs.Array.{PlainArray}
use Rattle.sv_access.specs.Story.{state_of_story}
use Rattle.sv_access.specs.declared.access.Kind.{Kind}
use Rattle.sv_access.specs.declared.state.AccessState.{AccessState}
use Rattle.sv_plain.specs.Told.{state_with}
use Rattle.sv_events.specs.Entry.{plain_entry}
use Rattle.sv_rules.specs.Journal.{journal_of}
use Rattle.sv_rules.specs.Story.{access_on, first_set}
use Rattle.sv_plain.proofs.ToldLemmas.{opening_state-opens, opening_state-stays}
use Rattle.sv_plain.proofs.stories.opening_state_after.Goals as goal

pub returns-then-opens : goal.returns-then-opens
returns-then-opens c =
    c.first_state.ensures ∙ ap (λ (v : Option PlainArray). state_of_story (first_set c.args.side v)) c.known_value.ensures
    ∙ sym (opening_state-opens c.args.side (plain_entry c.args.entry.now) (journal_of c.args.before.now) (journal_of c.args.upto.now) c.args.offer.now c.requires.entry (sym c.in_ok-opens.ensures ∙ c.if-opens.true))

pub returns-else-opens : goal.returns-else-opens
returns-else-opens c =
    let got = access_on c.args.offer.now (plain_entry c.args.entry.now) in
    c.state_with.ensures ∙ ap (λ (k : Option Kind). state_with c.args.state c.args.side k) c.kind_on.ensures
    ∙ ap (λ (s : AccessState). state_with s c.args.side (option_map (λ access. access.kind) got)) c.requires.state
    ∙ sym (opening_state-stays c.args.side (plain_entry c.args.entry.now) (journal_of c.args.before.now) (journal_of c.args.upto.now) c.args.offer.now c.requires.entry (sym c.in_ok-opens.ensures ∙ c.if-opens.false))
