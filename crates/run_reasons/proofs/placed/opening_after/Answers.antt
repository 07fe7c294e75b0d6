use Rattle.std.proofs.Common.{◌≡◌, ◌+◌, ap, sym, ◌∙◌, ℕ, Option, length}
use Rattle.std.specs.Prelude.{option_map}
use Rattle.sv_access.specs.declared.access.Kind.{Kind}
use Rattle.sv_events.specs.Entry.{plain_entry}
use Rattle.sv_rules.specs.Journal.{journal_of}
use Rattle.sv_rules.specs.Story.{access_on}
use Rattle.sv_rules.proofs.JournalLemmas.{length-journal_of}
use Rattle.run_reasons.specs.StoryFacts.{told_first, told_with}
use Rattle.run_reasons.specs.declared.story.Source.{Source}
use Rattle.run_reasons.specs.declared.story.StoryFacts.{StoryFacts}
use Rattle.run_reasons.proofs.StoryLemmas.{opens-so, size-more, told-opens, told-stays}
use Rattle.run_reasons.proofs.placed.opening_after.Goals as goal

pub returns-then-opens : goal.returns-then-opens
returns-then-opens c = λ journal whole ends before.
    let e = plain_entry c.args.entry.now in
    let size : length c.args.upto.now ≡ length journal + 1 = size-more (plain_entry c.args.entry.now) journal (journal_of c.args.upto.now) c.args.upto.now (length-journal_of c.args.upto.now) whole in
    c.told_first.ensures ∙ ap (λ (source : Option Source). told_first c.args.side source) c.known_at.ensures
    ∙ sym (told-opens c.args.side e journal (journal_of c.args.upto.now) c.args.offer.now whole (opens-so e journal c.args.offer.now _ c.args.ends _ size ends (sym c.either-opens.ensures ∙ c.if-opens.true)))

pub returns-else-opens : goal.returns-else-opens
returns-else-opens c = λ journal whole ends before.
    let e = plain_entry c.args.entry.now in
    let made = option_map (λ access. access.kind) (access_on c.args.offer.now e) in
    let size : length c.args.upto.now ≡ length journal + 1 = size-more (plain_entry c.args.entry.now) journal (journal_of c.args.upto.now) c.args.upto.now (length-journal_of c.args.upto.now) whole in
    c.told_with.ensures ∙ ap (λ (k : Option Kind). told_with c.args.before c.args.side (length c.args.upto.now) k) c.kind_on.ensures
    ∙ ap (λ (at : ℕ). told_with c.args.before c.args.side at made) size
    ∙ ap (λ (t : StoryFacts). told_with t c.args.side (length journal + 1) made) before
    ∙ sym (told-stays c.args.side e journal (journal_of c.args.upto.now) c.args.offer.now whole (opens-so e journal c.args.offer.now _ c.args.ends _ size ends (sym c.either-opens.ensures ∙ c.if-opens.false)))
