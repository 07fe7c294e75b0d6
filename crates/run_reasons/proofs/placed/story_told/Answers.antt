use Rattle.std.proofs.Common.{◌≡◌, ap, sym, ◌∙◌, ◌+◌, ◌≤◌, ◌∷◌, ℕ, length, take, length-take, arith}
use Rattle.sv_events.specs.Entry.{plain_entry}
use Rattle.sv_events.specs.declared.entry.Entry.{Entry}
use Rattle.sv_rules.specs.Journal.{journal_of}
use Rattle.sv_rules.proofs.JournalLemmas.{journal_of-take_more, length-journal_of}
use Rattle.run_reasons.specs.Placed.{placed_story}
use Rattle.run_reasons.specs.StoryFacts.{told, told_with_both}
use Rattle.run_reasons.specs.declared.story.StoryFacts.{StoryFacts}
use Rattle.run_reasons.proofs.StoryLemmas.{story-giver, told_story-later}
use Rattle.run_reasons.proofs.placed.story_told.Goals as goal

pub loop-i-init : goal.loop-i-init
loop-i-init c =
    let first = take c.entries_before-start.result c.args.entries.now in
    let size : length (journal_of first) ≤ c.args.coupling.now.at =
    omega (arith, length-journal_of first, length-take c.entries_before-start.result c.args.entries.now, c.entries_before-start.ensures) in
    c.in_ok-story.ensures ∙ ap told (sym (story-giver (journal_of first) c.args.coupling.now size))

pub loop-i-preserved : goal.loop-i-preserved
loop-i-preserved c =
    let e = c.index-entries-i.result in
    let before = take c.loop-i.i c.args.entries.now in
    let more : journal_of (take (c.loop-i.i + 1) c.args.entries.now) ≡ plain_entry e ∷ journal_of before =
    journal_of-take_more c.args.entries.now c.loop-i.i e (omega arith) ∙ ap (λ (x : Entry). plain_entry x ∷ journal_of before) (sym c.index-entries-i.is) in
    let size : length (journal_of before) ≡ c.loop-i.i = omega (arith, length-journal_of before, length-take c.loop-i.i c.args.entries.now) in
    let old : c.args.coupling.now.at ≤ length (journal_of before) =
    omega (arith, length-journal_of before, length-take c.loop-i.i c.args.entries.now, c.entries_before-start.ensures) in
    c.told_after-story.ensures ∙ ap (λ (x : StoryFacts). told_with_both x c.args.coupling.now (c.loop-i.i + 1) (plain_entry e)) c.loop-i.invariant
    ∙ ap (λ (at : ℕ). told_with_both (told (placed_story (journal_of before) c.args.coupling.now)) c.args.coupling.now (at + 1) (plain_entry e)) (sym size)
    ∙ sym (told_story-later (plain_entry e) (journal_of before) (journal_of (take (c.loop-i.i + 1) c.args.entries.now)) c.args.coupling.now more old)
