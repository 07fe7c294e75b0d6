use Rattle.std.proofs.Common.{◌≡◌, ap, sym, ◌∙◌, ◌+◌, ◌∷◌, subst, length, take, length-take, arith}
use Rattle.sv_events.specs.Entry.{plain_entry}
use Rattle.sv_events.specs.declared.entry.Entry.{Entry}
use Rattle.sv_rules.specs.Entries.{Entries}
use Rattle.sv_rules.specs.Journal.{journal_of}
use Rattle.sv_rules.proofs.JournalLemmas.{journal_of-take_more, length-journal_of}
use Rattle.run_reasons.specs.Walk.{Follows}
use Rattle.run_reasons.proofs.placed.opening_told.Goals as goal

pub loop-i-init : goal.loop-i-init
loop-i-init c = record { follows = c.new-walk.ensures c.args.offer.now.place; told = c.told_first-story.ensures }

pub loop-i-preserved : goal.loop-i-preserved
loop-i-preserved c =
    let e = c.index-entries-i.result in
    let before = take c.loop-i.i c.args.entries.now in
    let more : journal_of (take (c.loop-i.i + 1) c.args.entries.now) ≡ plain_entry e ∷ journal_of before =
    journal_of-take_more c.args.entries.now c.loop-i.i e (omega arith) ∙ ap (λ (x : Entry). plain_entry x ∷ journal_of before) (sym c.index-entries-i.is) in
    let at : c.loop-i.i + 1 ≡ length (journal_of before) + 1 = omega (arith, length-journal_of before, length-take c.loop-i.i c.args.entries.now) in
    record {
      follows = subst (λ (j : Entries). Follows c.args.offer.now.place j c.goes_on.new.self) (sym more) (c.in_ok-ends.ensures.follows (journal_of before) at c.loop-i.invariant.follows);
      told = c.opening_after-story.ensures (journal_of before) more (c.in_ok-ends.ensures.ends (journal_of before) at c.loop-i.invariant.follows) c.loop-i.invariant.told;
    }
