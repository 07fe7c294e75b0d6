use Rattle.std.proofs.Common.{◌≡◌, ◌+◌, ◌∷◌, ◌∙◌, Bool, ap, arith, subst, sym, take}
use Rattle.sv_events.specs.Entry.{plain_entry}
use Rattle.sv_events.specs.declared.entry.Entry.{Entry}
use Rattle.sv_rules.proofs.JournalLemmas.{journal_of-take_more}
use Rattle.sv_rules.specs.Entries.{Entries}
use Rattle.sv_rules.specs.Journal.{journal_of}
use Rattle.aplsv_check.specs.Followed.{Follows}
use Rattle.aplsv_check.proofs.Verdicts.{unfit_so}
use Rattle.aplsv_check.proofs.judging.first_unfit.Goals as goal

pub loop-i-init : goal.loop-i-init
loop-i-init c = λ bundle h. (h, c.requires.empty)

pub follow-requires : goal.follow-requires
follow-requires c = let some = c.requires.run in (some.0, (c.loop-i.invariant some.0 some.1).0)

pub loop-i-preserved : goal.loop-i-preserved
loop-i-preserved c =
    let before = journal_of (take c.loop-i.i c.args.journal.now) in
    let more : journal_of (take (c.loop-i.i + 1) c.args.journal.now) ≡ plain_entry c.index-journal-i.result ∷ before =
    journal_of-take_more c.args.journal.now c.loop-i.i c.index-journal-i.result (omega arith) ∙ ap (λ (e : Entry). plain_entry e ∷ before) (sym c.index-journal-i.is) in
    λ bundle h.
    let so_far = c.loop-i.invariant bundle h in
    let next = subst (λ (fits : Bool). Follows bundle c.loop-i.follower (plain_entry c.index-journal-i.result) fits c.follow.new.self) c.if-not-branch.false (c.in_ok-follow.ensures bundle so_far.0) in
    (next.0, next.1 ∙ (ap (λ (j : Entries). plain_entry c.index-journal-i.result ∷ j) so_far.1 ∙ sym more))

pub returns-then-not-branch : goal.returns-then-not-branch
returns-then-not-branch c = λ bundle h.
    let so_far = c.loop-i.invariant bundle h in
    let unfit = subst (λ (fits : Bool). Follows bundle c.loop-i.follower (plain_entry c.index-journal-i.result) fits c.follow.new.self) c.if-not-branch.true (c.in_ok-follow.ensures bundle so_far.0) in
    unfit_so bundle c.loop-i.follower c.args.journal.now c.loop-i.i c.index-journal-i.result (omega arith) c.index-journal-i.is so_far.0 so_far.1 unfit
