use Rattle.std.proofs.Common.{◌≡◌, ap, sym, ◌∙◌, ◌+◌, ◌∷◌, subst, take, arith}
use Rattle.sv_events.specs.Entry.{plain_entry}
use Rattle.sv_events.specs.declared.entry.Entry.{Entry}
use Rattle.sv_offer_laws.proofs.LegalLemmas.{MayFollow-from_take}
use Rattle.sv_rules.proofs.JournalLemmas.{journal_of-take_more}
use Rattle.sv_rules.specs.Entries.{Entries}
use Rattle.sv_rules.specs.Journal.{journal_of}
use Rattle.sv_rules.specs.Legal.{IsLegal}
use Rattle.sv_plain.proofs.legal.is_legal.Goals as goal

pub returns-then-not-branch : goal.returns-then-not-branch
returns-then-not-branch c = (
  (λ h. cc),
  λ legal.
      let may = c.in_ok-may_follow.ensures.1 (MayFollow-from_take c.args.users.now c.args.entries.now c.loop-i.i c.index-entries-i.result (omega arith) c.index-entries-i.is legal) in cc,
)

pub loop-i-preserved : goal.loop-i-preserved
loop-i-preserved c =
    let before = journal_of (take c.loop-i.i c.args.entries.now) in
    let more : journal_of (take (c.loop-i.i + 1) c.args.entries.now) ≡ plain_entry c.index-entries-i.result ∷ before =
    journal_of-take_more c.args.entries.now c.loop-i.i c.index-entries-i.result (omega arith) ∙ ap (λ (e : Entry). plain_entry e ∷ before) (sym c.index-entries-i.is) in
    subst (λ (journal : Entries). IsLegal c.args.users.now journal) (sym more) (c.in_ok-may_follow.ensures.0 c.if-not-branch.false, c.loop-i.invariant)
