use Rattle.std.proofs.Common.{◌∙◌, Some, ap, subst, sym}
use Rattle.sv_events.specs.Answer.{PlainAnswer}
use Rattle.sv_rules.specs.Entries.{is_full}
use Rattle.sv_rules.specs.Legal.{IsLegal}
use Rattle.sv_core.proofs.RetryLemmas.{full_again, goes_on, kept_back, may_retry, not_held}
use Rattle.sv_core.specs.Core.{ArePeople, PlainCore}
use Rattle.sv_core.proofs.processor.Core.retry.Goals as goal

pub returns-then-is_full-clause-answer : goal.returns-then-is_full-clause-answer
returns-then-is_full-clause-answer c =
    (full_again c.args.self.now c.args.party (sym (ap (λ (v : PlainCore). is_full v.journal) c.self.view_is) ∙ sym c.is_full.ensures ∙ c.if-is_full.true) c.requires.waits).0

pub returns-then-is_full-clause-journal : goal.returns-then-is_full-clause-journal
returns-then-is_full-clause-journal c =
    (full_again c.args.self.now c.args.party (sym (ap (λ (v : PlainCore). is_full v.journal) c.self.view_is) ∙ sym c.is_full.ensures ∙ c.if-is_full.true) c.requires.waits).1

pub returns-then-is_kept_back-clause-answer : goal.returns-then-is_kept_back-clause-answer
returns-then-is_kept_back-clause-answer c =
    (kept_back c.args.self.now c.args.party (sym (ap (λ (v : PlainCore). is_full v.journal) c.self.view_is) ∙ sym c.is_full.ensures ∙ c.if-is_full.false) (sym c.is_kept_back.ensures ∙ c.if-is_kept_back.true)).0

pub returns-then-is_kept_back-clause-journal : goal.returns-then-is_kept_back-clause-journal
returns-then-is_kept_back-clause-journal c =
    (kept_back c.args.self.now c.args.party (sym (ap (λ (v : PlainCore). is_full v.journal) c.self.view_is) ∙ sym c.is_full.ensures ∙ c.if-is_full.false) (sym c.is_kept_back.ensures ∙ c.if-is_kept_back.true)).1

pub make-requires : goal.make-requires
make-requires c =
    let core = c.args.self.now in
    let legal = subst (λ (v : PlainCore). IsLegal v.users v.journal) c.self.view_is c.self.invariant.legal in
    let people = subst (λ (v : PlainCore). ArePeople v.users) c.self.view_is c.self.invariant.people in
    let room = sym (ap (λ (v : PlainCore). is_full v.journal) c.self.view_is) ∙ sym c.is_full.ensures ∙ c.if-is_full.false in
    may_retry core c.args.party c.in_ok-act.act legal people room (sym c.is_kept_back.ensures ∙ c.if-is_kept_back.false) c.requires.waits c.in_ok-act.ensures

pub returns-in-Ok-clause-answer : goal.returns-in-Ok-clause-answer
returns-in-Ok-clause-answer c =
    let room = sym (ap (λ (v : PlainCore). is_full v.journal) c.self.view_is) ∙ sym c.is_full.ensures ∙ c.if-is_full.false in
    let goes = goes_on c.args.self.now c.args.party c.in_ok-act.act room (sym c.is_kept_back.ensures ∙ c.if-is_kept_back.false) c.in_ok-act.ensures in
    ap (λ (a : PlainAnswer). Some a) c.in-Ok.ensures.answer ∙ sym goes.1

pub returns-in-Ok-clause-journal : goal.returns-in-Ok-clause-journal
returns-in-Ok-clause-journal c =
    let room = sym (ap (λ (v : PlainCore). is_full v.journal) c.self.view_is) ∙ sym c.is_full.ensures ∙ c.if-is_full.false in
    let goes = goes_on c.args.self.now c.args.party c.in_ok-act.act room (sym c.is_kept_back.ensures ∙ c.if-is_kept_back.false) c.in_ok-act.ensures in
    c.in-Ok.ensures.journal ∙ sym goes.2

pub returns-in_err-act-clause-held : goal.returns-in_err-act-clause-held
returns-in_err-act-clause-held c = λ held.
    let room = sym (ap (λ (v : PlainCore). is_full v.journal) c.self.view_is) ∙ sym c.is_full.ensures ∙ c.if-is_full.false in
    absurd (not_held c.args.self.now c.args.party room (sym c.is_kept_back.ensures ∙ c.if-is_kept_back.false) held)

pub returns-in-Err-clause-held : goal.returns-in-Err-clause-held
returns-in-Err-clause-held c = λ held.
    let room = sym (ap (λ (v : PlainCore). is_full v.journal) c.self.view_is) ∙ sym c.is_full.ensures ∙ c.if-is_full.false in
    absurd (not_held c.args.self.now c.args.party room (sym c.is_kept_back.ensures ∙ c.if-is_kept_back.false) held)
