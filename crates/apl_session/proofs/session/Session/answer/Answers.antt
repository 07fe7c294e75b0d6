use Rattle.std.proofs.Common.{ℕ, List, ap, length, subst, sym, ◌∙◌}
use Rattle.std.proofs.lemmas.List.{length-map}
use Rattle.apl_arrays.specs.List.{glyphs_in}
use Rattle.sv_events.specs.Answer.{plain_answer}
use Rattle.apl_session.specs.Standing.{IsOpenLine}
use Rattle.apl_session.proofs.Around.{answer_comes, still_waits, waits_inside, was_answered}
use Rattle.apl_session.proofs.session.Session.answer.Goals as goal

pub take_answer-requires : goal.take_answer-requires
take_answer-requires g c =
    let inside = c.self.inside in
    subst (λ (count : ℕ). IsOpenLine count inside.progress.read inside.progress.terminal inside.progress.under_way) (ap length (sym c.as_slice.ensures) ∙ length-map c.as_slice.result.now glyphs_in)
    (waits_inside c.args.self.now inside.user inside.lines.items inside.receipts.items inside.progress inside.stage inside.shelf c.self.view_is c.requires c.self.invariant)

pub invariant_of-self-2 : goal.invariant_of-self-2
invariant_of-self-2 g c =
    let inside = c.self.inside in
    let k = c.self.invariant (still_waits c.args.self.now inside.user inside.lines.items inside.receipts.items inside.progress inside.stage inside.shelf c.self.view_is c.requires) in
    λ kept. record {
      exchanges = k.exchanges;
      come = was_answered inside.lines.items _ inside.receipts.items c.push.new.self.items k.exchanges (record { act = c.in_ok-act.act; answer = plain_answer c.in_ok-told.told }) inside.progress c.take_answer.new.self (plain_answer c.args.answer) c.in_ok-push.ensures.ok
          c.in_ok-told.ensures c.as_slice.ensures k.come.acts k.come.stands c.in_ok-act.ensures;
    }

pub returns-clause-come : goal.returns-clause-come
returns-clause-come g c =
    let inside = c.self.inside in
    answer_comes g.K.Shelf.told g.K.Shelf.faults c.args.self.now inside.user inside.lines.items _ inside.receipts.items c.push.new.self.items (record { act = c.in_ok-act.act; answer = plain_answer c.in_ok-told.told }) inside.progress c.take_answer.new.self inside.stage inside.shelf (plain_answer c.args.answer)
    c.self.view_is c.in_ok-push.ensures.ok c.in_ok-told.ensures c.as_slice.ensures c.in_ok-act.ensures
