use Rattle.std.proofs.Common.{◌∙◌, ◌++◌, [], Bool, ap, not, subst, sym, ℕ}
use Rattle.sv_events.specs.Answer.{plain_answer}
use Rattle.sv_rules.specs.Legal.{is_user}
use Rattle.sv_rules.specs.Refused.{waits}
use Rattle.session_rules.specs.Shelf.{shelf_replies_in}
use Rattle.session_rules.proofs.Taking.{none_leaves}
use Rattle.party_turns.specs.Entering.{IsOneIf}
use Rattle.party_turns.proofs.Hearing.{any_is_due, step_of}
use Rattle.party_turns.proofs.SeatSteps.{brings_step, step_one}
use Rattle.party_turns.proofs.seat.UserSeat.step.Goals as goal

pub step_with-requires-clause-stays : goal.step_with-requires-clause-stays
step_with-requires-clause-stays g c = none_leaves c.args.self.now.session.lines c.args.self.now.session.answers (shelf_replies_in c.requires.asked.0 ++ []) c.args.act.now (c.requires.asked.1.asks [])

pub step_with-requires-clause-due : goal.step_with-requires-clause-due
step_with-requires-clause-due g c =
    let core = c.args.core.now in
    any_is_due core.users core.journal c.user.result c.args.act.now c.requires.people (ap (λ (p : ℕ). is_user core.users p) c.user.ensures ∙ c.requires.user)
    (ap (λ (p : ℕ). waits core.journal p) c.user.ensures ∙ c.requires.free)

pub returns-clause-one : goal.returns-clause-one
returns-clause-one g c =
    let before = c.args.core.now in
    let after = c.step_with.new.self in
    let user = c.args.self.now.session.user in
    let answer = plain_answer c.in_ok-answer.answer in
    let step = step_of before after c.user.result user c.args.act.now answer c.user.ensures c.in_ok-answer.ensures.answer c.in_ok-answer.ensures.journal in
    subst (λ (limit : Bool). IsOneIf (not limit) user before after) (sym c.is_full-is_entered.ensures) (step_one before after user c.args.act.now answer step)

pub returns-clause-brings : goal.returns-clause-brings
returns-clause-brings g c =
    let before = c.args.core.now in
    let after = c.step_with.new.self in
    let s = c.args.self.now.session in
    let answer = plain_answer c.in_ok-answer.answer in
    let step = step_of before after c.user.result s.user c.args.act.now answer c.user.ensures c.in_ok-answer.ensures.answer c.in_ok-answer.ensures.journal in
    λ exchanges asks. brings_step exchanges before after s c.args.act.now answer c.requires.stays c.requires.waiting c.requires.free asks step
