use Rattle.std.proofs.Common.{◌∙◌, Bool, None, Some, ap, not, subst, sym}
use Rattle.sv_core.specs.Retry.{plain_retry}
use Rattle.sv_events.specs.Answer.{plain_answer}
use Rattle.party_turns.specs.Entering.{IsOneIf}
use Rattle.party_turns.proofs.Hearing.{try_of}
use Rattle.party_turns.proofs.SeatSteps.{brings_again, brings_none, held_same, try_one}
use Rattle.party_turns.proofs.seat.UserSeat.retry.Goals as goal

pub returns-in-Now-clause-one : goal.returns-in-Now-clause-one
returns-in-Now-clause-one g c =
    let before = c.args.core.now in
    let after = c.retry.new.self in
    let user = c.args.self.now.session.user in
    let answer = plain_answer c.in-Now.answer in
    let try = try_of before after c.user.result user (Some answer) c.user.ensures (ap plain_retry (sym c.in-Now.is) ∙ c.in_ok-answer.ensures.answer) c.in_ok-answer.ensures.journal in
    subst (λ (limit : Bool). IsOneIf (not limit) user before after) (sym c.is_full-has_room.ensures) (try_one before after user answer c.requires.waits try)

pub returns-in-Now-clause-brings : goal.returns-in-Now-clause-brings
returns-in-Now-clause-brings g c =
    let before = c.args.core.now in
    let after = c.retry.new.self in
    let s = c.args.self.now.session in
    let answer = plain_answer c.in-Now.answer in
    let try = try_of before after c.user.result s.user (Some answer) c.user.ensures (ap plain_retry (sym c.in-Now.is) ∙ c.in_ok-answer.ensures.answer) c.in_ok-answer.ensures.journal in
    λ exchanges again. brings_again exchanges before after s answer c.requires.stays c.requires.waiting c.requires.waits again try

pub returns-in-StillHeld-clause-one : goal.returns-in-StillHeld-clause-one
returns-in-StillHeld-clause-one g c =
    let before = c.args.core.now in
    let after = c.retry.new.self in
    let user = c.args.self.now.session.user in
    let try = try_of before after c.user.result user None c.user.ensures (ap plain_retry (sym c.in-StillHeld.is) ∙ c.in_ok-answer.ensures.answer) c.in_ok-answer.ensures.journal in
    held_same before after user c.requires.waits try

pub returns-in-StillHeld-clause-brings : goal.returns-in-StillHeld-clause-brings
returns-in-StillHeld-clause-brings g c =
    let before = c.args.core.now in
    let after = c.retry.new.self in
    let s = c.args.self.now.session in
    let try = try_of before after c.user.result s.user None c.user.ensures (ap plain_retry (sym c.in-StillHeld.is) ∙ c.in_ok-answer.ensures.answer) c.in_ok-answer.ensures.journal in
    λ exchanges again. brings_none exchanges before after s c.requires.stays c.requires.waiting c.requires.waits again try
