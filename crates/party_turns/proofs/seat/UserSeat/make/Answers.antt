use Rattle.std.proofs.Common.{◌≡◌, ◌∙◌, ◌++◌, [], Some, ap, subst, sym, ℕ}
use Rattle.std.proofs.lemmas.Option.{none-some, same_Some}
use Rattle.std.proofs.lemmas.Result.{IfOk-weaker}
use Rattle.std.specs.Option.{option_copied}
use Rattle.std.specs.Prelude.{None, option_map}
use Rattle.sv_events.specs.Answer.{plain_answer}
use Rattle.sv_events.specs.declared.event.Act.{Act}
use Rattle.sv_rules.specs.Refused.{waits}
use Rattle.session_rules.specs.Shelf.{shelf_replies_in}
use Rattle.party_turns.specs.Participants.{participant_with}
use Rattle.party_turns.specs.SoFar.{AsksNow}
use Rattle.party_turns.proofs.Hearing.{waits_at_limit}
use Rattle.party_turns.proofs.SeatSteps.{brings_at_limit, tries_at_limit}
use Rattle.party_turns.proofs.seat.UserSeat.make.Goals as goal

pub retry-requires-clause-waits : goal.retry-requires-clause-waits
retry-requires-clause-waits g c = ap (λ (p : ℕ). waits c.args.core.now.journal p) (sym c.user.ensures) ∙ sym c.waits.ensures ∙ c.if-waits.true

pub retry-requires-clause-again : goal.retry-requires-clause-again
retry-requires-clause-again g c =
    let waiting = ap (λ (p : ℕ). waits c.args.core.now.journal p) (sym c.user.ensures) ∙ sym c.waits.ensures ∙ c.if-waits.true in
    let asks = c.requires.asked.1 in
    (c.requires.asked.0, tries_at_limit c.args.core.now.journal c.requires.asked.0 asks.act c.args.self.now.session waiting asks.now)

pub returns-then-waits-clause-brings : goal.returns-then-waits-clause-brings
returns-then-waits-clause-brings g c =
    let before = c.args.core.now in
    let s = c.args.self.now.session in
    let waiting = ap (λ (p : ℕ). waits before.journal p) (sym c.user.ensures) ∙ sym c.waits.ensures ∙ c.if-waits.true in
    IfOk-weaker c.retry.result _ _
    (λ came brings exchanges asks.
    let limit = waits_at_limit before.journal (participant_with (shelf_replies_in exchanges ++ []) s) (asks.now.so_far []) waiting in
    brings_at_limit exchanges before c.retry.new.core s (option_map plain_answer came.answer) c.requires.stays limit (brings exchanges (tries_at_limit before.journal exchanges asks.act s waiting asks.now)))
    c.retry.ensures.brings

pub unreachable-requires : goal.unreachable-requires
unreachable-requires g c =
    let asks = c.requires.asked.1 in
    let none : None ≡ Some asks.act = ap option_copied (sym c.in-None.is) ∙ c.act.ensures.act ∙ asks.own in
    absurd (none-some asks.act none)

pub step-requires-clause-free : goal.step-requires-clause-free
step-requires-clause-free g c = ap (λ (p : ℕ). waits c.args.core.now.journal p) (sym c.user.ensures) ∙ sym c.waits.ensures ∙ c.if-waits.false

pub step-requires-clause-asked : goal.step-requires-clause-asked
step-requires-clause-asked g c =
    let asks = c.requires.asked.1 in
    let same : Some c.in-Some.act.now ≡ Some asks.act = ap option_copied (sym c.in-Some.is) ∙ c.act.ensures.act ∙ asks.own in
    (c.requires.asked.0, subst (λ (a : Act). AsksNow c.args.core.now.journal c.requires.asked.0 a c.args.self.now.session) (sym (same_Some _ asks.act same)) asks.now)

pub returns-clause-brings : goal.returns-clause-brings
returns-clause-brings g c =
    let s = c.args.self.now.session in
    IfOk-weaker c.step.result _ _
    (λ came brings exchanges asks.
    let same : Some c.in-Some.act.now ≡ Some asks.act = ap option_copied (sym c.in-Some.is) ∙ c.act.ensures.act ∙ asks.own in
    brings exchanges (subst (λ (a : Act). AsksNow c.args.core.now.journal exchanges a s) (sym (same_Some _ asks.act same)) asks.now))
    c.step.ensures.brings
