use Rattle.std.proofs.Common.{◌≡◌, ◌∙◌, ℕ, ap, sym}
use Rattle.std.specs.Prelude.{option_map}
use Rattle.aux_parties.specs.Auxiliaries.{is_auxiliary}
use Rattle.bundle_text.specs.User.{PlainUser}
use Rattle.sv_core.proofs.People.{people_are}
use Rattle.sv_events.specs.Answer.{plain_answer}
use Rattle.sv_rules.specs.Entries.{has_left}
use Rattle.sv_rules.specs.Legal.{is_user}
use Rattle.party_turns.proofs.Leaving.{user_is}
use Rattle.aplsv_check.proofs.UserSteps.{ready_for, took_turn}
use Rattle.aplsv_check.proofs.turns.take_turn.Goals as goal

pub enter-requires-clause-user : goal.enter-requires-clause-user
enter-requires-clause-user c =
    ap (λ (p : ℕ). is_user c.args.core.now.users p) (user_is c.args.seat.now.session c.prepare.new.self.session c.prepare.ensures.same) ∙ c.requires.user

pub enter-requires-clause-stays : goal.enter-requires-clause-stays
enter-requires-clause-stays c =
    ap (λ (p : ℕ). has_left c.args.core.now.journal p) (user_is c.args.seat.now.session c.prepare.new.self.session c.prepare.ensures.same) ∙ c.requires.stays

pub enter-requires-clause-ready : goal.enter-requires-clause-ready
enter-requires-clause-ready c =
    let seated = c.requires.seated in
    ready_for c.args.core.now c.args.seat.now seated.0 c.requires.stays seated.1 c.prepare.new.self.session c.in_ok-intent.intent c.in_ok-intent.ensures.finds

pub returns : goal.returns
returns c = λ user sits.
    let before = c.args.core.now in
    let seat = c.args.seat.now in
    let person : is_auxiliary user.number ≡ _ = ap (λ (p : ℕ). is_auxiliary p) (sym (ap (λ (u : PlainUser). u.number) sits.same)) ∙ people_are before.users c.requires.people seat.session.user c.requires.user in
    took_turn before c.enter.new.core seat c.prepare.new.self c.hear.new.self (option_map plain_answer c.in_ok-came.came.answer) user person c.requires.stays sits c.prepare.ensures.lost c.in_ok-hear.ensures.ok c.in_ok-hear.ensures.come
    c.in_ok-intent.intent c.in_ok-intent.ensures.finds c.in_ok-came.ensures.brings c.in_ok-came.came.is_entered c.in_ok-came.ensures.one
