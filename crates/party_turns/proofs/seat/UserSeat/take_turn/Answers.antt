use Rattle.std.proofs.Common.{◌≡◌, ◌∙◌, ap, false, refl, sym, true, ℕ}
use Rattle.std.proofs.lemmas.Bool.{both_ways}
use Rattle.sv_rules.specs.Entries.{has_left}
use Rattle.party_turns.proofs.Leaving.{grows_none, has_left_of, leave_grows_of, leaving_goes_on, user_is}
use Rattle.party_turns.proofs.Staging.{on_ok_is}
use Rattle.party_turns.proofs.seat.UserSeat.take_turn.Goals as goal

pub returns-then-has_left-clause-grows : goal.returns-then-has_left-clause-grows
returns-then-has_left-clause-grows g c = grows_none c.args.self.now.session.user c.args.core.now

pub returns-then-has_left-clause-turn : goal.returns-then-has_left-clause-turn
returns-then-has_left-clause-turn g c = λ unclosed here stays.
    absurd (both_ways (has_left c.args.core.now.journal c.args.self.now.session.user) stays (ap (λ (u : ℕ). has_left c.args.core.now.journal u) (sym c.user.ensures) ∙ sym c.has_left.ensures ∙ c.if-has_left.true))

pub returns-then-closes-clause-grows : goal.returns-then-closes-clause-grows
returns-then-closes-clause-grows g c =
    leave_grows_of c.args.core.now c.args.core.now c.leave.new.self c.user-then-closes.result c.args.self.now.session.user c.user-then-closes.ensures (grows_none c.args.self.now.session.user c.args.core.now) c.leave.ensures

pub returns-then-closes-clause-goes_on : goal.returns-then-closes-clause-goes_on
returns-then-closes-clause-goes_on g c =
    leaving_goes_on c.args.core.now c.leave.new.self c.args.self.now.session c.args.self.now.session refl
    (leave_grows_of c.args.core.now c.args.core.now c.leave.new.self c.user-then-closes.result c.args.self.now.session.user c.user-then-closes.ensures (grows_none c.args.self.now.session.user c.args.core.now) c.leave.ensures)
    (has_left_of c.args.core.now c.leave.new.self c.user-then-closes.result c.args.self.now.session.user c.user-then-closes.ensures c.leave.ensures)

pub returns-then-closes-clause-closed : goal.returns-then-closes-clause-closed
returns-then-closes-clause-closed g c = λ closed. has_left_of c.args.core.now c.leave.new.self c.user-then-closes.result c.args.self.now.session.user c.user-then-closes.ensures c.leave.ensures

pub returns-then-is_ok-clause-goes_on : goal.returns-then-is_ok-clause-goes_on
returns-then-is_ok-clause-goes_on g c = on_ok_is c.go_on.result (sym c.is_ok.ensures.value ∙ c.if-is_ok.true) c.go_on.ensures.goes_on

pub returns-then-is_ok-clause-turn : goal.returns-then-is_ok-clause-turn
returns-then-is_ok-clause-turn g c = λ unclosed here stays. on_ok_is c.go_on.result (sym c.is_ok.ensures.value ∙ c.if-is_ok.true) c.go_on.ensures.turn

pub returns-clause-grows : goal.returns-clause-grows
returns-clause-grows g c =
    let session = c.args.self.now.session in
    leave_grows_of c.args.core.now c.go_on.new.core c.leave-2.new.self c.user-2.result session.user (c.user-2.ensures ∙ user_is session c.go_on.new.self.session c.go_on.ensures.same) c.go_on.ensures.grows c.leave-2.ensures

pub returns-clause-goes_on : goal.returns-clause-goes_on
returns-clause-goes_on g c =
    let session = c.args.self.now.session in
    let is = c.user-2.ensures ∙ user_is session c.go_on.new.self.session c.go_on.ensures.same in
    leaving_goes_on c.args.core.now c.leave-2.new.self session c.go_on.new.self.session c.go_on.ensures.same
    (leave_grows_of c.args.core.now c.go_on.new.core c.leave-2.new.self c.user-2.result session.user is c.go_on.ensures.grows c.leave-2.ensures)
    (has_left_of c.go_on.new.core c.leave-2.new.self c.user-2.result session.user is c.leave-2.ensures)

pub returns-then-is_ok-clause-leaves : goal.returns-then-is_ok-clause-leaves
returns-then-is_ok-clause-leaves g c = λ here lost. absurd (let no : false ≡ true = sym here ∙ (sym c.go_on.ensures.lost ∙ lost) in cc)

pub returns-clause-leaves : goal.returns-clause-leaves
returns-clause-leaves g c =
    let session = c.args.self.now.session in
    let is = c.user-2.ensures ∙ user_is session c.go_on.new.self.session c.go_on.ensures.same in
    λ here lost. has_left_of c.go_on.new.core c.leave-2.new.self c.user-2.result session.user is c.leave-2.ensures
