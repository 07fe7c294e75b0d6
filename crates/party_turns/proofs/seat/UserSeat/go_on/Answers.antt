use Rattle.std.proofs.Common.{◌∙◌, ◌++◌, ap, subst, sym, ℕ}
use Rattle.std.specs.Prelude.{option_map}
use Rattle.std.proofs.lemmas.Result.{on_err_weaker, on_ok_weaker}
use Rattle.sv_events.specs.Answer.{plain_answer}
use Rattle.sv_rules.specs.Entries.{has_left}
use Rattle.sv_rules.specs.Legal.{is_user}
use Rattle.party_turns.specs.Entering.{IsOneIf}
use Rattle.party_turns.specs.declared.seat.UserSeat.{UserSeat}
use Rattle.party_turns.proofs.Leaving.{user_is}
use Rattle.party_turns.proofs.Phases.{goes_by, heard_if_same, is_about, one_grows, turned, unheard_stays}
use Rattle.party_turns.proofs.Staging.{on_ok_two}
use Rattle.party_turns.proofs.Turning.{present_at, same_on}
use Rattle.party_turns.proofs.seat.UserSeat.go_on.Goals as goal

pub enter-requires-clause-user : goal.enter-requires-clause-user
enter-requires-clause-user g c = ap (λ (p : ℕ). is_user c.args.core.now.users p) (user_is c.args.self.now.session c.prepare.new.self.session c.prepare.ensures.same) ∙ c.requires.user

pub enter-requires-clause-stays : goal.enter-requires-clause-stays
enter-requires-clause-stays g c = ap (λ (p : ℕ). has_left c.args.core.now.journal p) (user_is c.args.self.now.session c.prepare.new.self.session c.prepare.ensures.same) ∙ c.requires.stays

pub enter-requires-clause-ready : goal.enter-requires-clause-ready
enter-requires-clause-ready g c =
    let h = present_at g.K.Shelf.told g.K.Shelf.faults c.args.core.now.journal c.args.self.now c.requires.seated c.requires.stays in
    let a = is_about g.K.Shelf.told g.K.Shelf.faults c.args.core.now.journal h.0 h.1 c.in_ok-intent.intent c.args.self.now.session c.prepare.new.self.session c.in_ok-intent.ensures.finds h.2 h.3 in
    (a.more ++ h.1, a.ready)

pub returns-clause-grows : goal.returns-clause-grows
returns-clause-grows g c =
    one_grows c.in_ok-came.came.is_entered c.args.self.now.session.user c.args.core.now c.enter.new.core
    (subst (λ (p : ℕ). IsOneIf c.in_ok-came.came.is_entered p c.args.core.now c.enter.new.core) (user_is c.args.self.now.session c.prepare.new.self.session c.prepare.ensures.same) c.in_ok-came.ensures.one)

pub returns-clause-goes_on : goal.returns-clause-goes_on
returns-clause-goes_on g c =
    let s = c.args.self.now.session in
    let between = c.prepare.new.self.session in
    let then = c.hear.new.self.session in
    let answer = option_map plain_answer c.in_ok-came.came.answer in
    let h = present_at g.K.Shelf.told g.K.Shelf.faults c.args.core.now.journal c.args.self.now c.requires.seated c.requires.stays in
    let a = is_about g.K.Shelf.told g.K.Shelf.faults c.args.core.now.journal h.0 h.1 c.in_ok-intent.intent s between c.in_ok-intent.ensures.finds h.2 h.3 in
    on_ok_weaker c.hear.result
    (λ is.
    let hears = ap (λ (t : UserSeat g.row.K.Denot). t.session) is in
    goes_by g.K.Shelf.told g.K.Shelf.faults c.in_ok-intent.intent c.args.core.now c.enter.new.core s between then answer c.in_ok-intent.ensures.finds (a.more ++ h.1) a.ready (c.in_ok-came.ensures.brings (a.more ++ h.1) a.ready) hears
    (same_on s between then c.prepare.ensures.same (heard_if_same answer between then hears))) c.hear.ensures.ok

pub returns-clause-turn : goal.returns-clause-turn
returns-clause-turn g c =
    let seat = c.args.self.now in
    let between = c.prepare.new.self.session in
    let then = c.hear.new.self in
    let answer = option_map plain_answer c.in_ok-came.came.answer in
    let h = present_at g.K.Shelf.told g.K.Shelf.faults c.args.core.now.journal seat c.requires.seated c.requires.stays in
    let a = is_about g.K.Shelf.told g.K.Shelf.faults c.args.core.now.journal h.0 h.1 c.in_ok-intent.intent seat.session between c.in_ok-intent.ensures.finds h.2 h.3 in
    on_ok_two c.hear.result
    (λ is come.
    let hears = ap (λ (t : UserSeat g.row.K.Denot). t.session) is in
    turned g.K.Shelf.told g.K.Shelf.faults c.args.core.now c.enter.new.core seat then between answer c.requires.stays (c.hear.ensures.lost ∙ c.prepare.ensures.lost)
    (same_on seat.session between then.session c.prepare.ensures.same (heard_if_same answer between then.session hears)) hears come c.in_ok-intent.intent c.in_ok-intent.ensures.finds c.in_ok-came.ensures.brings (a.more ++ h.1) a.ready)
    c.hear.ensures.ok c.hear.ensures.come

pub returns-clause-stays : goal.returns-clause-stays
returns-clause-stays g c =
    let s = c.args.self.now.session in
    let between = c.prepare.new.self.session in
    let h = present_at g.K.Shelf.told g.K.Shelf.faults c.args.core.now.journal c.args.self.now c.requires.seated c.requires.stays in
    let a = is_about g.K.Shelf.told g.K.Shelf.faults c.args.core.now.journal h.0 h.1 c.in_ok-intent.intent s between c.in_ok-intent.ensures.finds h.2 h.3 in
    on_err_weaker c.hear.result (λ stays. ap (λ (p : ℕ). has_left c.enter.new.core.journal p) (sym (user_is s between c.prepare.ensures.same)) ∙ stays)
    (unheard_stays c.hear.result c.in_ok-intent.intent (a.more ++ h.1) c.args.core.now c.enter.new.core between c.in_ok-came.came.answer (c.in_ok-came.ensures.brings (a.more ++ h.1) a.ready) c.hear.ensures.none)
