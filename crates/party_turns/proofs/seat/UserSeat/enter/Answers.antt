use Rattle.std.proofs.Common.{◌∙◌, ap, refl, subst, sym, ℕ}
use Rattle.std.proofs.lemmas.Result.{IfOk-weaker}
use Rattle.std.specs.Prelude.{List, None, option_map}
use Rattle.sv_core.specs.Core.{core_after}
use Rattle.sv_events.specs.Answer.{plain_answer}
use Rattle.sv_events.specs.declared.event.Act.TheVariants.{Leave}
use Rattle.session_rules.specs.Shelf.{Exchange}
use Rattle.party_turns.specs.Entering.{Brings, IsReady}
use Rattle.party_turns.specs.declared.intent.Intent.{Intent}
use Rattle.party_turns.specs.declared.intent.TurnResult.{TurnResult}
use Rattle.party_turns.proofs.Phases.{leave_one}
use Rattle.party_turns.proofs.Staging.{if_said}
use Rattle.party_turns.proofs.Turning.{may_try}
use Rattle.party_turns.proofs.seat.UserSeat.enter.Goals as goal

pub make-requires-clause-waiting : goal.make-requires-clause-waiting
make-requires-clause-waiting g c =
    let ready = subst (λ (about : Intent). (exchanges : List Exchange) × IsReady c.args.core.now.journal exchanges about c.args.self.now.session) c.in-Make.is c.requires.ready in ready.1.0

pub make-requires-clause-asked : goal.make-requires-clause-asked
make-requires-clause-asked g c =
    let ready = subst (λ (about : Intent). (exchanges : List Exchange) × IsReady c.args.core.now.journal exchanges about c.args.self.now.session) c.in-Make.is c.requires.ready in (ready.0, ready.1.1)

pub retry-requires-clause-waiting : goal.retry-requires-clause-waiting
retry-requires-clause-waiting g c =
    let ready = subst (λ (about : Intent). (exchanges : List Exchange) × IsReady c.args.core.now.journal exchanges about c.args.self.now.session) c.in-TryAgain.is c.requires.ready in ready.1.0

pub retry-requires-clause-waits : goal.retry-requires-clause-waits
retry-requires-clause-waits g c =
    let ready = subst (λ (about : Intent). (exchanges : List Exchange) × IsReady c.args.core.now.journal exchanges about c.args.self.now.session) c.in-TryAgain.is c.requires.ready in
    (may_try g.K.Shelf.told g.K.Shelf.faults c.args.core.now.journal ready.0 c.args.self.now.session ready.1.0 ready.1.1).0

pub retry-requires-clause-again : goal.retry-requires-clause-again
retry-requires-clause-again g c =
    let ready = subst (λ (about : Intent). (exchanges : List Exchange) × IsReady c.args.core.now.journal exchanges about c.args.self.now.session) c.in-TryAgain.is c.requires.ready in
    (ready.0, (may_try g.K.Shelf.told g.K.Shelf.faults c.args.core.now.journal ready.0 c.args.self.now.session ready.1.0 ready.1.1).1)

pub returns-in-Make-clause-brings : goal.returns-in-Make-clause-brings
returns-in-Make-clause-brings g c =
    let s = c.args.self.now.session in
    IfOk-weaker c.make.result _ _
    (λ came brings exchanges ready.
    subst (λ (about : Intent). Brings c.args.core.now exchanges s about c.make.new.core (option_map plain_answer came.answer)) (sym c.in-Make.is)
    (brings exchanges (subst (λ (about : Intent). IsReady c.args.core.now.journal exchanges about s) c.in-Make.is ready).1))
    c.make.ensures.brings

pub returns-in-Make-clause-waiting : goal.returns-in-Make-clause-waiting
returns-in-Make-clause-waiting g c =
    let ready = subst (λ (about : Intent). (exchanges : List Exchange) × IsReady c.args.core.now.journal exchanges about c.args.self.now.session) c.in-Make.is c.requires.ready in
    if_said c.make.result (λ (came : TurnResult). came.answer) ready.1.0

pub returns-in-TryAgain-clause-brings : goal.returns-in-TryAgain-clause-brings
returns-in-TryAgain-clause-brings g c =
    let s = c.args.self.now.session in
    IfOk-weaker c.retry.result _ _
    (λ came brings exchanges ready.
    let about = subst (λ (about : Intent). IsReady c.args.core.now.journal exchanges about s) c.in-TryAgain.is ready in
    subst (λ (about : Intent). Brings c.args.core.now exchanges s about c.retry.new.core (option_map plain_answer came.answer)) (sym c.in-TryAgain.is)
    (brings exchanges (may_try g.K.Shelf.told g.K.Shelf.faults c.args.core.now.journal exchanges s about.0 about.1).1))
    c.retry.ensures.brings

pub returns-in-TryAgain-clause-waiting : goal.returns-in-TryAgain-clause-waiting
returns-in-TryAgain-clause-waiting g c =
    let ready = subst (λ (about : Intent). (exchanges : List Exchange) × IsReady c.args.core.now.journal exchanges about c.args.self.now.session) c.in-TryAgain.is c.requires.ready in
    if_said c.retry.result (λ (came : TurnResult). came.answer) ready.1.0

pub returns-in-Leave-clause-one : goal.returns-in-Leave-clause-one
returns-in-Leave-clause-one g c =
    leave_one c.args.core.now c.leave.new.self c.args.self.now.session.user (c.leave.ensures ∙ ap (λ (u : ℕ). core_after c.args.core.now u Leave) c.user.ensures)

pub returns-in-Leave-clause-brings : goal.returns-in-Leave-clause-brings
returns-in-Leave-clause-brings g c = λ exchanges ready.
    subst (λ (about : Intent). Brings c.args.core.now exchanges c.args.self.now.session about c.leave.new.self None) (sym c.in-Leave.is)
    (c.leave.ensures ∙ ap (λ (u : ℕ). core_after c.args.core.now u Leave) c.user.ensures, refl)
