use Rattle.std.proofs.Common.{◌∙◌, List, Option, subst, sym}
use Rattle.std.specs.Prelude.{IfSome, option_map}
use Rattle.sv_core.specs.Core.{PlainCore}
use Rattle.sv_events.specs.Answer.{plain_answer}
use Rattle.session_rules.specs.Shelf.{Exchange}
use Rattle.party_turns.specs.Entering.{Brings, IsReady}
use Rattle.party_turns.specs.declared.intent.Intent.{Intent}
use Rattle.aplsv_serve.proofs.part.take_part.Goals as goal

pub enter-requires-clause-ready : goal.enter-requires-clause-ready
enter-requires-clause-ready g c =
    let s = c.args.user.now.session in
    subst (λ (k : PlainCore). (exchanges : List Exchange) × IsReady k.journal exchanges c.in-Some.intent s) (sym (c.deref_mut-in-Some.ensures.value ∙ c.core.view_is))
    (subst (λ (about : Option Intent). IfSome about (λ intent. (exchanges : List Exchange) × IsReady c.args.core.now.journal exchanges intent s)) c.in-Some.is c.requires.ready)

pub returns-in-Some-clause-brings : goal.returns-in-Some-clause-brings
returns-in-Some-clause-brings g c = λ here.
    let s = c.args.user.now.session in
    subst (λ (about : Option Intent). IfSome about (λ intent. (exchanges : List Exchange) → IsReady c.args.core.now.journal exchanges intent s → Brings c.args.core.now exchanges s intent c.enter.new.core (option_map plain_answer c.enter.result.answer)))
    (sym c.in-Some.is)
    (subst (λ (k : PlainCore). (exchanges : List Exchange) → IsReady k.journal exchanges c.in-Some.intent s → Brings k exchanges s c.in-Some.intent c.enter.new.core (option_map plain_answer c.enter.result.answer)) (c.deref_mut-in-Some.ensures.value ∙ c.core.view_is) (c.enter.ensures.brings here))
