use Rattle.std.proofs.Common.{List, [], sym, subst, refl}
use Rattle.apl_session.specs.PlainSession.{HasCome}
use Rattle.apl_session.specs.Receipts.{PlainReceipt}
use Rattle.apl_session.specs.Standing.{IsAlive}
use Rattle.apl_session.specs.declared.session.SessionStage.TheVariants as stage
use Rattle.apl_session.proofs.Around.{seen}
use Rattle.apl_session.proofs.Inside.{begun_session}
use Rattle.apl_session.proofs.session.Session.new.Goals as goal

pub invariant_of-result : goal.invariant_of-result
invariant_of-result g c =
    let begun = begun_session c.args.lines.items c.new-2.result c.new-2.ensures.terminal c.new-2.ensures.read c.new-2.ensures.under_way in
    λ alive. subst (λ (receipts : List PlainReceipt). IsAlive c.args.lines.items receipts c.new-2.result stage.Ready) (sym c.new.ensures) (record { exchanges = []; come = begun })

pub returns-clause-come : goal.returns-clause-come
returns-clause-come g c =
    let begun = begun_session c.args.lines.items c.new-2.result c.new-2.ensures.terminal c.new-2.ensures.read c.new-2.ensures.under_way in
    subst (λ (receipts : List PlainReceipt). HasCome g.K.Shelf.told g.K.Shelf.faults c.args.shelf [] (seen c.args.user c.args.lines.items receipts stage.Ready c.args.shelf c.new-2.result)) (sym c.new.ensures)
    (record { served = refl; acts = begun.acts; stands = begun.stands })
