use Rattle.std.proofs.Common.{sym, ◌∙◌, Bool, false, arith}
use Rattle.std.specs.Option.{option_map_or}
use Rattle.sv_rules.specs.Coupling.{coupling_at}
use Rattle.sv_rules.specs.Journal.{journal_of}
use Rattle.sv_rules.specs.Work.{has_unseen}
use Rattle.sv_rules.specs.declared.standing.Standing.{Standing}
use Rattle.sv_plain.proofs.WorkLemmas.{found_here, none_more}
use Rattle.sv_plain.proofs.working.first_unseen.Goals as goal

pub returns-then-branch : goal.returns-then-branch
returns-then-branch c =
    let unseen : Standing → Bool = λ (offer : Standing). option_map_or (has_unseen (journal_of c.args.entries.now) offer) (coupling_at c.args.offers.now c.args.coupled.now offer.place) false in
    sym (found_here unseen c.args.own.now c.loop-offer.offer-index c.offer-item.result (omega arith) c.offer-item.is c.loop-offer.invariant (sym c.in_ok-unseen_at.ensures ∙ c.if-branch.true))

pub loop-offer-preserved : goal.loop-offer-preserved
loop-offer-preserved c =
    let unseen : Standing → Bool = λ (offer : Standing). option_map_or (has_unseen (journal_of c.args.entries.now) offer) (coupling_at c.args.offers.now c.args.coupled.now offer.place) false in
    none_more unseen c.args.own.now c.loop-offer.offer-index c.offer-item.result (omega arith) c.offer-item.is c.loop-offer.invariant (sym c.in_ok-unseen_at.ensures ∙ c.if-branch.false)
