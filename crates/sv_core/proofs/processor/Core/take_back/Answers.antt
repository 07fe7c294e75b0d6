use Rattle.std.proofs.Common.{◌∙◌, ◌≡◌, ◌≤◌, Some, ap, arith, length, refl, subst, sym}
use Rattle.std.proofs.lemmas.Bool.{not-true}
use Rattle.sv_events.specs.Answer.{kept}
use Rattle.sv_events.specs.declared.row.Ending.TheVariants.{One}
use Rattle.sv_offer_laws.proofs.EndingLemmas.{retractions_reopen_one}
use Rattle.sv_offer_laws.proofs.OwnLemmas.{own_offer-parts}
use Rattle.sv_offers.specs.Table.{PlainOffers, after_ending}
use Rattle.sv_rules.specs.Coupling.{reopened_by_ending}
use Rattle.sv_rules.specs.Entries.{is_leave, next_place}
use Rattle.sv_rules.specs.Legal.{MayFollow, entry_for}
use Rattle.sv_rules.specs.Questions.{degree_of}
use Rattle.sv_rules.specs.Standing.{own_offer, standing}
use Rattle.sv_rules.specs.Story.{known}
use Rattle.sv_core.proofs.GoingLemmas.{end_core, may_end, retraction_answer}
use Rattle.sv_core.proofs.Kept.{entered, entry_is, on_success, present-le-length, present-stay, same_core}
use Rattle.sv_core.proofs.TogetherLemmas.{ending_pairs, tables}
use Rattle.sv_core.specs.Core.{PlainCore}
use Rattle.sv_core.specs.Invariant.{core_parts}
use Rattle.sv_core.proofs.processor.Core.take_back.Goals as goal

pub kept-requires : goal.kept-requires
kept-requires c = (own_offer-parts (standing c.args.self.now.journal) c.args.party c.args.local c.args.offer c.requires.own).2

pub invariant_of-self : goal.invariant_of-self
invariant_of-self c =
    same_core (core_parts c.self.inside) _ c.self.invariant c.room_for_pair.ensures.users c.room_for_pair.ensures.journal refl refl refl (λ at. refl) c.room_for_pair.ensures.kept

pub end_together-requires-clause-ready : goal.end_together-requires-clause-ready
end_together-requires-clause-ready c =
    let may = subst (λ (v : PlainCore). MayFollow v.users v.journal (entry_for v.journal c.args.party c.args.act)) (sym c.self.view_is) c.requires.may.may in
    let place = c.next_place-at.ensures ∙ ap next_place c.room_for_pair.ensures.journal in
    let ends = may_end c.self.inside.log.users c.self.inside.log.journal c.self.inside.offers c.self.inside.cells c.next_place-at.result c.args.party c.args.act (One c.args.local) c.self.invariant.legal c.self.invariant.stand c.self.invariant.couple c.self.invariant.fit may c.requires.row place in
    (c.self.inside.log.users, c.self.inside.log.journal, entry_for c.self.inside.log.journal c.args.party c.args.act, ends)

pub end_together-requires-clause-none : goal.end_together-requires-clause-none
end_together-requires-clause-none c = c.room_for_pair.ensures.none ∙ c.new-made.ensures

pub end_together-requires-clause-room : goal.end_together-requires-clause-room
end_together-requires-clause-room c =
    let k = c.self.invariant in
    let one = tables c.self.inside.offers c.self.inside.log.journal k.stand k.couple (λ os ms. length (reopened_by_ending os ms c.args.party (One c.args.local)) ≤ 1)
    (retractions_reopen_one c.self.inside.log.users c.self.inside.log.journal k.legal c.args.party c.args.local) in
    let pair = on_success c.room_for_pair.result _ c.if-is_err.ensures.negation c.room_for_pair.ensures.pair in
    omega (arith, one, pair)

pub invariant_of-self-2 : goal.invariant_of-self-2
invariant_of-self-2 c =
    let core = core_parts c.self.inside in
    let journal = core.journal in
    let e = entry_for journal c.args.party c.args.act in
    let may = subst (λ (v : PlainCore). MayFollow v.users v.journal (entry_for v.journal c.args.party c.args.act)) (sym c.self.view_is) c.requires.may.may in
    let own = subst (λ (v : PlainCore). own_offer (standing v.journal) c.args.party c.args.local ≡ Some c.args.offer) (sym c.self.view_is) c.requires.own in
    let place = c.next_place-at.ensures ∙ ap next_place c.room_for_pair.ensures.journal in
    let ends = may_end c.self.inside.log.users c.self.inside.log.journal c.self.inside.offers c.self.inside.cells c.next_place-at.result c.args.party c.args.act (One c.args.local) c.self.invariant.legal c.self.invariant.stand c.self.invariant.couple c.self.invariant.fit may c.requires.row place in
    let given = c.in-Ok.ensures.kept ∙ ap (λ (v : PlainCore). kept (degree_of v.journal (Some c.args.offer)) (known v.journal c.args.offer)) (sym c.self.view_is)
    ∙ retraction_answer journal c.args.party c.args.act c.args.local c.args.offer c.requires.row own in
    let pairs = c.end_together.ensures.made ∙ sym (ending_pairs c.self.inside.offers core.cells c.next_place-at.result c.args.party (One c.args.local) core.users journal e ends) in
    let more = entered c.self.inside.log c.room_for_pair.new.log c.enter.new.log _ e c.room_for_pair.ensures.users c.room_for_pair.ensures.journal
    (on_success c.room_for_pair.result _ c.if-is_err.ensures.negation c.room_for_pair.ensures.room) c.enter.ensures.users c.enter.ensures.journal c.enter.ensures.room (entry_is journal c.args.party c.args.act _ _ given pairs) in
    let stay = present-stay core.users journal e (not-true (is_leave c.args.act) c.requires.may.stays) in
    let some = present-le-length core.users journal in
    end_core core _ c.self.invariant c.args.party c.args.act (One c.args.local) may c.requires.row more.users more.journal
    (ap (λ (t : PlainOffers). let s : PlainOffers = record { offers = t.offers; coupled = t.coupled } in s) (c.end_together.ensures.table ∙ ap (λ n. after_ending n c.self.inside.offers c.args.party (One c.args.local)) place))
    (c.end_together.ensures.cells core.users journal e ends) (c.end_together.ensures.others core.users journal e ends c.self.invariant.no_other) (omega (arith, stay, some, more.room)) (omega (arith, stay, c.self.invariant.spare_count)) c.self.invariant.spare_room
