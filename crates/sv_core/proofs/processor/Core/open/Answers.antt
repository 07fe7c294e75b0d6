use Rattle.std.proofs.Common.{◌++◌, ◌<◌, ◌∙◌, Option, ap, refl, subst, sym}
use Rattle.std.proofs.lemmas.Bool.{not-true}
use Rattle.std.specs.Prelude.{option_map, option_to_list}
use Rattle.sv_offers.specs.Table.{PlainOffers}
use Rattle.sv_rules.specs.Coupling.{pair_of}
use Rattle.sv_rules.specs.Entries.{is_leave, next_place}
use Rattle.sv_rules.specs.Legal.{MayFollow, entry_for}
use Rattle.sv_rules.specs.Standing.{offer_count, own_offer, standing}
use Rattle.sv_rules.specs.Story.{handed_in}
use Rattle.sv_rules.specs.declared.coupling.Made.{Made}
use Rattle.sv_rules.specs.declared.standing.Standing.{Standing}
use Rattle.sv_core.proofs.Kept.{entered, same_core}
use Rattle.sv_core.proofs.OpeningLemmas.{may_join, open_core, opening_entry, opens_in}
use Rattle.sv_core.proofs.TogetherLemmas.{next_above}
use Rattle.sv_core.specs.Core.{PlainCore}
use Rattle.sv_core.specs.Invariant.{core_parts}
use Rattle.sv_core.proofs.processor.Core.open.Goals as goal

pub add_offer-added-requires-clause-next : goal.add_offer-added-requires-clause-next
add_offer-added-requires-clause-next c =
    let place = c.requires.place ∙ sym (ap (λ (v : PlainCore). next_place v.journal) c.self.view_is) in
    next_above c.self.inside.log.users c.self.inside.log.journal c.self.invariant.legal c.self.inside.offers c.self.invariant.stand c.self.invariant.couple c.args.new.now.place place

pub invariant_of-self : goal.invariant_of-self
invariant_of-self c =
    let table = c.in-Err.ensures.err in
    same_core (core_parts c.self.inside) _ c.self.invariant c.add_offer-added.ensures.users c.add_offer-added.ensures.journal (ap (λ (t : PlainOffers). t.offers) table) (ap (λ (t : PlainOffers). t.coupled) table) refl
    c.in-Err.ensures.kept c.add_offer-added.ensures.entries

pub join-degree-requires-clause-ready : goal.join-degree-requires-clause-ready
join-degree-requires-clause-ready c =
    let place = c.requires.place ∙ sym (ap (λ (v : PlainCore). next_place v.journal) c.self.view_is) in
    let fresh = ap (λ (v : PlainCore). own_offer (standing v.journal) c.args.new.now.party c.args.new.now.local) c.self.view_is ∙ c.requires.fresh in
    let few = subst (λ (v : PlainCore). offer_count (standing v.journal) c.args.new.now.party < 64) (sym c.self.view_is) c.requires.few in
    let put = c.in-Ok.ensures.cell in
    let opens = opens_in (core_parts c.self.inside) c.self.invariant c.args.act c.args.new.now c.requires.row place fresh few c.in-Ok.other c.in-Ok.ensures.other in
    may_join c.self.inside.log.journal (entry_for c.self.inside.log.journal c.args.new.now.party c.args.act) c.args.new.now c.in-Ok.other c.self.inside.cells c.add_offer-added.new.cells (handed_in c.args.act) c.self.invariant.fit opens put

pub invariant_of-self-in-Ok : goal.invariant_of-self-in-Ok
invariant_of-self-in-Ok c =
    let core = core_parts c.self.inside in
    let may = subst (λ (v : PlainCore). MayFollow v.users v.journal (entry_for v.journal c.args.new.now.party c.args.act)) (sym c.self.view_is) c.requires.may.may in
    let place = c.requires.place ∙ sym (ap (λ (v : PlainCore). next_place v.journal) c.self.view_is) in
    let fresh = ap (λ (v : PlainCore). own_offer (standing v.journal) c.args.new.now.party c.args.new.now.local) c.self.view_is ∙ c.requires.fresh in
    let few = subst (λ (v : PlainCore). offer_count (standing v.journal) c.args.new.now.party < 64) (sym c.self.view_is) c.requires.few in
    let put = c.in-Ok.ensures.cell in
    let opens = opens_in (core_parts c.self.inside) c.self.invariant c.args.act c.args.new.now c.requires.row place fresh few c.in-Ok.other c.in-Ok.ensures.other in
    let table = c.in-Ok.ensures.table in
    let room = c.in-Ok.ensures.room in
    let entry = opening_entry core c.self.invariant c.args.act c.args.new.now c.requires.row place fresh few c.in-Ok.other c.in-Ok.ensures.other c.join-degree.result c.join-degree.new.made.items c.join-degree.ensures.degree c.join-degree.ensures.made in
    let more = entered c.self.inside.log c.add_offer-added.new.log c.enter.new.log _ (entry_for core.journal c.args.new.now.party c.args.act) c.add_offer-added.ensures.users c.add_offer-added.ensures.journal room
    c.enter.ensures.users c.enter.ensures.journal c.enter.ensures.room entry in
    open_core core _ c.self.invariant c.args.act c.args.new.now c.in-Ok.other may (not-true (is_leave c.args.act) c.requires.may.stays) opens more.users more.journal
    (ap (λ (t : PlainOffers). t.offers) table)
    (ap (λ (t : PlainOffers). t.coupled) table
    ∙ ap (λ (o : Option Standing). c.self.inside.offers.coupled ++ option_to_list (option_map (λ (other : Standing). let made : Made = record { pair = pair_of other c.args.new.now; at = c.args.new.now.place } in made) o)) (sym c.in-Ok.ensures.other))
    refl c.add_offer-added.new.cells put c.join-degree.ensures.cells more.room
