use Rattle.std.proofs.Common.{◌∙◌, ◌∷◌, ◌≡◌, ◌≤◌, ap, arith, length, not, refl, subst, sym, true}
use Rattle.sv_events.specs.Entry.{PlainEntry}
use Rattle.sv_events.specs.declared.event.Act.TheVariants.{Leave}
use Rattle.sv_offer_laws.proofs.EndingLemmas.{leaves_reopen_few}
use Rattle.sv_offers.specs.Table.{PlainOffers, after_ending}
use Rattle.sv_rules.specs.Coupling.{reopened_by_ending}
use Rattle.sv_rules.specs.Entries.{has_left}
use Rattle.sv_rules.specs.Legal.{entry_for, is_user}
use Rattle.sv_core.proofs.GoingLemmas.{end_core, leave_ends, leave_entry, leave_falls, leave_may}
use Rattle.sv_core.proofs.Kept.{core_is}
use Rattle.sv_core.proofs.TogetherLemmas.{tables}
use Rattle.sv_core.specs.Core.{PlainCore}
use Rattle.sv_core.specs.Invariant.{core_parts}
use Rattle.sv_events.specs.declared.row.Ending.TheVariants as how
use Rattle.sv_core.proofs.processor.Core.leave.Goals as goal

pub take_spare-made-requires-clause-some : goal.take_spare-made-requires-clause-some
take_spare-made-requires-clause-some c =
    let member = subst (λ (v : PlainCore). is_user v.users c.args.user ≡ true) (sym c.self.view_is) c.requires.member in
    let here = subst (λ (v : PlainCore). not (has_left v.journal c.args.user) ≡ true) (sym c.self.view_is) c.requires.present in
    omega (arith, leave_falls (core_parts c.self.inside) c.args.user member here, c.self.invariant.spare_count, c.self.inside.spares.ok.0)

pub end_together-requires-clause-ready : goal.end_together-requires-clause-ready
end_together-requires-clause-ready c =
    let member = subst (λ (v : PlainCore). is_user v.users c.args.user ≡ true) (sym c.self.view_is) c.requires.member in
    let here = subst (λ (v : PlainCore). not (has_left v.journal c.args.user) ≡ true) (sym c.self.view_is) c.requires.present in (
      c.self.inside.log.users,
      c.self.inside.log.journal,
      entry_for c.self.inside.log.journal c.args.user Leave,
      leave_ends (core_parts c.self.inside) c.self.invariant c.self.inside.offers c.next_place-at.result c.args.user refl refl c.next_place-at.ensures member here,
    )

pub end_together-requires-clause-room : goal.end_together-requires-clause-room
end_together-requires-clause-room c =
    let k = c.self.invariant in
    let few = tables c.self.inside.offers c.self.inside.log.journal k.stand k.couple (λ os ms. length (reopened_by_ending os ms c.args.user how.All) ≤ 64) (leaves_reopen_few c.self.inside.log.users c.self.inside.log.journal k.legal c.args.user) in
    omega (arith, few, c.take_spare-made.ensures.spare.enough)

pub push-requires : goal.push-requires
push-requires c =
    let member = subst (λ (v : PlainCore). is_user v.users c.args.user ≡ true) (sym c.self.view_is) c.requires.member in
    let here = subst (λ (v : PlainCore). not (has_left v.journal c.args.user) ≡ true) (sym c.self.view_is) c.requires.present in
    omega (arith, leave_falls (core_parts c.self.inside) c.args.user member here, c.self.invariant.entries_room)

pub invariant_of-self : goal.invariant_of-self
invariant_of-self c =
    let inside = c.self.inside in
    let core = core_parts inside in
    let member = subst (λ (v : PlainCore). is_user v.users c.args.user ≡ true) (sym c.self.view_is) c.requires.member in
    let here = subst (λ (v : PlainCore). not (has_left v.journal c.args.user) ≡ true) (sym c.self.view_is) c.requires.present in
    let falls = leave_falls core c.args.user member here in
    let ends = leave_ends core c.self.invariant inside.offers c.next_place-at.result c.args.user refl refl c.next_place-at.ensures member here in
    let entry = leave_entry core inside.offers c.next_place-at.result c.args.user ends c.end_together.new.made.items c.end_together.ensures.made in
    end_core core _ c.self.invariant c.args.user Leave how.All (leave_may core c.self.invariant c.args.user member here) refl c.push.ensures.users (c.push.ensures.journal ∙ ap (λ (x : PlainEntry). x ∷ inside.log.journal) entry)
    (ap (λ (t : PlainOffers). let s : PlainOffers = record { offers = t.offers; coupled = t.coupled } in s) (c.end_together.ensures.table ∙ ap (λ n. after_ending n inside.offers c.args.user how.All) c.next_place-at.ensures))
    (c.end_together.ensures.cells core.users core.journal (entry_for core.journal c.args.user Leave) ends)
    (c.end_together.ensures.others core.users core.journal (entry_for core.journal c.args.user Leave) ends c.self.invariant.no_other)
    (omega (arith, falls, c.self.invariant.entries_room, c.push.ensures.room)) (omega (arith, falls, c.self.invariant.spare_count, c.take_spare-made.ensures.count)) c.take_spare-made.ensures.rest

pub returns : goal.returns
returns c =
    let inside = c.self.inside in
    let core = core_parts inside in
    let member = subst (λ (v : PlainCore). is_user v.users c.args.user ≡ true) (sym c.self.view_is) c.requires.member in
    let here = subst (λ (v : PlainCore). not (has_left v.journal c.args.user) ≡ true) (sym c.self.view_is) c.requires.present in
    let ends = leave_ends core c.self.invariant inside.offers c.next_place-at.result c.args.user refl refl c.next_place-at.ensures member here in
    let entry = leave_entry core inside.offers c.next_place-at.result c.args.user ends c.end_together.new.made.items c.end_together.ensures.made in
    core_is c.args.self.now inside.log c.push.new.self c.args.user Leave c.self.view_is c.push.ensures.users (c.push.ensures.journal ∙ ap (λ (x : PlainEntry). x ∷ inside.log.journal) entry)
