use Rattle.std.proofs.Common.{◌≡◌, ap, sym, ◌∙◌, subst, ◌+◌, ◌<◌, take, ◌++◌, ◌∷◌, [], length, get_or, List, arith}
use Rattle.std.proofs.Math.Seq.{take-length}
use Rattle.std.proofs.lemmas.List.{take_more}
use Rattle.sv_kept.specs.declared.cells.Cells.{Cells}
use Rattle.sv_rules.specs.declared.standing.Standing.{Standing}
use Rattle.sv_core.specs.Updating.{AddsNone, PartsAll}
use Rattle.sv_core.proofs.CellPlaces.{parts_add_none}
use Rattle.sv_core.proofs.EndingLemmas.{may_part, own_of, parts_begin, parts_more, parts_others, parts_own}
use Rattle.sv_core.proofs.updating.part_all.Goals.{Joined-is_ended, then-is_ended, else-is_ended}
use Rattle.sv_core.proofs.updating.part_all.Goals as goal

pub loop-offer-init : goal.loop-offer-init
loop-offer-init c = record {
  parts = parts_begin c.args.offers.now.offers c.args.offers.now.coupled c.args.party c.args.ending.now c.args.cells.now;
  no_more = λ at none. none;
}

pub part_coupled-requires : goal.part_coupled-requires
part_coupled-requires c =
    may_part c.args.offers.now.offers c.args.offers.now.coupled c.args.party c.args.ending.now (take c.loop-offer.offer-index (own_of c.args.party c.args.offers.now.offers)) c.args.cells.now c.loop-offer.cells
    c.requires.table c.requires.fit c.loop-offer.invariant.parts c.offer-item.result.place c.coupling.result (sym c.coupling.ensures)

-- the offers gone over, with this one
next : (c : Joined-is_ended) → take c.loop-offer.offer-index (own_of c.args.party c.args.offers.now.offers) ++ c.offer-item.result ∷ [] ≡ take (c.loop-offer.offer-index + 1) (own_of c.args.party c.args.offers.now.offers)
next c =
    let offers = own_of c.args.party c.args.offers.now.offers in
    let i = c.loop-offer.offer-index in
    let o = c.offer-item.result in
    let here : get_or offers i o ≡ o = ap (λ (xs : List Standing). get_or xs i o) (sym c.of-offer-items.ensures) ∙ sym c.offer-item.is in
    let within : i < length offers = omega (arith, c.loop-offer-test.true, ap length c.of-offer-items.ensures) in
    sym (take_more offers i o within ∙ ap (λ (x : Standing). take i offers ++ x ∷ []) here)

pub loop-offer-preserved : goal.loop-offer-preserved
loop-offer-preserved c =
    let offers = c.args.offers.now.offers in
    let coupled = c.args.offers.now.coupled in
    let gone = take c.loop-offer.offer-index (own_of c.args.party offers) in
    record {
      parts =
          subst (λ (xs : List Standing). PartsAll offers coupled c.args.party c.args.ending.now xs c.args.cells.now c.if-is_ended.cells) (next c)
          (elim c.if-is_ended.branch [
            | then-is_ended w ↦
                subst (λ (cs : Cells). PartsAll offers coupled c.args.party c.args.ending.now (gone ++ c.offer-item.result ∷ []) c.args.cells.now cs) (sym w.cells-is)
                (parts_more offers coupled c.args.party c.args.ending.now gone c.offer-item.result c.args.cells.now c.loop-offer.cells w.part_coupled.new.cells c.requires.table (sym c.is_ended.ensures ∙ w.if-is_ended.true)
                c.loop-offer.invariant.parts w.coupling.result (sym w.coupling.ensures) w.part_coupled.ensures)
            | else-is_ended w ↦
                subst (λ (cs : Cells). PartsAll offers coupled c.args.party c.args.ending.now (gone ++ c.offer-item.result ∷ []) c.args.cells.now cs) (sym w.cells-is)
                (parts_others offers coupled c.args.party c.args.ending.now gone c.offer-item.result c.args.cells.now c.loop-offer.cells (sym c.is_ended.ensures ∙ w.if-is_ended.false) c.loop-offer.invariant.parts)
          ]);
      no_more = elim c.if-is_ended.branch [
        | then-is_ended w ↦
            let may = may_part offers coupled c.args.party c.args.ending.now gone c.args.cells.now c.loop-offer.cells c.requires.table c.requires.fit c.loop-offer.invariant.parts c.offer-item.result.place w.coupling.result
            (sym w.coupling.ensures) in
            subst (λ (cs : Cells). AddsNone c.args.cells.now cs) (sym w.cells-is)
            (λ at none. parts_add_none c.loop-offer.cells w.part_coupled.new.cells w.coupling.result may w.part_coupled.ensures at (c.loop-offer.invariant.no_more at none))
        | else-is_ended w ↦ subst (λ (cs : Cells). AddsNone c.args.cells.now cs) (sym w.cells-is) c.loop-offer.invariant.no_more
      ];
    }

pub returns-clause-parts : goal.returns-clause-parts
returns-clause-parts c =
    let offers = c.args.offers.now.offers in
    let coupled = c.args.offers.now.coupled in
    let own = own_of c.args.party offers in
    let all : c.loop-offer.offer-index ≡ length own = omega (arith, c.loop-offer-test.false, c.loop-offer.auto.offer-index-end, ap length c.of-offer-items.ensures) in
    parts_own offers coupled c.args.party c.args.ending.now c.args.cells.now c.loop-offer.cells
    (subst (λ (xs : List Standing). PartsAll offers coupled c.args.party c.args.ending.now xs c.args.cells.now c.loop-offer.cells)
    (ap (λ n. take n own) all ∙ take-length own) c.loop-offer.invariant.parts)

pub returns-clause-no_more : goal.returns-clause-no_more
returns-clause-no_more c = c.loop-offer.invariant.no_more
