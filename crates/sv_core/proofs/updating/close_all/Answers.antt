use Rattle.std.proofs.Common.{◌≡◌, ap, sym, ◌∙◌, subst, ◌+◌, take, ◌++◌, ◌∷◌, [], length, List, arith}
use Rattle.std.proofs.Math.Seq.{take-length}
use Rattle.std.proofs.lemmas.List.{take_more}
use Rattle.sv_kept.specs.declared.cells.Cells.{Cells}
use Rattle.sv_rules.specs.declared.standing.Standing.{Standing}
use Rattle.sv_core.specs.Updating.{Closes}
use Rattle.sv_core.proofs.EndingLemmas.{closes_more, closes_others}
use Rattle.sv_core.proofs.updating.close_all.Goals.{Joined-is_ended, then-is_ended, else-is_ended}
use Rattle.sv_core.proofs.updating.close_all.Goals as goal

-- the offers gone over, with this one
next : (c : Joined-is_ended) → take c.loop-offer.offer-index c.args.offers.now ++ c.offer-item.result ∷ [] ≡ take (c.loop-offer.offer-index + 1) c.args.offers.now
next c =
    let offers = c.args.offers.now in
    let i = c.loop-offer.offer-index in
    let o = c.offer-item.result in
    sym (take_more offers i o c.loop-offer-test.true ∙ ap (λ (x : Standing). take i offers ++ x ∷ []) (sym c.offer-item.is))

pub loop-offer-preserved : goal.loop-offer-preserved
loop-offer-preserved c =
    let gone = take c.loop-offer.offer-index c.args.offers.now in
    subst (λ (xs : List Standing). Closes xs c.args.party c.args.ending.now c.args.cells.now c.if-is_ended.cells) (next c)
    (elim c.if-is_ended.branch [
      | then-is_ended w ↦
          subst (λ (cs : Cells). Closes (gone ++ c.offer-item.result ∷ []) c.args.party c.args.ending.now c.args.cells.now cs) (sym w.cells-is)
          (closes_more gone c.args.party c.args.ending.now c.offer-item.result c.args.cells.now c.loop-offer.cells w.close.new.self (sym c.is_ended.ensures ∙ w.if-is_ended.true) c.loop-offer.invariant w.close.ensures)
      | else-is_ended w ↦
          subst (λ (cs : Cells). Closes (gone ++ c.offer-item.result ∷ []) c.args.party c.args.ending.now c.args.cells.now cs) (sym w.cells-is)
          (closes_others gone c.args.party c.args.ending.now c.offer-item.result c.args.cells.now c.loop-offer.cells (sym c.is_ended.ensures ∙ w.if-is_ended.false) c.loop-offer.invariant)
    ])

pub returns : goal.returns
returns c =
    let offers = c.args.offers.now in
    let all : c.loop-offer.offer-index ≡ length offers = omega (arith, c.loop-offer-test.false, c.loop-offer.auto.offer-index-end) in
    subst (λ (xs : List Standing). Closes xs c.args.party c.args.ending.now c.args.cells.now c.loop-offer.cells) (ap (λ n. take n offers) all ∙ take-length offers) c.loop-offer.invariant
