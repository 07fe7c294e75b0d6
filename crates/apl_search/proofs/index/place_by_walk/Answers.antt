use Rattle.std.proofs.Common.{◌≡◌, true, length, get_or, sym, ap, ◌∙◌, arith}
use Rattle.std.proofs.lemmas.List.Sums.{position_or_len_is}
use Rattle.apl_search.proofs.index.place_by_walk.Goals as goal

pub returns-then-eq-clause-value : goal.returns-then-eq-clause-value
returns-then-eq-clause-value g c =
    let eq = g.T.PartialEq.eq c.args.item.now in
    let here : eq (get_or c.args.list.now c.loop-place.place c.index-list-place.result) ≡ true = ap eq (sym c.index-list-place.is) ∙ sym c.eq.ensures ∙ c.if-eq.true in
    sym (position_or_len_is eq c.args.list.now c.loop-place.place c.index-list-place.result (omega arith) (λ k below. c.loop-place.invariant k c.index-list-place.result below) (λ _. here))

pub returns-clause-value : goal.returns-clause-value
returns-clause-value g c =
    sym (position_or_len_is (g.T.PartialEq.eq c.args.item.now) c.args.list.now (length c.args.list.now) c.args.item.now (omega arith) (λ k below. c.loop-place.invariant k c.args.item.now (omega arith)) (λ h. absurd (omega arith)))
