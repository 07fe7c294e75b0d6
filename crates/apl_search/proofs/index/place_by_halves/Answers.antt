use Rattle.std.proofs.Common.{◌≡◌, true, sym, ap, ◌∙◌, arith}
use Rattle.std.proofs.lemmas.List.{get_or_default}
use Rattle.apl_search.proofs.IndexLemmas.{first_place, nowhere, stands_inside}
use Rattle.apl_search.proofs.index.place_by_halves.Goals as goal
use Rattle.apl_search.proofs.index.place_by_halves.Goals.{else-at-pairs-via-then-at-pairs+else-eq, else-at-pairs-via-else-at-pairs}

pub returns-then-eq-clause-value : goal.returns-then-eq-clause-value
returns-then-eq-clause-value g c =
    let pair = c.index-pairs-at.result in
    let at = c.first_not_less-at.result in
    let same : g.T.PartialEq.eq c.args.item.now pair.0 ≡ true = ap (λ p. g.T.PartialEq.eq c.args.item.now p.0) c.index-pairs-at.is ∙ sym c.eq.ensures ∙ c.if-eq.true in
    ap (λ p. p.1) (get_or_default c.args.pairs.now at c.index-pairs-at-then-eq.result pair c.if-at-pairs.true ∙ sym c.index-pairs-at.is)
    ∙ sym (first_place g.T.Ord.cmp g.T.PartialEq.eq g.met.T.Ord.total g.met.T.Ord.matches_eq c.args.list.now c.args.pairs.now c.args.item.now at c.requires c.first_not_less-at.ensures.point c.if-at-pairs.true pair c.index-pairs-at.is same)

pub returns-then-eq-clause-inside : goal.returns-then-eq-clause-inside
returns-then-eq-clause-inside g c =
    let inside = stands_inside g.T.Ord.cmp c.args.list.now c.args.pairs.now c.requires c.first_not_less-at.result c.index-pairs-at-then-eq.result c.if-at-pairs.true in
    omega arith

pub returns-else-at-pairs-clause-value : goal.returns-else-at-pairs-clause-value
returns-else-at-pairs-clause-value g c =
    sym (nowhere g.T.Ord.cmp g.T.PartialEq.eq g.met.T.Ord.total g.met.T.Ord.matches_eq c.args.list.now c.args.pairs.now c.args.item.now c.first_not_less-at.result c.requires c.first_not_less-at.ensures.point
    (λ within d. elim c.else-at-pairs.branch [
      | else-at-pairs-via-then-at-pairs+else-eq w ↦
          ap (λ p. g.T.PartialEq.eq c.args.item.now p.0) (get_or_default c.args.pairs.now c.first_not_less-at.result d w.index-pairs-at.result within) ∙ sym w.eq.ensures ∙ w.if-eq.false
      | else-at-pairs-via-else-at-pairs w ↦ absurd (let past = w.if-at-pairs.false in omega arith)
    ]))
