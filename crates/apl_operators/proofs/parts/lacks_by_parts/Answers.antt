use Rattle.std.proofs.Common.{◌+◌, ◌*◌, ℕ, arith}
use Rattle.apl_items.specs.Shapes.{place_along}
use Rattle.apl_items.proofs.RowLemmas.{gives_more, is_no_item}
use Rattle.apl_items.proofs.ShapeLemmas.{place_along_below}
use Rattle.apl_operators.specs.Parts.{AtParts}
use Rattle.apl_operators.proofs.PartLemmas.{at_parts}
use Rattle.apl_operators.proofs.parts.lacks_by_parts.Goals as goal
use Rattle.apl_operators.proofs.parts.lacks_by_parts.Given as given

pub returns-then-is_none-clause-some : goal.returns-then-is_none-clause-some
returns-then-is_none-clause-some g c = λ e.
    let place : ℕ = place_along c.args.split c.loop-outer.outer c.loop-along.along c.loop-inner.inner in (
      place,
      omega (arith, place_along_below c.args.split c.loop-outer.outer c.loop-along.along c.loop-inner.inner (omega arith) (omega arith) (omega arith), c.requires.whole),
      is_no_item (AtParts (given.F-post g c.args.rule.now) c.args.split) place c.rule.result c.if-is_none.ensures
          (at_parts (given.F-post g c.args.rule.now) c.args.split c.loop-outer.outer c.loop-along.along c.loop-inner.inner c.rule.result (omega arith) (omega arith) c.rule.ensures),
    )

pub loop-inner-preserved : goal.loop-inner-preserved
loop-inner-preserved g c =
    let place : ℕ = place_along c.args.split c.loop-outer.outer c.loop-along.along c.loop-inner.inner in
    gives_more (AtParts (given.F-post g c.args.rule.now) c.args.split) place ((c.loop-outer.outer * c.args.split.along + c.loop-along.along) * c.args.split.inner + (c.loop-inner.inner + 1)) c.rule.result (omega arith) c.if-is_none.ensures c.loop-inner.invariant
    (at_parts (given.F-post g c.args.rule.now) c.args.split c.loop-outer.outer c.loop-along.along c.loop-inner.inner c.rule.result (omega arith) (omega arith) c.rule.ensures)
