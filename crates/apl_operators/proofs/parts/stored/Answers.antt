use Rattle.std.proofs.Common.{◌+◌, ◌*◌, ℕ, Some, None, arith}
use Rattle.apl_items.specs.Shapes.{place_along}
use Rattle.apl_items.proofs.RowLemmas.{each_more}
use Rattle.apl_items.proofs.ShapeLemmas.{place_along_below}
use Rattle.apl_operators.specs.Parts.{AtParts}
use Rattle.apl_operators.proofs.PartLemmas.{at_parts}
use Rattle.apl_operators.proofs.parts.stored.Goals as goal
use Rattle.apl_operators.proofs.parts.stored.Given as given

pub push_reserved-requires : goal.push_reserved-requires
push_reserved-requires g c =
    let below = place_along_below c.args.split c.loop-outer.outer c.loop-along.along c.loop-inner.inner (omega arith) (omega arith) (omega arith) in
    omega (arith, below, c.requires.whole, c.loop-inner.invariant.whole, c.loop-inner.invariant.room)

pub returns-in-None-clause-none : goal.returns-in-None-clause-none
returns-in-None-clause-none g c = λ e. (
  place_along c.args.split c.loop-outer.outer c.loop-along.along c.loop-inner.inner,
  omega (arith, place_along_below c.args.split c.loop-outer.outer c.loop-along.along c.loop-inner.inner (omega arith) (omega arith) (omega arith), c.requires.whole),
  at_parts (given.F-post g c.args.rule.now) c.args.split c.loop-outer.outer c.loop-along.along c.loop-inner.inner None (omega arith) (omega arith) c.in-None.ensures,
)

pub loop-inner-preserved : goal.loop-inner-preserved
loop-inner-preserved g c =
    let place : ℕ = place_along c.args.split c.loop-outer.outer c.loop-along.along c.loop-inner.inner in record {
      whole = omega (arith, c.push_reserved.ensures.len, c.loop-inner.invariant.whole);
      room = omega (arith, c.push_reserved.ensures.capacity, c.loop-inner.invariant.room);
      each = each_more (AtParts (given.F-post g c.args.rule.now) c.args.split) place ((c.loop-outer.outer * c.args.split.along + c.loop-along.along) * c.args.split.inner + (c.loop-inner.inner + 1)) c.loop-inner.items.items c.push_reserved.new.self.items c.in-Some.item
          (omega (arith, c.loop-inner.invariant.whole, c.loop-inner.items.ok)) (omega arith) c.push_reserved.ensures.items c.loop-inner.invariant.each
          (at_parts (given.F-post g c.args.rule.now) c.args.split c.loop-outer.outer c.loop-along.along c.loop-inner.inner (Some c.in-Some.item) (omega arith) (omega arith) c.in-Some.ensures);
    }
