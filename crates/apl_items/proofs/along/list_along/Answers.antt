use Rattle.std.proofs.Common.{◌≡◌, ◌<◌, ℕ, [], ap, ◌∙◌, arith}
use Rattle.apl_arrays.specs.Array.{element_count}
use Rattle.apl_items.specs.Along.{source_along}
use Rattle.apl_items.specs.Moves.{moved_list}
use Rattle.apl_items.specs.Shapes.{split_at}
use Rattle.apl_items.proofs.AlongLemmas.{few_lines}
use Rattle.apl_items.proofs.ShapeLemmas.{split_count_lem}
use Rattle.apl_items.proofs.along.list_along.Goals as goal

pub push_rows-requires-clause-room : goal.push_rows-requires-clause-room
push_rows-requires-clause-room g c =
    rw c.at.ensures (omega (arith, split_count_lem c.args.shape.now c.args.axis c.requires.axis, c.in_ok-made.ensures.len, c.in_ok-made.ensures.room, c.count_of_elements-count.ensures))

pub push_rows-requires-clause-lines : goal.push_rows-requires-clause-lines
push_rows-requires-clause-lines g c =
    let some : 0 < element_count c.args.shape.now = omega (arith, c.count_of_elements-count.ensures, c.if-count-eq0.false) in
    rw c.at.ensures (omega (arith, few_lines c.args.shape.now c.args.axis c.requires.fits some c.requires.axis))

pub returns : goal.returns
returns g c =
    let split = split_at c.args.shape.now c.args.axis in
    let source = source_along split (g.R.Along.length c.args.rule.now) (g.R.Along.from c.args.rule.now) in
    let none : c.in_ok-made.made.items ≡ [] = c.in_ok-made.ensures.none in
    c.from.ensures ∙ c.push_rows.ensures
    ∙ rw (none, c.at.ensures) (ap (λ (n : ℕ). moved_list c.args.fill c.args.list.now n source) (split_count_lem c.args.shape.now c.args.axis c.requires.axis))
