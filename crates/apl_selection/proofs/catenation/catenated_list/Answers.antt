use Rattle.std.proofs.Common.{◌≡◌, ◌++◌, ℕ, Option, Some, [], length, ap, ◌∙◌, arith}
use Rattle.apl_items.specs.Moves.{moved_list}
use Rattle.apl_items.specs.Shapes.{split_at}
use Rattle.apl_items.proofs.ShapeLemmas.{split_count_lem}
use Rattle.apl_selection.specs.Catenation.{catenated_place}
use Rattle.apl_selection.proofs.catenation.catenated_list.Goals as goal

pub push_rows-requires-clause-room : goal.push_rows-requires-clause-room
push_rows-requires-clause-room g c =
    rw c.at.ensures (omega (arith, split_count_lem c.args.shape.now c.args.axis c.requires.axis, c.in_ok-made.ensures.len, c.in_ok-made.ensures.room, c.count_of_elements-count.ensures))

pub push_rows-requires-clause-small : goal.push_rows-requires-clause-small
push_rows-requires-clause-small g c = rw c.at.ensures (omega (arith, split_count_lem c.args.shape.now c.args.axis c.requires.axis, c.requires.fits.elements))

pub push_rows-requires-clause-long : goal.push_rows-requires-clause-long
push_rows-requires-clause-long g c = rw c.at.ensures c.requires.long

pub push_rows-requires-clause-a_reaches : goal.push_rows-requires-clause-a_reaches
push_rows-requires-clause-a_reaches g c = rw c.at.ensures c.requires.a_reaches

pub push_rows-requires-clause-b_reaches : goal.push_rows-requires-clause-b_reaches
push_rows-requires-clause-b_reaches g c = rw c.at.ensures c.requires.b_reaches

pub returns : goal.returns
returns g c =
    let split = split_at c.args.shape.now c.args.axis in
    let both = c.args.a.now ++ c.args.b.now in
    let source : ℕ → Option ℕ = λ place. Some (catenated_place split (length c.args.a.now) (length c.args.b.now) c.args.spans.0 c.args.spans.1 place) in
    let none : c.in_ok-made.made.items ≡ [] = c.in_ok-made.ensures.none in
    c.from.ensures ∙ c.push_rows.ensures
    ∙ rw (none, c.at.ensures) (ap (λ (n : ℕ). moved_list c.args.fill both n source) (split_count_lem c.args.shape.now c.args.axis c.requires.axis))
