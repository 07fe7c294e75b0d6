use Rattle.std.proofs.Common.{◌*◌, ◌≤◌, ℕ, subst, sym, ap, ◌∙◌}
use Rattle.std.proofs.Math.Nat.{mul_comm}
use Rattle.apl_arrays.specs.Array.{item_count, plain_items, seen_items}
use Rattle.apl_structure.proofs.MatrixLemmas.{matrix_count, matrix_is}
use Rattle.apl_structure.proofs.OppositeLemmas.{count_transposed, fits_transposed}
use Rattle.apl_selection.proofs.MoveLemmas.{count_of_made, made_is}
use Rattle.apl_structure.specs.Transposition.{turned_place}
use Rattle.apl_structure.proofs.transposition.turned_matrix.Goals as goal

pub turned_items-requires-clause-whole : goal.turned_items-requires-clause-whole
turned_items-requires-clause-whole c =
    let b = c.args.b.now in
    let shape = c.args.shape.now in
    let count = matrix_count b shape c.length_of-rows.result c.length_of-columns.result c.requires.shape c.requires.matrix c.length_of-columns.ensures c.length_of-rows.ensures in
    ap item_count c.items.ensures.value ∙ sym (count_transposed b shape c.items.ensures.array c.requires.shape) ∙ count ∙ mul_comm c.length_of-columns.result c.length_of-rows.result

pub turned_items-requires-clause-small : goal.turned_items-requires-clause-small
turned_items-requires-clause-small c =
    let b = c.args.b.now in
    let shape = c.args.shape.now in
    let count = matrix_count b shape c.length_of-rows.result c.length_of-columns.result c.requires.shape c.requires.matrix c.length_of-columns.ensures c.length_of-rows.ensures in
    subst (λ (n : ℕ). n ≤ 16384) (count ∙ mul_comm c.length_of-columns.result c.length_of-rows.result) (fits_transposed b shape c.items.ensures.array c.requires.shape).elements

pub shaped-requires-clause-fits : goal.shaped-requires-clause-fits
shaped-requires-clause-fits c = fits_transposed c.args.b.now c.args.shape.now c.items.ensures.array c.requires.shape

pub shaped-requires-clause-whole : goal.shaped-requires-clause-whole
shaped-requires-clause-whole c =
    let b = c.args.b.now in
    let shape = c.args.shape.now in
    matrix_count b shape c.length_of-rows.result c.length_of-columns.result c.requires.shape c.requires.matrix c.length_of-columns.ensures c.length_of-rows.ensures
    ∙ count_of_made (plain_items c.in_ok-items.items) (seen_items c.items.result) (c.length_of-columns.result * c.length_of-rows.result) (turned_place c.length_of-rows.result c.length_of-columns.result) c.in_ok-items.ensures

pub returns : goal.returns
returns c =
    made_is c.shaped.result _ _
    (matrix_is c.args.b.now c.args.shape.now (seen_items c.items.result) (plain_items c.in_ok-items.items) c.length_of-rows.result c.length_of-columns.result
    c.requires.shape c.items.ensures.value c.requires.matrix c.length_of-columns.ensures c.length_of-rows.ensures c.in_ok-items.ensures)
    c.shaped.ensures.array
