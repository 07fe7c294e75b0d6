use Rattle.std.proofs.Common.{◌≡◌, ◌*◌, ◌<◌, ◌∙◌, List, ℕ, ℤ, length, rules, sym, ap, arith}
use Rattle.std.proofs.lemmas.Result.{err_from_is_err_and}
use Rattle.apl_arrays.specs.declared.report.Fail.TheVariants as fail
use Rattle.apl_arrays.specs.Array.{PlainArray, element_count, item_count, numbers, seen_items}
use Rattle.apl_items.specs.declared.shapes.Split.{Split}
use Rattle.apl_items.specs.Shapes.{split_at, split_count}
use Rattle.apl_items.proofs.ShapeLemmas.{split_count_lem}
use Rattle.apl_operators.proofs.LineLemmas.{lines_made, lines_without, no_lines, no_lines_made, no_lines_there}
use Rattle.operator_rules.specs.Reduce.{reduced}
use Rattle.apl_operators.proofs.NumberLemmas.{out_of_memory}
use Rattle.apl_operators.proofs.reducing.reduced_lines.Goals as goal

pub shaped-requires-clause-whole : goal.shaped-requires-clause-whole
shaped-requires-clause-whole c =
    let zero : item_count (seen_items c.items.result) ≡ 0 = first_of (search rules, grind (arith, c.if-is_empty.ensures)) in
    let none : element_count c.args.b.now.shape ≡ 0 = c.items.ensures.array.whole ∙ ap item_count (sym c.items.ensures.value) ∙ zero in
    ap element_count c.requires.shape ∙ no_lines c.args.axis c.args.b.now.shape c.requires.axis c.requires.some none ∙ sym (ap (λ (xs : List ℤ). length xs) (c.from.ensures ∙ c.new.ensures))

pub returns-in_err-shaped : goal.returns-in_err-shaped
returns-in_err-shaped c =
    let zero : item_count (seen_items c.items.result) ≡ 0 = first_of (search rules, grind (arith, c.if-is_empty.ensures)) in
    let none : element_count c.args.b.now.shape ≡ 0 = c.items.ensures.array.whole ∙ ap item_count (sym c.items.ensures.value) ∙ zero in
    let p = err_from_is_err_and c.from_residual.result c.from_residual.ensures.1 in
    let same : p.0 ≡ fail.WantOfMemory = cc p.2 in
    out_of_memory c.from_residual.result p.0 (reduced c.args.f c.args.b.now c.args.axis) p.1 same
    (no_lines_there c.args.f c.args.b.now c.args.axis c.args.shape.now c.requires.shape c.requires.fits
    (ap element_count c.requires.shape ∙ no_lines c.args.axis c.args.b.now.shape c.requires.axis c.requires.some none))

pub returns-then-is_empty : goal.returns-then-is_empty
returns-then-is_empty c =
    let zero : item_count (seen_items c.items.result) ≡ 0 = first_of (search rules, grind (arith, c.if-is_empty.ensures)) in
    let none : element_count c.args.b.now.shape ≡ 0 = c.items.ensures.array.whole ∙ ap item_count (sym c.items.ensures.value) ∙ zero in
    let array : List ℤ → PlainArray = λ xs. record { shape = c.args.shape.now; items = numbers xs } in
    no_lines_made c.args.f c.args.b.now c.in_ok-shaped.field-0 c.args.axis c.args.shape.now c.requires.shape c.requires.fits
    (ap element_count c.requires.shape ∙ no_lines c.args.axis c.args.b.now.shape c.requires.axis c.requires.some none) (c.in_ok-shaped.ensures.array ∙ ap array (c.from.ensures ∙ c.new.ensures))

pub lines_of_items-requires-clause-whole : goal.lines_of_items-requires-clause-whole
lines_of_items-requires-clause-whole c =
    let split : c.at-split.result ≡ split_at c.args.b.now.shape c.args.axis = c.at-split.ensures ∙ ap (λ (s : List ℕ). split_at s c.args.axis) c.shape.ensures.value in
    ap split_count split ∙ split_count_lem c.args.b.now.shape c.args.axis c.requires.axis ∙ c.shape.ensures.array.whole ∙ ap item_count (sym c.items-2.ensures.value)

pub lines_of_items-requires-clause-lines : goal.lines_of_items-requires-clause-lines
lines_of_items-requires-clause-lines c =
    let split : c.at-split.result ≡ split_at c.args.b.now.shape c.args.axis = c.at-split.ensures ∙ ap (λ (s : List ℕ). split_at s c.args.axis) c.shape.ensures.value in
    ap (λ (s : Split). s.outer * s.inner) split ∙ lines_without c.args.axis c.args.b.now.shape ∙ ap element_count (sym c.requires.shape)

pub lines_of_items-requires-clause-some : goal.lines_of_items-requires-clause-some
lines_of_items-requires-clause-some c =
    let some : 0 < item_count (seen_items c.items.result) = first_of (search rules, grind (arith, c.if-is_empty.ensures)) in
    let split : c.at-split.result ≡ split_at c.args.b.now.shape c.args.axis = c.at-split.ensures ∙ ap (λ (s : List ℕ). split_at s c.args.axis) c.shape.ensures.value in
    omega (arith, some, ap item_count c.items.ensures.value, c.items.ensures.array.whole, ap split_count split, split_count_lem c.args.b.now.shape c.args.axis c.requires.axis)

pub returns : goal.returns
returns c =
    let split : c.at-split.result ≡ split_at c.args.b.now.shape c.args.axis = c.at-split.ensures ∙ ap (λ (s : List ℕ). split_at s c.args.axis) c.shape.ensures.value in
    lines_made c.args.f c.args.b.now c.args.axis c.args.shape.now (seen_items c.items-2.result) c.at-split.result c.lines_of_items.result c.requires.shape c.items-2.ensures.value split
    c.lines_of_items.ensures
