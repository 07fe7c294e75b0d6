use Rattle.std.proofs.Common.{◌≡◌, ◌++◌, ◌∷◌, [], ◌∙◌, sym, ap}
use Rattle.std.proofs.lemmas.Result.{err_from_is_err_and}
use Rattle.text_reader.specs.Reading.{read_behind}
use Rattle.sv_text.specs.ValueReading.{read_axes}
use Rattle.sv_text.proofs.Axes.{axis_stops, behind_stops, goes_on_with, closes_behind}
use Rattle.sv_text.proofs.shape.+add_axes.Goals as goal

pub returns-in_err-axis : goal.returns-in_err-axis
returns-in_err-axis t c =
    let p = err_from_is_err_and c.from_residual.result c.from_residual.ensures.1 in
    rw (p.1, p.2) (axis_stops c.in_err-axis.field-0.0 c.args.most c.args.product c.greatest_axis.result c.args.shape.now.items c.args.cursor.now c.requires.most c.greatest_axis.ensures c.in_err-axis.ensures.value)

pub returns-in_err-goes_on : goal.returns-in_err-goes_on
returns-in_err-goes_on t c =
    let p = err_from_is_err_and c.from_residual-in_err-goes_on.result c.from_residual-in_err-goes_on.ensures.1 in
    rw (p.1, p.2) (behind_stops c.in_err-goes_on.field-0.0 c.args.most c.args.product c.greatest_axis.result c.in_ok-axis.axis c.min-product.result c.args.shape.now.items c.args.cursor.now c.number.new.self c.requires.most c.greatest_axis.ensures c.in_ok-axis.ensures.value c.min-product.ensures c.in_err-goes_on.ensures)

pub returns-then-branch : goal.returns-then-branch
returns-then-branch t c =
    let pushed : c.push.new.self.items ≡ c.args.shape.now.items ++ c.in_ok-axis.axis ∷ [] = c.in_ok-push.ensures.ok in
    let whole = goes_on_with c.args.most c.args.product c.greatest_axis.result c.in_ok-axis.axis c.min-product.result c.args.shape.now.items c.args.cursor.now c.number.new.self c.goes_on.new.cursor c.in_ok-goes_on.field-0 c.requires.most c.greatest_axis.ensures c.in_ok-axis.ensures.value c.min-product.ensures c.in_ok-goes_on.ensures c.if-branch.true in
    rw (whole, ← pushed) c.add_axes.ensures

pub returns-else-branch : goal.returns-else-branch
returns-else-branch t c =
    let pushed : c.push.new.self.items ≡ c.args.shape.now.items ++ c.in_ok-axis.axis ∷ [] = c.in_ok-push.ensures.ok in
    rw pushed (closes_behind c.args.most c.args.product c.greatest_axis.result c.in_ok-axis.axis c.min-product.result c.args.shape.now.items c.args.cursor.now c.number.new.self c.goes_on.new.cursor c.in_ok-goes_on.field-0 c.requires.most c.greatest_axis.ensures c.in_ok-axis.ensures.value c.min-product.ensures c.in_ok-goes_on.ensures c.if-branch.false)
