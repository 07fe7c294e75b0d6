use Rattle.std.proofs.Common.{◌≡◌, ◌+◌, ◌-◌, ◌≤◌, ◌∷◌, length, arith, ap, length-append}
use Rattle.std.proofs.lemmas.Result.{err_from_is_err_and}
use Rattle.printed_text.specs.Draft.{text_before}
use Rattle.printed_text.proofs.Steps.{nothing_yet, read_more, refused_line}
use Rattle.printed_text.proofs.text.read_lines.Goals as goal

pub loop-line-init : goal.loop-line-init
loop-line-init c = nothing_yet _ _ _ c.new-draft.ensures

pub loop-line-preserved : goal.loop-line-preserved
loop-line-preserved c =
    let line = c.in-Some.ensures in read_more _ _ _ c.in-Some.line.now c.in-Some.after.now _ _ c.loop-line.invariant line.0 c.in_ok-add_line.ensures

pub returns-in_err-add_line : goal.returns-in_err-add_line
returns-in_err-add_line c =
    let line = c.in-Some.ensures in
    let so_far = c.loop-line.invariant in
    let there : length c.args.text.now ≡ (length c.args.text.now - length c.loop-line.rest.now) + length c.loop-line.rest.now = omega (arith, ap length so_far.whole, length-append (text_before so_far.before) c.loop-line.rest.now) in
    let p = err_from_is_err_and c.from_residual.result c.from_residual.ensures.1 in
    rw (p.1, p.2) (refused_line _ c.args.text.now c.loop-line.rest.now c.in-Some.line.now c.in-Some.after.now c.loop-line.draft (length c.args.text.now - length c.loop-line.rest.now) c.in_err-add_line.field-0.0 so_far there line.1 line.0 c.in_err-add_line.ensures)

pub returns : goal.returns
returns c =
    let so_far = c.loop-line.invariant in
    let there : length c.args.text.now ≡ (length c.args.text.now - length c.loop-line.rest.now) + length c.loop-line.rest.now = omega (arith, ap length so_far.whole, length-append (text_before so_far.before) c.loop-line.rest.now) in
    c.finished.ensures _ _ so_far there
