use Rattle.std.proofs.Common.{sym, ap, ◌∙◌, subst}
use Rattle.std.proofs.lemmas.Result.{err_from_is_err_and}
use Rattle.apl_arrays.specs.Glyph.{blank}
use Rattle.text_reader.specs.Reading.{Stops, begins_with, read_list, read_behind}
use Rattle.text_reader.proofs.Lists.{step_more, step_stops, is_done}
use Rattle.bundle_text.specs.HeadingReading.{read_next_count}
use Rattle.bundle_text.proofs.counts.add_counts.Goals as goal

pub returns-in_err-add_count : goal.returns-in_err-add_count
returns-in_err-add_count c =
    let p = err_from_is_err_and c.from_residual.result c.from_residual.ensures.1 in
    rw (p.1, p.2) (subst (λ n. Stops c.in_err-add_count.field-0.0 (read_behind c.args.numbers.now.items (read_list (begins_with blank) read_next_count n c.args.cursor.now))) c.left-most.ensures
    (step_stops (begins_with blank) read_next_count c.in_err-add_count.field-0.0 c.loop.numbers.items c.left-most.result c.loop.counter c.loop.cursor (read_behind c.args.numbers.now.items (read_list (begins_with blank) read_next_count c.left-most.result c.args.cursor.now)) c.loop-test.true c.in_err-add_count.ensures c.loop.invariant))

pub loop-preserved : goal.loop-preserved
loop-preserved c =
    step_more (begins_with blank) read_next_count c.loop.numbers.items c.add_count.new.numbers.items c.left-most.result c.loop.counter c.loop.cursor c.add_count.new.cursor (read_behind c.args.numbers.now.items (read_list (begins_with blank) read_next_count c.left-most.result c.args.cursor.now)) c.loop-test.true c.in_ok-add_count.ensures c.loop.invariant

pub returns : goal.returns
returns c =
    ap (λ n. read_behind c.args.numbers.now.items (read_list (begins_with blank) read_next_count n c.args.cursor.now)) (sym c.left-most.ensures)
    ∙ is_done (begins_with blank) read_next_count c.loop.numbers.items c.left-most.result c.loop.counter c.loop.cursor (read_behind c.args.numbers.now.items (read_list (begins_with blank) read_next_count c.left-most.result c.args.cursor.now)) c.loop-test.false c.loop.invariant
