use Rattle.std.proofs.Common.{sym, ap, ◌∙◌, subst}
use Rattle.std.proofs.lemmas.Result.{err_from_is_err_and}
use Rattle.text_reader.specs.Reading.{Stops, read_list}
use Rattle.text_reader.proofs.Lists.{step_more, step_stops, is_done}
use Rattle.sv_journal.specs.EntryReading.{is_left, read_pair}
use Rattle.sv_journal.proofs.entry_reading.read_pairs.Goals as goal

pub returns-in_err-add_pair : goal.returns-in_err-add_pair
returns-in_err-add_pair c =
    let p = err_from_is_err_and c.from_residual.result c.from_residual.ensures.1 in
    rw (p.1, p.2) (subst (λ n. Stops c.in_err-add_pair.field-0.0 (read_list is_left read_pair n c.args.cursor.now)) c.left-most.ensures
    (step_stops is_left read_pair c.in_err-add_pair.field-0.0 c.loop.pairs.items c.left-most.result c.loop.counter c.loop.cursor (read_list is_left read_pair c.left-most.result c.args.cursor.now) c.loop-test.true c.in_err-add_pair.ensures c.loop.invariant))

pub loop-preserved : goal.loop-preserved
loop-preserved c =
    step_more is_left read_pair c.loop.pairs.items c.add_pair.new.pairs.items c.left-most.result c.loop.counter c.loop.cursor c.add_pair.new.cursor (read_list is_left read_pair c.left-most.result c.args.cursor.now) c.loop-test.true c.in_ok-add_pair.ensures c.loop.invariant

pub returns : goal.returns
returns c =
    ap (λ n. read_list is_left read_pair n c.args.cursor.now) (sym c.left-most.ensures)
    ∙ is_done is_left read_pair c.loop.pairs.items c.left-most.result c.loop.counter c.loop.cursor (read_list is_left read_pair c.left-most.result c.args.cursor.now) c.loop-test.false c.loop.invariant
