use Rattle.std.proofs.Common.{sym, ap, ◌∙◌, subst}
use Rattle.std.proofs.lemmas.Result.{err_from_is_err_and}
use Rattle.text_reader.specs.Reading.{Stops, read_list}
use Rattle.text_reader.proofs.Lists.{step_more, step_stops, is_done}
use Rattle.sv_journal.specs.ActReading.{read_party}
use Rattle.sv_journal.specs.AnswerReading.{list_goes_on}
use Rattle.sv_journal.proofs.answer_reading.read_parties.Goals as goal

pub returns-in_err-add_party : goal.returns-in_err-add_party
returns-in_err-add_party c =
    let p = err_from_is_err_and c.from_residual.result c.from_residual.ensures.1 in
    rw (p.1, p.2) (subst (λ n. Stops c.in_err-add_party.field-0.0 (read_list list_goes_on read_party n c.args.cursor.now)) c.left-most.ensures
    (step_stops list_goes_on read_party c.in_err-add_party.field-0.0 c.loop.parties.items c.left-most.result c.loop.counter c.loop.cursor (read_list list_goes_on read_party c.left-most.result c.args.cursor.now) c.loop-test.true c.in_err-add_party.ensures c.loop.invariant))

pub loop-preserved : goal.loop-preserved
loop-preserved c =
    step_more list_goes_on read_party c.loop.parties.items c.add_party.new.parties.items c.left-most.result c.loop.counter c.loop.cursor c.add_party.new.cursor (read_list list_goes_on read_party c.left-most.result c.args.cursor.now) c.loop-test.true c.in_ok-add_party.ensures c.loop.invariant

pub returns : goal.returns
returns c =
    ap (λ n. read_list list_goes_on read_party n c.args.cursor.now) (sym c.left-most.ensures)
    ∙ is_done list_goes_on read_party c.loop.parties.items c.left-most.result c.loop.counter c.loop.cursor (read_list list_goes_on read_party c.left-most.result c.args.cursor.now) c.loop-test.false c.loop.invariant
