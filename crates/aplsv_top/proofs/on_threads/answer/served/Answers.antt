use Rattle.std.proofs.Common.{rules, ◌≡◌, ◌≤◌, length, subst, sym}
use Rattle.apl_arrays.specs.Limits.{most_input_bytes}
use Rattle.apl_io.specs.Whole.{ReadsAll}
use Rattle.aplsv_words.specs.Meaning.{asked_by}
use Rattle.aplsv_top.specs.Headline.{IsOutputAs}
use Rattle.aplsv_top.proofs.Causes.{by_bytes}
use Rattle.aplsv_top.proofs.on_threads.answer.served.Goals as goal

pub returns-in-Ok-clause-causes : goal.returns-in-Ok-clause-causes
returns-in-Ok-clause-causes g c =
    let same : c.as_slice.result.now ≡ c.in-Ok.bytes.items = search rules in
    let all = subst (ReadsAll (g.S.Source.left c.args.input.now) (g.S.Source.left c.read_all.new.source)) (sym same) c.in-Ok.ensures.all in
    let few : length c.as_slice.result.now ≤ most_input_bytes = search rules in
    by_bytes (IsOutputAs g.C.Clock.told g.C.Clock.faults g.T.TextStore.told g.T.TextStore.faults g.K.Shelf.told g.K.Shelf.faults (asked_by c.args.words.now) c.args.clock c.answer.result.clock c.args.text c.answer.result.text c.args.shelves.items c.answer.result.shelves.items)
    (λ bytes text out. (out.bundle, out.read)) c.answer.result.status c.as_slice.result.now
    (record { bytes = g.S.Source.left c.args.input.now; faults = g.S.Source.faults c.args.input.now }) (record { bytes = g.S.Source.left c.read_all.new.source; faults = g.S.Source.faults c.read_all.new.source })
    (record { bytes = g.W.Sink.held c.args.output.now; faults = g.W.Sink.faults c.args.output.now }) (record { bytes = g.W.Sink.held c.answer.new.output; faults = g.W.Sink.faults c.answer.new.output })
    all few c.answer.ensures.causes (c.in-Ok.ensures.taken (λ refused. absurd cc))
