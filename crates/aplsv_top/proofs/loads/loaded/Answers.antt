use Rattle.std.proofs.Common.{◌≡◌, ◌<◌, ◌^◌, ℕ, ap, arith, sym}
use Rattle.std.proofs.lemmas.Result.{IfOk-at_ok}
use Rattle.apl_arrays.specs.List.{Listed}
use Rattle.aplsv_words.specs.Meaning.{asked_by}
use Rattle.aplsv_top.specs.Loads.{IsLoadAs, IsSummaryIn}
use Rattle.aplsv_top.specs.declared.status.Finish.{Finish}
use Rattle.aplsv_top.specs.declared.status.Status.TheVariants as status
use Rattle.aplsv_top.proofs.LoadCauses.{load_as, load_for_ending, load_lacked, load_shows, load_written}
use Rattle.aplsv_top.proofs.loads.loaded.Goals as goal

pub summary_in-written-requires : goal.summary_in-written-requires
summary_in-written-requires g c =
    let fits : c.args.count < 2 ^ 64 = omega (arith, c.requires.few) in
    load_shows g.C.Clock.told g.C.Clock.faults g.T.TextStore.told g.T.TextStore.faults g.K.Shelf.told g.K.Shelf.faults c.args.count (asked_by c.args.words.now) c.in-Ok.bundle c.in-Ok.ensures
    c.args.clock c.run_as_asked-outcome.result.clock c.args.text c.run_as_asked-outcome.result.text c.args.shelves.items c.run_as_asked-outcome.result.shelves.items c.run_as_asked-outcome.result.ended
    fits c.run_as_asked-outcome.ensures.run

pub returns-in-Err-clause-causes : goal.returns-in-Err-clause-causes
returns-in-Err-clause-causes g c =
    let is : c.ended.result.status ≡ status.WantOfMemory = cc in
    load_for_ending (IsLoadAs g.C.Clock.told g.C.Clock.faults g.T.TextStore.told g.T.TextStore.faults g.K.Shelf.told g.K.Shelf.faults c.args.count (asked_by c.args.words.now) c.args.clock c.ended.result.clock c.args.text c.ended.result.text c.args.shelves.items c.ended.result.shelves.items) c.ended.result.status status.WantOfMemory
    (record { bytes = g.W.Sink.held c.args.output.now; faults = g.W.Sink.faults c.args.output.now }) (record { bytes = g.W.Sink.held c.args.output.now; faults = g.W.Sink.faults c.args.output.now }) is
    (load_lacked (IsLoadAs g.C.Clock.told g.C.Clock.faults g.T.TextStore.told g.T.TextStore.faults g.K.Shelf.told g.K.Shelf.faults c.args.count (asked_by c.args.words.now) c.args.clock c.ended.result.clock c.args.text c.ended.result.text c.args.shelves.items c.ended.result.shelves.items) (record { bytes = g.W.Sink.held c.args.output.now; faults = g.W.Sink.faults c.args.output.now }))

pub returns-in-Ok-written-clause-causes : goal.returns-in-Ok-written-clause-causes
returns-in-Ok-written-clause-causes g c =
    let is : c.ended-in-Ok-written.result.status ≡ c.write.result = cc in
    let same_clock : c.run_as_asked-outcome.result.clock ≡ c.ended-in-Ok-written.result.clock = sym (ap (λ (end : Finish _ _ _). end.clock) c.ended-in-Ok-written.ensures) in
    let same_text : c.run_as_asked-outcome.result.text ≡ c.ended-in-Ok-written.result.text = sym (ap (λ (end : Finish _ _ _). end.text) c.ended-in-Ok-written.ensures) in
    let same_shelves : c.run_as_asked-outcome.result.shelves.items ≡ c.ended-in-Ok-written.result.shelves.items = sym (ap (λ (end : Finish _ _ _). end.shelves.items) c.ended-in-Ok-written.ensures) in
    let written = IfOk-at_ok (λ (output : Listed ℕ). IsSummaryIn c.args.count c.run_as_asked-outcome.result.ended output.items) c.in-Ok-written.is c.summary_in-written.ensures in
    load_for_ending (IsLoadAs g.C.Clock.told g.C.Clock.faults g.T.TextStore.told g.T.TextStore.faults g.K.Shelf.told g.K.Shelf.faults c.args.count (asked_by c.args.words.now) c.args.clock c.ended-in-Ok-written.result.clock c.args.text c.ended-in-Ok-written.result.text c.args.shelves.items c.ended-in-Ok-written.result.shelves.items) c.ended-in-Ok-written.result.status c.write.result
    (record { bytes = g.W.Sink.held c.args.output.now; faults = g.W.Sink.faults c.args.output.now }) (record { bytes = g.W.Sink.held c.write.new.output; faults = g.W.Sink.faults c.write.new.output }) is
    (load_written (IsLoadAs g.C.Clock.told g.C.Clock.faults g.T.TextStore.told g.T.TextStore.faults g.K.Shelf.told g.K.Shelf.faults c.args.count (asked_by c.args.words.now) c.args.clock c.ended-in-Ok-written.result.clock c.args.text c.ended-in-Ok-written.result.text c.args.shelves.items c.ended-in-Ok-written.result.shelves.items) c.in-Ok-written.written.items
    (record { bytes = g.W.Sink.held c.args.output.now; faults = g.W.Sink.faults c.args.output.now }) (record { bytes = g.W.Sink.held c.write.new.output; faults = g.W.Sink.faults c.write.new.output }) c.write.result
    (load_as g.C.Clock.told g.C.Clock.faults g.T.TextStore.told g.T.TextStore.faults g.K.Shelf.told g.K.Shelf.faults c.args.count (asked_by c.args.words.now) c.in-Ok.bundle c.in-Ok.ensures c.in-Ok-written.written.items
    c.args.clock c.run_as_asked-outcome.result.clock c.ended-in-Ok-written.result.clock c.args.text c.run_as_asked-outcome.result.text c.ended-in-Ok-written.result.text
    c.args.shelves.items c.run_as_asked-outcome.result.shelves.items c.ended-in-Ok-written.result.shelves.items c.run_as_asked-outcome.result.ended
    c.run_as_asked-outcome.ensures.run written same_clock same_text same_shelves)
    c.write.ensures)

pub returns-in-Err-written-clause-causes : goal.returns-in-Err-written-clause-causes
returns-in-Err-written-clause-causes g c =
    let is : c.ended-in-Err-written.result.status ≡ status.WantOfMemory = cc in
    load_for_ending (IsLoadAs g.C.Clock.told g.C.Clock.faults g.T.TextStore.told g.T.TextStore.faults g.K.Shelf.told g.K.Shelf.faults c.args.count (asked_by c.args.words.now) c.args.clock c.ended-in-Err-written.result.clock c.args.text c.ended-in-Err-written.result.text c.args.shelves.items c.ended-in-Err-written.result.shelves.items) c.ended-in-Err-written.result.status status.WantOfMemory
    (record { bytes = g.W.Sink.held c.args.output.now; faults = g.W.Sink.faults c.args.output.now }) (record { bytes = g.W.Sink.held c.args.output.now; faults = g.W.Sink.faults c.args.output.now }) is
    (load_lacked (IsLoadAs g.C.Clock.told g.C.Clock.faults g.T.TextStore.told g.T.TextStore.faults g.K.Shelf.told g.K.Shelf.faults c.args.count (asked_by c.args.words.now) c.args.clock c.ended-in-Err-written.result.clock c.args.text c.ended-in-Err-written.result.text c.args.shelves.items c.ended-in-Err-written.result.shelves.items) (record { bytes = g.W.Sink.held c.args.output.now; faults = g.W.Sink.faults c.args.output.now }))
