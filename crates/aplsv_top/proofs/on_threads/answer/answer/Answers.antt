use Rattle.std.proofs.Common.{◌≡◌, ◌∙◌, ℕ, false, ap, ap₂, subst, sym}
use Rattle.std.proofs.lemmas.Result.{IfOk-at_ok}
use Rattle.apl_arrays.specs.List.{Listed}
use Rattle.aplsv_words.specs.Meaning.{asked_by}
use Rattle.bundle_text.specs.Breaks.{Breaks}
use Rattle.bundle_text.specs.Refused.{IsRefusal}
use Rattle.bundle_text.specs.declared.refused.BundleRefused.{BundleRefused}
use Rattle.bundle_text.specs.declared.refused.BundleRule.{BundleRule}
use Rattle.aplsv_top.specs.Headline.{IsOutputAs, IsOutputIn}
use Rattle.aplsv_top.specs.declared.status.Finish.{Finish}
use Rattle.aplsv_top.specs.declared.status.Status.TheVariants as status
use Rattle.aplsv_top.proofs.Causes.{bytes_refused, for_ending, given, memory_ran_out, run_written, used_up}
use Rattle.aplsv_top.proofs.Over.{output_as}
use Rattle.aplsv_top.proofs.on_threads.answer.answer.Goals as goal

pub returns-in-Err-Malformed-clause-causes : goal.returns-in-Err-Malformed-clause-causes
returns-in-Err-Malformed-clause-causes g c =
    let arm = c.in-Err-Malformed in
    let is : c.ended.result.status ≡ status.Malformed arm.offset arm.rule = ap (λ (end : Finish _ _ _). end.status) c.ended.ensures ∙ ap₂ (λ (offset : ℕ) (rule : BundleRule). status.Malformed offset rule) arm.offset-is arm.rule-is in
    let refused : Breaks c.args.bytes.now arm.offset arm.rule = subst (λ (why : BundleRefused). IsRefusal why (Breaks c.args.bytes.now)) arm.field-0-is arm.ensures.breaks in
    for_ending (IsOutputAs g.C.Clock.told g.C.Clock.faults g.T.TextStore.told g.T.TextStore.faults g.K.Shelf.told g.K.Shelf.faults (asked_by c.args.words.now) c.args.clock c.ended.result.clock c.args.text c.ended.result.text c.args.shelves.items c.ended.result.shelves.items)
    (λ bytes text out. (out.bundle, out.read)) c.ended.result.status (status.Malformed arm.offset arm.rule) (given c.args.bytes.now) used_up
    (record { bytes = g.W.Sink.held c.args.output.now; faults = g.W.Sink.faults c.args.output.now }) (record { bytes = g.W.Sink.held c.args.output.now; faults = g.W.Sink.faults c.args.output.now }) is
    (bytes_refused (IsOutputAs g.C.Clock.told g.C.Clock.faults g.T.TextStore.told g.T.TextStore.faults g.K.Shelf.told g.K.Shelf.faults (asked_by c.args.words.now) c.args.clock c.ended.result.clock c.args.text c.ended.result.text c.args.shelves.items c.ended.result.shelves.items)
    (λ bytes text out. (out.bundle, out.read)) c.args.bytes.now arm.offset arm.rule (record { bytes = g.W.Sink.held c.args.output.now; faults = g.W.Sink.faults c.args.output.now }) c.requires.few refused)

pub returns-in-Err-WantOfMemory-clause-causes : goal.returns-in-Err-WantOfMemory-clause-causes
returns-in-Err-WantOfMemory-clause-causes g c =
    let is : c.ended-in-Err-WantOfMemory.result.status ≡ status.WantOfMemory = cc in
    for_ending (IsOutputAs g.C.Clock.told g.C.Clock.faults g.T.TextStore.told g.T.TextStore.faults g.K.Shelf.told g.K.Shelf.faults (asked_by c.args.words.now) c.args.clock c.ended-in-Err-WantOfMemory.result.clock c.args.text c.ended-in-Err-WantOfMemory.result.text c.args.shelves.items c.ended-in-Err-WantOfMemory.result.shelves.items)
    (λ bytes text out. (out.bundle, out.read)) c.ended-in-Err-WantOfMemory.result.status status.WantOfMemory (given c.args.bytes.now) used_up
    (record { bytes = g.W.Sink.held c.args.output.now; faults = g.W.Sink.faults c.args.output.now }) (record { bytes = g.W.Sink.held c.args.output.now; faults = g.W.Sink.faults c.args.output.now }) is
    (memory_ran_out (IsOutputAs g.C.Clock.told g.C.Clock.faults g.T.TextStore.told g.T.TextStore.faults g.K.Shelf.told g.K.Shelf.faults (asked_by c.args.words.now) c.args.clock c.ended-in-Err-WantOfMemory.result.clock c.args.text c.ended-in-Err-WantOfMemory.result.text c.args.shelves.items c.ended-in-Err-WantOfMemory.result.shelves.items)
    (λ bytes text out. (out.bundle, out.read)) c.args.bytes.now (record { bytes = g.W.Sink.held c.args.output.now; faults = g.W.Sink.faults c.args.output.now }) c.requires.few)

pub returns-in-Ok-written-clause-causes : goal.returns-in-Ok-written-clause-causes
returns-in-Ok-written-clause-causes g c =
    let is : c.ended-in-Ok-written.result.status ≡ c.write.result = cc in
    let same_clock : c.run_as_asked-outcome.result.clock ≡ c.ended-in-Ok-written.result.clock = sym (ap (λ (end : Finish _ _ _). end.clock) c.ended-in-Ok-written.ensures) in
    let same_text : c.run_as_asked-outcome.result.text ≡ c.ended-in-Ok-written.result.text = sym (ap (λ (end : Finish _ _ _). end.text) c.ended-in-Ok-written.ensures) in
    let same_shelves : c.run_as_asked-outcome.result.shelves.items ≡ c.ended-in-Ok-written.result.shelves.items = sym (ap (λ (end : Finish _ _ _). end.shelves.items) c.ended-in-Ok-written.ensures) in
    let written = IfOk-at_ok (λ (output : Listed ℕ). IsOutputIn c.run_as_asked-outcome.result.ended output.items) c.in-Ok-written.is c.output_in-written.ensures in
    for_ending (IsOutputAs g.C.Clock.told g.C.Clock.faults g.T.TextStore.told g.T.TextStore.faults g.K.Shelf.told g.K.Shelf.faults (asked_by c.args.words.now) c.args.clock c.ended-in-Ok-written.result.clock c.args.text c.ended-in-Ok-written.result.text c.args.shelves.items c.ended-in-Ok-written.result.shelves.items)
    (λ bytes text out. (out.bundle, out.read)) c.ended-in-Ok-written.result.status c.write.result (given c.args.bytes.now) used_up
    (record { bytes = g.W.Sink.held c.args.output.now; faults = g.W.Sink.faults c.args.output.now }) (record { bytes = g.W.Sink.held c.write.new.output; faults = g.W.Sink.faults c.write.new.output }) is
    (run_written (IsOutputAs g.C.Clock.told g.C.Clock.faults g.T.TextStore.told g.T.TextStore.faults g.K.Shelf.told g.K.Shelf.faults (asked_by c.args.words.now) c.args.clock c.ended-in-Ok-written.result.clock c.args.text c.ended-in-Ok-written.result.text c.args.shelves.items c.ended-in-Ok-written.result.shelves.items)
    (λ bytes text out. (out.bundle, out.read)) c.args.bytes.now c.in-Ok-written.written.items (record { bytes = g.W.Sink.held c.args.output.now; faults = g.W.Sink.faults c.args.output.now })
    (record { bytes = g.W.Sink.held c.write.new.output; faults = g.W.Sink.faults c.write.new.output }) c.write.result c.requires.few
    (output_as false g.C.Clock.told g.C.Clock.faults g.T.TextStore.told g.T.TextStore.faults g.K.Shelf.told g.K.Shelf.faults (asked_by c.args.words.now) (sym c.requires.served) c.in-Ok.bundle c.args.bytes.now c.in-Ok-written.written.items
    c.args.clock c.run_as_asked-outcome.result.clock c.ended-in-Ok-written.result.clock c.args.text c.run_as_asked-outcome.result.text c.ended-in-Ok-written.result.text
    c.args.shelves.items c.run_as_asked-outcome.result.shelves.items c.ended-in-Ok-written.result.shelves.items c.run_as_asked-outcome.result.ended
    c.in-Ok.ensures.bundle c.run_as_asked-outcome.ensures.run written same_clock same_text same_shelves)
    c.write.ensures)

pub returns-in-Err-clause-causes : goal.returns-in-Err-clause-causes
returns-in-Err-clause-causes g c =
    let is : c.ended-in-Err.result.status ≡ status.WantOfMemory = cc in
    for_ending (IsOutputAs g.C.Clock.told g.C.Clock.faults g.T.TextStore.told g.T.TextStore.faults g.K.Shelf.told g.K.Shelf.faults (asked_by c.args.words.now) c.args.clock c.ended-in-Err.result.clock c.args.text c.ended-in-Err.result.text c.args.shelves.items c.ended-in-Err.result.shelves.items)
    (λ bytes text out. (out.bundle, out.read)) c.ended-in-Err.result.status status.WantOfMemory (given c.args.bytes.now) used_up
    (record { bytes = g.W.Sink.held c.args.output.now; faults = g.W.Sink.faults c.args.output.now }) (record { bytes = g.W.Sink.held c.args.output.now; faults = g.W.Sink.faults c.args.output.now }) is
    (memory_ran_out (IsOutputAs g.C.Clock.told g.C.Clock.faults g.T.TextStore.told g.T.TextStore.faults g.K.Shelf.told g.K.Shelf.faults (asked_by c.args.words.now) c.args.clock c.ended-in-Err.result.clock c.args.text c.ended-in-Err.result.text c.args.shelves.items c.ended-in-Err.result.shelves.items)
    (λ bytes text out. (out.bundle, out.read)) c.args.bytes.now (record { bytes = g.W.Sink.held c.args.output.now; faults = g.W.Sink.faults c.args.output.now }) c.requires.few)
