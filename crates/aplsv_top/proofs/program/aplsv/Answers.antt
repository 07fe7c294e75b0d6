use Rattle.std.proofs.Common.{◌≡◌, ◌∙◌, ℕ, Option, Some, None, ap, map, refl, string_bytes, subst, sym}
use Rattle.aplsv_words.specs.Meaning.{Asked, asked_by}
use Rattle.aplsv_words.specs.declared.words.WordsRefused.TheVariants as refused
use Rattle.aplsv_top.specs.Causes.{HasCause}
use Rattle.aplsv_top.specs.Headline.{IsOutputAs}
use Rattle.aplsv_top.specs.Loads.{HasLoadCause, IsLoadAs}
use Rattle.aplsv_top.specs.Words.{IsConclusion}
use Rattle.aplsv_top.proofs.Causes.{concluded}
use Rattle.aplsv_top.proofs.LoadCauses.{load_concluded, load_counts, workers_count}
use Rattle.aplsv_top.proofs.program.aplsv.Goals as goal

usage_is_no_want : refused.Usage ≡ refused.WantOfMemory → ⊥
usage_is_no_want e = cc

pub by_words-requires-clause-count : goal.by_words-requires-clause-count
by_words-requires-clause-count g c = λ lifetimes within n is. load_counts (map string_bytes c.args.words.now) (asked_by c.in-Ok.asked) n c.in-Ok.ensures.means is

pub by_words-requires-clause-workers : goal.by_words-requires-clause-workers
by_words-requires-clause-workers g c = λ lifetimes within n is. workers_count (map string_bytes c.args.words.now) (asked_by c.in-Ok.asked) n c.in-Ok.ensures.means is

pub returns-in-Ok-clause-load : goal.returns-in-Ok-clause-load
returns-in-Ok-clause-load g c = λ asked means n is.
    subst (λ (a : Asked). HasLoadCause (IsLoadAs g.C.Clock.told g.C.Clock.faults g.T.TextStore.told g.T.TextStore.faults g.K.Shelf.told g.K.Shelf.faults n a c.args.clock c.by_words.result.clock c.args.text c.by_words.result.text c.args.shelves.items c.by_words.result.shelves.items) c.by_words.result.status (record { bytes = g.W.Sink.held c.args.output.now; faults = g.W.Sink.faults c.args.output.now }) (record { bytes = g.W.Sink.held c.by_words.new.output; faults = g.W.Sink.faults c.by_words.new.output }))
    (c.in-Ok.ensures.only asked means) (c.by_words.ensures.load n (ap (λ (a : Asked). a.load) (c.in-Ok.ensures.only asked means) ∙ is))

pub returns-in-Ok-clause-load_unread : goal.returns-in-Ok-clause-load_unread
returns-in-Ok-clause-load_unread g c = λ asked means n is. c.by_words.ensures.load_unread n (ap (λ (a : Asked). a.load) (c.in-Ok.ensures.only asked means) ∙ is)

pub returns-in-Ok-clause-causes : goal.returns-in-Ok-clause-causes
returns-in-Ok-clause-causes g c = λ asked means none.
    subst (λ (a : Asked). HasCause (IsOutputAs g.C.Clock.told g.C.Clock.faults g.T.TextStore.told g.T.TextStore.faults g.K.Shelf.told g.K.Shelf.faults a c.args.clock c.by_words.result.clock c.args.text c.by_words.result.text c.args.shelves.items c.by_words.result.shelves.items) c.by_words.result.status
    (record { bytes = g.S.Source.left c.args.input.now; faults = g.S.Source.faults c.args.input.now }) (record { bytes = g.S.Source.left c.by_words.new.input; faults = g.S.Source.faults c.by_words.new.input })
    (record { bytes = g.W.Sink.held c.args.output.now; faults = g.W.Sink.faults c.args.output.now }) (record { bytes = g.W.Sink.held c.by_words.new.output; faults = g.W.Sink.faults c.by_words.new.output }))
    (c.in-Ok.ensures.only asked means) (c.by_words.ensures.causes (ap (λ (a : Asked). a.load) (c.in-Ok.ensures.only asked means) ∙ none))

pub returns-in-Ok-clause-usage : goal.returns-in-Ok-clause-usage
returns-in-Ok-clause-usage g c = λ is. absurd (c.by_words.ensures.usage is)

pub returns-in-Ok-clause-meaningless : goal.returns-in-Ok-clause-meaningless
returns-in-Ok-clause-meaningless g c = λ none. absurd (none (asked_by c.in-Ok.asked, c.in-Ok.ensures.means))

pub returns-in-Ok-clause-unread : goal.returns-in-Ok-clause-unread
returns-in-Ok-clause-unread g c = λ none. absurd (none (asked_by c.in-Ok.asked, c.in-Ok.ensures.means))

pub returns-in-Ok-clause-unnamed : goal.returns-in-Ok-clause-unnamed
returns-in-Ok-clause-unnamed g c = λ none. absurd (none (asked_by c.in-Ok.asked, c.in-Ok.ensures.means))

pub returns-in-Ok-clause-complete : goal.returns-in-Ok-clause-complete
returns-in-Ok-clause-complete g c ask few reads_well writes_well = by (asked_by c.in-Ok.asked).load refl
  where
    by : (load : Option ℕ) → (asked_by c.in-Ok.asked).load ≡ load → IsConclusion c.by_words.result.status
    by (Some n) is =
        load_concluded (IsLoadAs g.C.Clock.told g.C.Clock.faults g.T.TextStore.told g.T.TextStore.faults g.K.Shelf.told g.K.Shelf.faults n (asked_by c.in-Ok.asked) c.args.clock c.by_words.result.clock c.args.text c.by_words.result.text c.args.shelves.items c.by_words.result.shelves.items) c.by_words.result.status
        (record { bytes = g.W.Sink.held c.args.output.now; faults = g.W.Sink.faults c.args.output.now }) (record { bytes = g.W.Sink.held c.by_words.new.output; faults = g.W.Sink.faults c.by_words.new.output }) (c.by_words.ensures.load n is) writes_well
    by None is =
        concluded (IsOutputAs g.C.Clock.told g.C.Clock.faults g.T.TextStore.told g.T.TextStore.faults g.K.Shelf.told g.K.Shelf.faults (asked_by c.in-Ok.asked) c.args.clock c.by_words.result.clock c.args.text c.by_words.result.text c.args.shelves.items c.by_words.result.shelves.items)
        (λ bytes text out. (out.bundle, out.read)) c.by_words.result.status
        (record { bytes = g.S.Source.left c.args.input.now; faults = g.S.Source.faults c.args.input.now }) (record { bytes = g.S.Source.left c.by_words.new.input; faults = g.S.Source.faults c.by_words.new.input })
        (record { bytes = g.W.Sink.held c.args.output.now; faults = g.W.Sink.faults c.args.output.now }) (record { bytes = g.W.Sink.held c.by_words.new.output; faults = g.W.Sink.faults c.by_words.new.output })
        (c.by_words.ensures.causes is)
        (λ usage. c.by_words.ensures.usage usage)
        few reads_well writes_well

pub returns-in-Ok-clause-text : goal.returns-in-Ok-clause-text
returns-in-Ok-clause-text g c = λ asked means none. c.by_words.ensures.text (ap (λ (a : Asked). a.text) (c.in-Ok.ensures.only asked means) ∙ none)

pub returns-in-Ok-clause-clock : goal.returns-in-Ok-clause-clock
returns-in-Ok-clause-clock g c = λ asked means none. c.by_words.ensures.clock (ap (λ (a : Asked). a.clock) (c.in-Ok.ensures.only asked means) ∙ none)

pub returns-in-Ok-clause-relayed : goal.returns-in-Ok-clause-relayed
returns-in-Ok-clause-relayed g c = λ asked means none. c.by_words.ensures.relayed (ap (λ (a : Asked). a.relay) (c.in-Ok.ensures.only asked means) ∙ none)

pub returns-in-Ok-clause-library : goal.returns-in-Ok-clause-library
returns-in-Ok-clause-library g c = λ asked means none. c.by_words.ensures.library (ap (λ (a : Asked). a.library) (c.in-Ok.ensures.only asked means) ∙ none)

pub returns-in-Err-Usage-clause-load : goal.returns-in-Err-Usage-clause-load
returns-in-Err-Usage-clause-load g c = λ asked means n is. absurd (usage_is_no_want (sym c.in-Err-Usage.field-0-is ∙ c.in-Err-Usage.ensures.only asked means))

pub returns-in-Err-Usage-clause-usage : goal.returns-in-Err-Usage-clause-usage
returns-in-Err-Usage-clause-usage g c = λ is ask.
    usage_is_no_want (sym c.in-Err-Usage.field-0-is ∙ c.in-Err-Usage.ensures.only ask.0 ask.1)

pub returns-in-Err-Usage-clause-complete : goal.returns-in-Err-Usage-clause-complete
returns-in-Err-Usage-clause-complete g c = λ ask few reads_well writes_well.
    absurd (usage_is_no_want (sym c.in-Err-Usage.field-0-is ∙ c.in-Err-Usage.ensures.only ask.0 ask.1))
