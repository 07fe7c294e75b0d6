use Rattle.std.proofs.Common.{◌≡◌, Bool, true, false, ap, subst, sym, refl, true≢false, inl, ◌∙◌}
use Rattle.aplsv_words.specs.Meaning.{Asked, asked_by}
use Rattle.aplsv_words.specs.declared.words.WordsRefused.TheVariants as refused
use Rattle.aplsv_top.specs.Causes.{HasCause}
use Rattle.aplsv_top.specs.Headline.{IsOutputAs}
use Rattle.aplsv_top.proofs.Causes.{concluded}
use Rattle.aplsv_top.proofs.top.aplsv_replay_words.Goals as goal

is_false : (b : Bool) → (b ≡ true → ⊥) → b ≡ false
is_false true untrue = absurd (untrue refl)
is_false false untrue = refl

usage_is_no_want : refused.Usage ≡ refused.WantOfMemory → ⊥
usage_is_no_want e = cc

pub returns-in-Ok-clause-causes : goal.returns-in-Ok-clause-causes
returns-in-Ok-clause-causes g c = λ asked means.
    subst (λ (a : Asked). HasCause (IsOutputAs g.C.Clock.told g.C.Clock.faults g.T.TextStore.told g.T.TextStore.faults g.K.Shelf.told g.K.Shelf.faults a c.args.clock c.as_asked.result.clock c.args.text c.as_asked.result.text c.args.shelves.items c.as_asked.result.shelves.items) c.as_asked.result.status
    (record { bytes = g.S.Source.left c.args.input.now; faults = g.S.Source.faults c.args.input.now }) (record { bytes = g.S.Source.left c.as_asked.new.input; faults = g.S.Source.faults c.as_asked.new.input })
    (record { bytes = g.W.Sink.held c.args.output.now; faults = g.W.Sink.faults c.args.output.now }) (record { bytes = g.W.Sink.held c.as_asked.new.output; faults = g.W.Sink.faults c.as_asked.new.output }))
    (c.in-Ok.ensures.only asked means) c.as_asked.ensures.causes

pub returns-in-Ok-clause-usage : goal.returns-in-Ok-clause-usage
returns-in-Ok-clause-usage g c = λ is ask.
    true≢false (sym ask.2 ∙ (sym (ap (λ (a : Asked). a.replay) (c.in-Ok.ensures.only ask.0 ask.1)) ∙ c.as_asked.ensures.usage.0 is))

pub returns-in-Ok-clause-unasked : goal.returns-in-Ok-clause-unasked
returns-in-Ok-clause-unasked g c = λ unasked.
    inl (c.as_asked.ensures.usage.1 (is_false (asked_by c.in-Ok.asked).replay (λ yes. unasked (asked_by c.in-Ok.asked, c.in-Ok.ensures.means, yes))))

pub returns-in-Ok-clause-unread : goal.returns-in-Ok-clause-unread
returns-in-Ok-clause-unread g c = λ unasked.
    c.as_asked.ensures.unread (is_false (asked_by c.in-Ok.asked).replay (λ yes. unasked (asked_by c.in-Ok.asked, c.in-Ok.ensures.means, yes)))

pub returns-in-Ok-clause-unnamed : goal.returns-in-Ok-clause-unnamed
returns-in-Ok-clause-unnamed g c = λ unasked.
    c.as_asked.ensures.unnamed (is_false (asked_by c.in-Ok.asked).replay (λ yes. unasked (asked_by c.in-Ok.asked, c.in-Ok.ensures.means, yes)))

pub returns-in-Ok-clause-complete : goal.returns-in-Ok-clause-complete
returns-in-Ok-clause-complete g c = λ ask few reads_well writes_well.
    concluded
    (IsOutputAs g.C.Clock.told g.C.Clock.faults g.T.TextStore.told g.T.TextStore.faults g.K.Shelf.told g.K.Shelf.faults (asked_by c.in-Ok.asked) c.args.clock c.as_asked.result.clock c.args.text c.as_asked.result.text c.args.shelves.items c.as_asked.result.shelves.items)
    (λ bytes text out. (out.bundle, out.read)) c.as_asked.result.status
    (record { bytes = g.S.Source.left c.args.input.now; faults = g.S.Source.faults c.args.input.now }) (record { bytes = g.S.Source.left c.as_asked.new.input; faults = g.S.Source.faults c.as_asked.new.input })
    (record { bytes = g.W.Sink.held c.args.output.now; faults = g.W.Sink.faults c.args.output.now }) (record { bytes = g.W.Sink.held c.as_asked.new.output; faults = g.W.Sink.faults c.as_asked.new.output })
    c.as_asked.ensures.causes
    (λ is. true≢false (sym ask.2 ∙ (sym (ap (λ (a : Asked). a.replay) (c.in-Ok.ensures.only ask.0 ask.1)) ∙ c.as_asked.ensures.usage.0 is)))
    few reads_well writes_well

pub returns-in-Ok-clause-text : goal.returns-in-Ok-clause-text
returns-in-Ok-clause-text g c = λ asked means none. c.as_asked.ensures.text (ap (λ (a : Asked). a.text) (c.in-Ok.ensures.only asked means) ∙ none)

pub returns-in-Ok-clause-clock : goal.returns-in-Ok-clause-clock
returns-in-Ok-clause-clock g c = λ asked means none. c.as_asked.ensures.clock (ap (λ (a : Asked). a.clock) (c.in-Ok.ensures.only asked means) ∙ none)

pub returns-in-Ok-clause-relayed : goal.returns-in-Ok-clause-relayed
returns-in-Ok-clause-relayed g c = λ asked means none. c.as_asked.ensures.relayed (ap (λ (a : Asked). a.relay) (c.in-Ok.ensures.only asked means) ∙ none)

pub returns-in-Ok-clause-library : goal.returns-in-Ok-clause-library
returns-in-Ok-clause-library g c = λ asked means none. c.as_asked.ensures.library (ap (λ (a : Asked). a.library) (c.in-Ok.ensures.only asked means) ∙ none)

pub returns-in-Err-Usage-clause-usage : goal.returns-in-Err-Usage-clause-usage
returns-in-Err-Usage-clause-usage g c = λ is ask.
    usage_is_no_want (sym c.in-Err-Usage.field-0-is ∙ c.in-Err-Usage.ensures.only ask.0 ask.1)

pub returns-in-Err-Usage-clause-complete : goal.returns-in-Err-Usage-clause-complete
returns-in-Err-Usage-clause-complete g c = λ ask few reads_well writes_well.
    absurd (usage_is_no_want (sym c.in-Err-Usage.field-0-is ∙ c.in-Err-Usage.ensures.only ask.0 ask.1))
