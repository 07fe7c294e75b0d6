use Rattle.std.proofs.Common.{◌≡◌, ◌∙◌, ℕ, subst, sym}
use Rattle.std.proofs.lemmas.Option.{none-some, same_Some}
use Rattle.aplsv_words.specs.Meaning.{asked_by}
use Rattle.aplsv_top.specs.Loads.{HasLoadCause, IsLoadAs, IsLoadEnding}
use Rattle.aplsv_top.proofs.LoadCauses.{load_ends_so}
use Rattle.aplsv_top.proofs.program.by_words.Goals as goal

pub returns-in-Some-clause-load : goal.returns-in-Some-clause-load
returns-in-Some-clause-load g c = λ n is.
    let same : c.in-Some.count ≡ n = same_Some c.in-Some.count n (sym c.in-Some.is ∙ is) in
    subst (λ (m : ℕ). HasLoadCause (IsLoadAs g.C.Clock.told g.C.Clock.faults g.T.TextStore.told g.T.TextStore.faults g.K.Shelf.told g.K.Shelf.faults m (asked_by c.args.words.now) c.args.clock c.loaded.result.clock c.args.text c.loaded.result.text c.args.shelves.items c.loaded.result.shelves.items) c.loaded.result.status (record { bytes = g.W.Sink.held c.args.output.now; faults = g.W.Sink.faults c.args.output.now }) (record { bytes = g.W.Sink.held c.loaded.new.output; faults = g.W.Sink.faults c.loaded.new.output })) same c.loaded.ensures.causes

pub returns-in-Some-clause-causes : goal.returns-in-Some-clause-causes
returns-in-Some-clause-causes g c = λ none. absurd (none-some c.in-Some.count (sym none ∙ c.in-Some.is))

pub returns-in-Some-clause-usage : goal.returns-in-Some-clause-usage
returns-in-Some-clause-usage g c = λ is. subst IsLoadEnding is c.loaded.ensures.causes.only

pub returns-in-Some-clause-devices : goal.returns-in-Some-clause-devices
returns-in-Some-clause-devices g c = λ done fault memory. absurd (load_ends_so c.loaded.result.status c.loaded.ensures.causes.only done fault memory)

pub returns-in-None-clause-load : goal.returns-in-None-clause-load
returns-in-None-clause-load g c = λ n is. absurd (none-some n (sym c.in-None.is ∙ is))

pub returns-in-None-clause-load_unread : goal.returns-in-None-clause-load_unread
returns-in-None-clause-load_unread g c = λ n is. absurd (none-some n (sym c.in-None.is ∙ is))
