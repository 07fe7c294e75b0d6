use Rattle.std.proofs.Common.{rules, ◌≡◌, ◌≢◌, subst, sym, ap, ◌∙◌}
use Rattle.apl_session.specs.Standing.{IsAlive}
use Rattle.apl_session.specs.declared.session.SessionStage.{SessionStage}
use Rattle.apl_session.specs.declared.session.SessionStage.TheVariants.{Failed, Finished, Waiting}
use Rattle.apl_session.proofs.Around.{goes_inside, next_goes, still_alive}
use Rattle.apl_session.proofs.Inside.{closed_far, open_far}
use Rattle.apl_session.proofs.session.Session.go_on.Goals as goal

pub advance-requires-clause-may : goal.advance-requires-clause-may
advance-requires-clause-may g c =
    let inside = c.self.inside in
    let alive : inside.stage ≢ Failed = search rules in
    goes_inside c.args.self.now inside.user inside.lines.items inside.receipts.items inside.progress inside.stage inside.shelf c.self.view_is c.requires alive c.self.invariant

pub invariant_of-self-then-has_open_act : goal.invariant_of-self-then-has_open_act
invariant_of-self-then-has_open_act g c =
    let inside = c.self.inside in
    let alive : inside.stage ≢ Failed = search rules in
    let still = still_alive g.K.Shelf.told g.K.Shelf.faults inside.user inside.lines.items _ inside.receipts.items inside.progress c.advance.new.progress inside.stage inside.shelf c.advance.new.shelf c.as_slice.ensures (c.self.invariant alive) c.in_ok-advance.ensures in
    λ kept. subst (λ (at : SessionStage). IsAlive inside.lines.items inside.receipts.items c.advance.new.progress at) (open_far c.advance.new.progress.under_way (sym c.has_open_act.ensures ∙ c.if-has_open_act.true)).0 still

pub invariant_of-self-else-has_open_act : goal.invariant_of-self-else-has_open_act
invariant_of-self-else-has_open_act g c =
    let inside = c.self.inside in
    let alive : inside.stage ≢ Failed = search rules in
    let still = still_alive g.K.Shelf.told g.K.Shelf.faults inside.user inside.lines.items _ inside.receipts.items inside.progress c.advance.new.progress inside.stage inside.shelf c.advance.new.shelf c.as_slice.ensures (c.self.invariant alive) c.in_ok-advance.ensures in
    λ kept. subst (λ (at : SessionStage). IsAlive inside.lines.items inside.receipts.items c.advance.new.progress at) (closed_far c.advance.new.progress.under_way (sym c.has_open_act.ensures ∙ c.if-has_open_act.false)).0 still

pub returns-then-has_open_act-clause-goes : goal.returns-then-has_open_act-clause-goes
returns-then-has_open_act-clause-goes g c =
    let inside = c.self.inside in
    next_goes g.K.Shelf.told g.K.Shelf.faults c.args.self.now inside.user inside.lines.items _ inside.receipts.items inside.progress c.advance.new.progress inside.stage Waiting inside.shelf c.advance.new.shelf
    c.self.view_is c.as_slice.ensures c.in_ok-advance.ensures

pub returns-else-has_open_act-clause-goes : goal.returns-else-has_open_act-clause-goes
returns-else-has_open_act-clause-goes g c =
    let inside = c.self.inside in
    next_goes g.K.Shelf.told g.K.Shelf.faults c.args.self.now inside.user inside.lines.items _ inside.receipts.items inside.progress c.advance.new.progress inside.stage Finished inside.shelf c.advance.new.shelf
    c.self.view_is c.as_slice.ensures c.in_ok-advance.ensures

pub returns-then-has_open_act-clause-need : goal.returns-then-has_open_act-clause-need
returns-then-has_open_act-clause-need g c = sym (open_far c.advance.new.progress.under_way (sym c.has_open_act.ensures ∙ c.if-has_open_act.true)).1

pub returns-else-has_open_act-clause-need : goal.returns-else-has_open_act-clause-need
returns-else-has_open_act-clause-need g c = sym (closed_far c.advance.new.progress.under_way (sym c.has_open_act.ensures ∙ c.if-has_open_act.false)).1

pub returns-then-has_open_act-clause-stage : goal.returns-then-has_open_act-clause-stage
returns-then-has_open_act-clause-stage g c = sym (open_far c.advance.new.progress.under_way (sym c.has_open_act.ensures ∙ c.if-has_open_act.true)).0

pub returns-else-has_open_act-clause-stage : goal.returns-else-has_open_act-clause-stage
returns-else-has_open_act-clause-stage g c = sym (closed_far c.advance.new.progress.under_way (sym c.has_open_act.ensures ∙ c.if-has_open_act.false)).0
