use Rattle.std.proofs.Common.{◌≡◌, ◌≢◌, ◌∙◌, ap, refl, rules, sym}
use Rattle.apl_session.specs.PlainSession.{PlainSession, asked}
use Rattle.apl_session.specs.Wants.{stage_by}
use Rattle.apl_session.specs.declared.session.SessionStage.TheVariants as stage
use Rattle.party_turns.proofs.Staging.{act_waits, act_wanted, may_go_on, none_wanted}
use Rattle.party_turns.proofs.Turning.{not_waiting, same_by_next}
use Rattle.party_turns.proofs.seat.UserSeat.prepare.Goals as goal

pub go_on-requires : goal.go_on-requires
go_on-requires g c = let free : c.args.self.now.session.stage ≢ stage.Waiting = search rules in may_go_on c.args.self.now.session.stage free

pub returns-then-eq-clause-finds : goal.returns-then-eq-clause-finds
returns-then-eq-clause-finds g c = let at : c.args.self.now.session.stage ≡ stage.Waiting = search rules in (at, refl)

pub returns-in-Answer-clause-finds : goal.returns-in-Answer-clause-finds
returns-in-Answer-clause-finds g c =
    let s = c.args.self.now.session in
    let now = c.go_on.new.self in
    let free : s.stage ≢ stage.Waiting = search rules in (
      record {
        ready = not_waiting s.stage free;
        same = same_by_next s now c.go_on.ensures.same;
        answers = ap (λ (t : PlainSession g.row.K.Denot). t.answers) c.go_on.ensures.same;
        goes = c.in_ok-go_on.ensures.goes;
      },
      c.in_ok-go_on.ensures.stage ∙ act_waits (asked now) (act_wanted (asked now) (sym c.in-Answer.is ∙ c.in_ok-go_on.ensures.need)),
      act_wanted (asked now) (sym c.in-Answer.is ∙ c.in_ok-go_on.ensures.need),
    )

pub returns-in-Nothing-clause-finds : goal.returns-in-Nothing-clause-finds
returns-in-Nothing-clause-finds g c =
    let s = c.args.self.now.session in
    let now = c.go_on.new.self in
    let free : s.stage ≢ stage.Waiting = search rules in (
      record {
        ready = not_waiting s.stage free;
        same = same_by_next s now c.go_on.ensures.same;
        answers = ap (λ (t : PlainSession g.row.K.Denot). t.answers) c.go_on.ensures.same;
        goes = c.in_ok-go_on.ensures.goes;
      },
      c.in_ok-go_on.ensures.stage ∙ ap stage_by (none_wanted (asked now) (sym c.in-Nothing.is ∙ c.in_ok-go_on.ensures.need)),
      none_wanted (asked now) (sym c.in-Nothing.is ∙ c.in_ok-go_on.ensures.need),
    )
