use Rattle.std.proofs.Common.{◌∙◌, Bool, true, refl, subst, sym}
use Rattle.session_rules.specs.Auxiliaries.{some_stay}
use Rattle.session_rules.specs.Run.{user_numbers}
use Rattle.sv_events.specs.Entry.{plain_entry}
use Rattle.aplsv_check.specs.Followed.{MadeIf}
use Rattle.aplsv_check.proofs.FollowerSteps.{follows, some_stays}
use Rattle.aplsv_check.proofs.follower.Follower.follow.Goals as goal

pub returns-then-not-is_entered : goal.returns-then-not-is_entered
returns-then-not-is_entered c = λ bundle h fits.
    let none = subst (λ (made : Bool). MadeIf bundle c.args.entry.now.party c.args.self.now made c.take_turns.new.self) c.if-not-is_entered.true (c.in_ok-is_entered.ensures bundle h) in
    none (plain_entry c.args.entry.now) refl fits

pub returns : goal.returns
returns c = λ bundle h.
    let stay = some_stays (some_stay (user_numbers bundle) c.args.self.now.core.journal) (sym (c.all_have_left.ensures bundle h) ∙ c.if-all_have_left.false) in
    let made = subst (λ (made : Bool). MadeIf bundle c.args.entry.now.party c.args.self.now made c.take_turns.new.self) c.if-not-is_entered.false (c.in_ok-is_entered.ensures bundle h) in
    follows c.files_are_read_in_one_way.ensures bundle c.args.self.now c.take_turns.new.self (plain_entry c.args.entry.now) true c.is_newest.result h stay made c.is_newest.ensures.legal c.is_newest.ensures.newest.0 c.is_newest.ensures.newest.1
