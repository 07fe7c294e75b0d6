use Rattle.std.proofs.Common.{◌≡◌, ap, length, sym, ◌∙◌}
use Rattle.std.specs.Prelude.{map}
use Rattle.apl_arrays.specs.List.{glyphs_in}
use Rattle.sv_events.specs.Answer.{plain_answer}
use Rattle.apl_session.specs.Standing.{MayHear}
use Rattle.apl_session.specs.declared.progress.Progress.{Progress}
use Rattle.apl_session.specs.declared.under_way.UnderWay.TheVariants as under_way
use Rattle.apl_session.proofs.Moves.{answered_on, command_heard, heard_on, if_ok_at, may_hear_command, may_hear_there}
use Rattle.apl_session.proofs.progress.Progress.take_answer.Goals as goal

-- a line that is one act alone is done with the answer
pub returns-in-Ok : goal.returns-in-Ok
returns-in-Ok c =
    let p : Progress = c.args.self.now in
    let waits : p.under_way ≡ under_way.Alone c.in-Alone.act = sym c.replace.ensures.value ∙ c.in-Alone.is in
    let may : MayHear (length c.args.lines.now) p.read p.terminal c.in-Alone.act = may_hear_there (length c.args.lines.now) p.read p.terminal p.under_way c.in-Alone.act waits c.requires in
    λ answers exchanges at.
    heard_on c.args.lines.now answers exchanges c.in-Alone.act (plain_answer c.args.answer) c.index-lines-self.result p c.hear.new.self waits (ap (λ (q : Progress). q.under_way) c.hear.ensures.rest ∙ c.replace.ensures.after) (ap (λ (q : Progress). q.read) c.hear.ensures.rest)
    may.some may.within c.index-lines-self.is c.in-Ok.ensures.heard at

-- any other is handed it
pub returns-in-Ok-hand : goal.returns-in-Ok-hand
returns-in-Ok-hand c = λ answers exchanges at. answered_on _ answers exchanges c.in-Asking.act (plain_answer c.args.answer) c.in-Asking.machine c.args.self.now c.hand.new.self c.replace.new.dest (sym c.replace.ensures.value ∙ c.in-Asking.is) c.hand.ensures.stands at

-- what it does for a command is done
pub answer_command-requires-clause-none : goal.answer_command-requires-clause-none
answer_command-requires-clause-none c = c.replace.ensures.after

pub answer_command-requires-clause-may : goal.answer_command-requires-clause-may
answer_command-requires-clause-may c =
    let p : Progress = c.args.self.now in
    let waits : p.under_way ≡ under_way.Commanding c.in-Commanding.errand c.in-Commanding.act = sym c.replace.ensures.value ∙ c.in-Commanding.is in
    (may_hear_command (length c.args.lines.now) p.read p.terminal p.under_way c.in-Commanding.errand c.in-Commanding.act waits c.requires).0

pub answer_command-requires-clause-first : goal.answer_command-requires-clause-first
answer_command-requires-clause-first c =
    let p : Progress = c.args.self.now in
    let waits : p.under_way ≡ under_way.Commanding c.in-Commanding.errand c.in-Commanding.act = sym c.replace.ensures.value ∙ c.in-Commanding.is in
    (may_hear_command (length c.args.lines.now) p.read p.terminal p.under_way c.in-Commanding.errand c.in-Commanding.act waits c.requires).1

pub returns-in-Commanding : goal.returns-in-Commanding
returns-in-Commanding c =
    let p : Progress = c.args.self.now in
    let waits : p.under_way ≡ under_way.Commanding c.in-Commanding.errand c.in-Commanding.act = sym c.replace.ensures.value ∙ c.in-Commanding.is in
    let answer = plain_answer c.args.answer in
    if_ok_at c.answer_command.result c.in-Commanding.act _ c.answer_command.ensures.act c.answer_command.ensures.heard c.answer_command.ensures.may
    (λ heard may answers exchanges at. command_heard (map glyphs_in c.args.lines.now) answers exchanges c.in-Commanding.act answer c.in-Commanding.errand p c.answer_command.new.self waits heard may at)
