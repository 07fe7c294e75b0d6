use Rattle.std.proofs.Common.{refl, sym, ap, subst, ◌∙◌}
use Rattle.std.specs.Prelude.{reverse}
use Rattle.apl_meaning.specs.Calls.{result_of}
use Rattle.apl_meaning.specs.Expressions.{Found}
use Rattle.apl_statements.specs.declared.interpreter.Interpreter.TheInside.{Inside}
use Rattle.apl_statements.specs.Evaluating.{innermost_function}
use Rattle.apl_statements.specs.Interpreter.{PlainInterpreter}
use Rattle.apl_statements.specs.Holding.{IsResumedWith}
use Rattle.apl_calls.proofs.Innermost.{some_frame}
use Rattle.apl_calls.proofs.Left.{left_comes, left_parts, left_sound}
use Rattle.apl_calls.proofs.calling.leave.Goals as goal

pub pop_frame-requires : goal.pop_frame-requires
pop_frame-requires c =
    some_frame c.interpreter.inside.workspace c.interpreter.inside.input.items (reverse c.interpreter.inside.callers.items) c.interpreter.invariant (λ none. c.requires.some (sym (ap (λ (m : PlainInterpreter). m.stack) c.interpreter.view_is) ∙ none))

pub returns-clause-comes : goal.returns-clause-comes
returns-clause-comes c =
    let m : PlainInterpreter = c.args.interpreter.now in
    let after : Inside = record c.interpreter.inside { workspace = c.pop_frame.new.self; callers = c.pop.new.self } in
    let with : IsResumedWith (result_of (innermost_function m.stack) m.workspace) c.in-Some.waiting.caller c.resume.new.self = subst (λ (found : Found). IsResumedWith found c.in-Some.waiting.caller c.resume.new.self) c.in_ok-found.ensures c.in_ok-resume-in-Some.ensures in
    left_comes c.interpreter.inside after m c.in-Some.waiting c.resume.new.self refl c.pop_frame.ensures c.in-Some.ensures.items c.interpreter.view_is c.interpreter.invariant with

pub returns-clause-sound : goal.returns-clause-sound
returns-clause-sound c =
    left_sound c.interpreter.inside c.pop.new.self.items c.pop_frame.new.self c.in-Some.waiting c.in_ok-found.found c.resume.new.self c.in-Some.ensures.items c.interpreter.invariant c.in_ok-resume-in-Some.ensures

pub returns-clause-parts : goal.returns-clause-parts
returns-clause-parts c = left_parts c.interpreter.inside c.pop.new.self.items c.args.interpreter.now c.in-Some.waiting c.in_ok-found.found c.resume.new.self c.in-Some.ensures.items c.interpreter.view_is c.in_ok-resume-in-Some.ensures
