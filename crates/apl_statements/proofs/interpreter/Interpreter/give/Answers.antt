use Rattle.apl_statements.proofs.Gives.{push_comes}
use Rattle.apl_statements.proofs.interpreter.Interpreter.give.Goals as goal

pub returns-clause-comes : goal.returns-clause-comes
returns-clause-comes c = push_comes c.args.self.now c.args.e _ c.args.value c.requires.sound c.in_ok-push.ensures
