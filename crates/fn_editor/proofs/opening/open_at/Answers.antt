use Rattle.std.proofs.Common.{◌∙◌}
use Rattle.fn_editor.proofs.NameKept.{function_is_no_variable, name_is_no_variable}
use Rattle.fn_editor.proofs.opening.open_at.Goals as goal

pub returns-in-Function-clause-no_variable : goal.returns-in-Function-clause-no_variable
returns-in-Function-clause-no_variable c =
    name_is_no_variable c.args.ws.now c.in-Function.function.now.header.name c.open_function.result (function_is_no_variable c.args.ws.now c.args.name.now c.in-Function.function.now c.in-Function.ensures.whole c.in-Function.ensures.value) c.open_function.ensures.name
