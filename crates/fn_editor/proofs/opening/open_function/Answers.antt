use Rattle.std.proofs.Common.{◌∙◌, ap}
use Rattle.fn_editor.specs.Editor.{PlainEditor}
use Rattle.fn_editor.proofs.NameKept.{bracket_keeps_name}
use Rattle.fn_editor.proofs.opening.open_function.Goals as goal

pub returns-clause-name : goal.returns-clause-name
returns-clause-name c =
    bracket_keeps_name c.in_ok-editor.editor c.args.rest.now (record { editor = c.bracketed.new.self; shown = c.in_ok-shown.shown.items }) c.in_ok-shown.ensures.ok
    ∙ ap (λ (e : PlainEditor). e.header.name) c.in_ok-editor.ensures
