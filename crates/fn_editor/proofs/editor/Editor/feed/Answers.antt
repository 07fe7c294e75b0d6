use Rattle.std.proofs.Common.{◌∙◌, ap}
use Rattle.fn_editor.specs.Editor.{PlainEditor}
use Rattle.fn_editor.proofs.NameKept.{edited_keeps_name}
use Rattle.fn_editor.proofs.editor.Editor.feed.Goals as goal

pub returns-clause-name : goal.returns-clause-name
returns-clause-name c =
    ap (λ (e : PlainEditor). e.header.name) c.self.view_is
    ∙ edited_keeps_name c.args.self.now c.split_close-closes.result.0.now (record { editor = c.edit.new.self; shown = c.in_ok-shown.shown.items }) c.in_ok-shown.ensures.ok
