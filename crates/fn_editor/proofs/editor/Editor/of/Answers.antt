use Rattle.std.proofs.Common.{ap, ◌∙◌}
use Rattle.fn_editor.specs.Editor.{numbered}
use Rattle.fn_editor.proofs.Editors.{opened_is_editor}
use Rattle.fn_editor.proofs.editor.Editor.of.Goals as goal

pub invariant_of-result : goal.invariant_of-result
invariant_of-result c =
    opened_is_editor c.args.function.now _ _ _ _ _ c.requires (c.in_ok-copy.ensures ∙ c.text.ensures) (c.in_ok-copy-2.ensures ∙ c.header.ensures) (c.in_ok-lines.ensures.0 ∙ ap (numbered 1) c.lines.ensures)
