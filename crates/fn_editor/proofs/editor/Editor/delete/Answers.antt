use Rattle.fn_editor.proofs.Editors.{deleted_is_editor}
use Rattle.fn_editor.proofs.editor.Editor.delete.Goals as goal

pub invariant_of-self : goal.invariant_of-self
invariant_of-self c = deleted_is_editor _ c.args.number c.args.number _ c.self.invariant c.remove_line.ensures
