use Rattle.std.proofs.Common.{◌≡◌, true, sym, ap, subst, ◌∙◌}
use Rattle.fn_editor.specs.Editing.{may_enter, with_current_number}
use Rattle.fn_editor.specs.Editor.{PlainEditor, with_line_at}
use Rattle.fn_editor.proofs.Editors.{entered_keeps}
use Rattle.fn_editor.proofs.editor.Editor.enter.Goals as goal

pub invariant_of-self-2 : goal.invariant_of-self-2
invariant_of-self-2 c =
    let may = subst (λ (editor : PlainEditor). may_enter (with_current_number editor c.args.number) c.args.text.now ≡ true) (sym c.self.view_is) (sym c.may_enter.ensures ∙ c.if-not-may_enter.false) in
    entered_keeps _ c.args.number c.next-self-inside.result c.args.text.now c.put_line.new.lines.entries c.self.invariant may
    (c.in_ok-put_line.ensures.ok ∙ ap (with_line_at c.self.inside.lines.entries c.args.number) c.in_ok-entered.ensures) c.in_ok-put_line.ensures.len
