use Rattle.std.proofs.Common.{◌≡◌, true, sym, ap, subst, ◌∙◌}
use Rattle.std.specs.Arc.{arc_value}
use Rattle.std.specs.List.{list_all}
use Rattle.apl_workspace.specs.Workspace.{PlainWorkspace}
use Rattle.apl_workspace.proofs.NameLaw.{equal_names}
use Rattle.apl_values.specs.Classing.{is_token_told}
use Rattle.apl_values.specs.Parts.{IsReadFrom}
use Rattle.apl_values.proofs.KnownTexts.{known_is_read}
use Rattle.apl_values.proofs.known.KnownLine.is_read_on.Goals as goal

pub returns-then-eq : goal.returns-then-eq
returns-then-eq c is =
    let w : PlainWorkspace = c.args.workspace.now in
    let same : c.self.inside.text.items ≡ c.args.text.now.items = sym c.as_slice.ensures ∙ equal_names c.as_slice.result.now c.as_slice-2.result.now (sym c.eq.ensures ∙ c.if-eq.true) ∙ c.as_slice-2.ensures in
    let told : list_all (is_token_told w c.self.inside.classes.items) c.self.inside.tokens.tokens.items ≡ true =
    ap (list_all (is_token_told w c.self.inside.classes.items)) (sym c.as_slice-then-eq.ensures) ∙ sym c.tells_all.ensures ∙ is in
    subst (IsReadFrom w c.args.text.now.items) c.self.view_is (known_is_read w c.self.inside.text.items c.args.text.now.items c.self.inside.tokens c.self.inside.classes.items (arc_value c.self.inside.reading) c.self.invariant c.weight-weight.ensures.rules same told)
