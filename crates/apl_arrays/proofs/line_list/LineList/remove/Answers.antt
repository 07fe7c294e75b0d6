use Rattle.std.proofs.Common.{◌∙◌, ap, map, remove}
use Rattle.apl_arrays.proofs.Edits.{map-remove, seen_at}
use Rattle.apl_arrays.specs.List.{glyphs_in}
use Rattle.apl_arrays.proofs.line_list.LineList.remove.Goals as goal

pub returns-clause-items : goal.returns-clause-items
returns-clause-items c =
    ap (map glyphs_in) c.remove.ensures.items ∙ (map-remove glyphs_in c.self.inside.lines.items c.args.at ∙ ap (λ lines. remove lines.items c.args.at) c.self.view_is)

pub returns-clause-removed : goal.returns-clause-removed
returns-clause-removed c = seen_at glyphs_in c.self.inside.lines.items c.args.self.now.items c.args.at c.remove.result (ap (λ lines. lines.items) c.self.view_is) c.remove.ensures.removed
