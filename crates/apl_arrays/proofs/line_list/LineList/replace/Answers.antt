use Rattle.std.proofs.Common.{◌∙◌, ap, map, slice_set}
use Rattle.std.proofs.lemmas.List.{map-set}
use Rattle.apl_arrays.proofs.Edits.{seen_at}
use Rattle.apl_arrays.specs.List.{glyphs_in}
use Rattle.apl_arrays.proofs.line_list.LineList.replace.Goals as goal

pub returns-clause-items : goal.returns-clause-items
returns-clause-items c =
    ap (map glyphs_in) c.replace.ensures.items ∙ (map-set glyphs_in c.self.inside.lines.items c.args.at c.args.line ∙ ap (λ lines. slice_set lines.items c.args.at c.args.line.items) c.self.view_is)

pub returns-clause-replaced : goal.returns-clause-replaced
returns-clause-replaced c = seen_at glyphs_in c.self.inside.lines.items c.args.self.now.items c.args.at c.replace.result (ap (λ lines. lines.items) c.self.view_is) c.replace.ensures.replaced
