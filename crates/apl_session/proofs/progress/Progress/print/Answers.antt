use Rattle.std.proofs.Common.{◌≡◌, length, map, sym, ap, ◌∙◌, arith}
use Rattle.std.proofs.lemmas.List.{nil_from_length}
use Rattle.apl_arrays.specs.List.{glyphs_in}
use Rattle.apl_session.proofs.Moves.{none_printed}
use Rattle.apl_session.proofs.progress.Progress.print.Goals as goal

pub returns-then-is_empty-clause-ok : goal.returns-then-is_empty-clause-ok
returns-then-is_empty-clause-ok c =
    let none : length c.as_slice.result.now ≡ 0 = grind (arith, c.if-is_empty.ensures) in
    none_printed c.args.self.now.terminal c.args.lines.items (sym c.as_slice.ensures ∙ ap (map glyphs_in) (nil_from_length c.as_slice.result.now none))
