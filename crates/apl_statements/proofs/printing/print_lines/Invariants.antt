use Rattle.std.proofs.Common.{◌≡◌, ◌+◌}
use Rattle.std.specs.Prelude.{map}
use Rattle.apl_arrays.specs.List.{glyphs_in}
use Rattle.apl_meaning.specs.Printing.{lines_printed}
use Rattle.apl_statements.specs.Led.{Leads}
use Rattle.apl_statements.specs.Wants.{glyph_count}
use Rattle.apl_statements.proofs.printing.print_lines.Given as goal

-- the lines so far are printed
abbrev pub invariant-loop-line : goal.invariant-loop-line
invariant-loop-line l = record {
  led : Leads l.fn.workspace l.fn.output.items (lines_printed (map glyphs_in l.yielded)) l.workspace l.output.items;
  beside : l.workspace ≡ record l.fn.workspace { printed = l.workspace.printed };
  glyphs : l.workspace.printed ≡ l.fn.workspace.printed + glyph_count (map glyphs_in l.yielded);
}
