use Rattle.std.proofs.Common.{◌-◌, ◌∙◌, ℕ, ap, length, map, sym}
use Rattle.std.proofs.lemmas.List.{length-map}
use Rattle.std.proofs.lemmas.Option.{slice_get-map}
use Rattle.std.specs.Prelude.{option_map, slice_get}
use Rattle.apl_arrays.specs.List.{glyphs_in}
use Rattle.aplsv_top.proofs.summaries.last_of.Goals as goal

pub returns : goal.returns
returns c =
    ap (option_map glyphs_in) c.last.ensures.value
    ∙ (sym (slice_get-map glyphs_in c.args.lines.now (length c.args.lines.now - 1)) ∙ ap (λ (n : ℕ). slice_get (map glyphs_in c.args.lines.now) (n - 1)) (sym (length-map c.args.lines.now glyphs_in)))
