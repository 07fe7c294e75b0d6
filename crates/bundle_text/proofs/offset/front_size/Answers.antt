use Rattle.std.proofs.Common.{◌+◌, length, map, take, sym, ap, ap₂, ◌∙◌, subst}
use Rattle.std.proofs.lemmas.List.{take-map}
use Rattle.std.proofs.lemmas.List.Elements.{All-take}
use Rattle.std.specs.List.{All}
use Rattle.apl_arrays.specs.List.{glyphs_in}
use Rattle.line_text.specs.Lines.{content, lines_text}
use Rattle.bundle_text.specs.Rules.{IsContent}
use Rattle.bundle_text.proofs.Offsets.{front_length, first_lines}
use Rattle.bundle_text.proofs.offset.front_size.Goals as goal

pub contents_size-requires-clause-each : goal.contents_size-requires-clause-each
contents_size-requires-clause-each c =
    let lines = c.as_slice-lines.result.now in
    let all : All IsContent (map glyphs_in lines) = subst (All IsContent) (sym c.as_slice-lines.ensures) c.requires.each in
    subst (All IsContent) (take-map glyphs_in c.min.result lines) (All-take IsContent c.min.result (map glyphs_in lines) all)

pub returns-clause-value : goal.returns-clause-value
returns-clause-value c =
    let lines = c.as_slice-lines.result.now in
    let items = c.args.user.now.lines.items in
    let first = ap (λ n. map glyphs_in (take n lines)) c.min.ensures ∙ (first_lines glyphs_in lines c.args.line ∙ ap (take c.args.line) c.as_slice-lines.ensures) in
    ap₂ (λ a b. a + b) c.heading_size.ensures.value (c.contents_size.ensures.value ∙ ap (λ ls. length (lines_text (map content ls))) first)
    ∙ sym (front_length c.args.user.now.number (take c.args.line items))
