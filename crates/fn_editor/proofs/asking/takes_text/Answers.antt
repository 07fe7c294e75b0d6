use Rattle.std.proofs.Common.{◌≡◌, ◌≤◌, ℕ, Bool, true, false, List, length, leb, ltb, sym, ap, ◌∙◌, arith}
use Rattle.std.proofs.lemmas.Bool.{le-leb, leb-true}
use Rattle.std.proofs.lemmas.List.{length-map}
use Rattle.fn_editor.specs.Closing.{is_blank_text}
use Rattle.fn_editor.specs.Editing.{with_current_number}
use Rattle.fn_editor.specs.Editor.{editor_of, has_line, numbered}
use Rattle.fn_editor.specs.Number.{whole_part}
use Rattle.fn_editor.proofs.Asked.{enters_new}
use Rattle.fn_editor.proofs.Numbered.{length_numbered}
use Rattle.fn_editor.proofs.asking.takes_text.Goals as goal
use Rattle.fn_editor.proofs.asking.takes_text.Goals.{then-text-le-LINE_GLYPH_LIMIT, else-text-le-LINE_GLYPH_LIMIT}

pub returns-else-has_line : goal.returns-else-has_line
returns-else-has_line c = elim c.if-text-le-LINE_GLYPH_LIMIT.branch [
  | then-text-le-LINE_GLYPH_LIMIT w ↦
      let n : ℕ = c.args.number in
      let lines : List (List ℕ) = c.args.function.now.lines in
      let blank : is_blank_text c.args.text.now ≡ false = sym c.is_blank_text.ensures ∙ c.if-is_blank_text.false in
      let small : leb (length c.args.text.now) 1000 ≡ true = le-leb _ _ w.if-text-le-LINE_GLYPH_LIMIT.true in
      let whole : leb (whole_part n) 999 ≡ true = ap (λ (k : ℕ). leb k 999) (sym w.whole_part.ensures.value) ∙ sym w.value-is ∙ c.if-whole_part-le-WHOLE_LIMIT.true in
      let there : has_line (numbered 1 lines) n ≡ false = sym c.has_line.ensures ∙ c.if-has_line.false in
      let count : length c.lines.result.now ≡ length (numbered 1 lines) = sym (length-map _ _) ∙ ap (λ (ls : List (List ℕ)). length ls) c.lines.ensures ∙ sym (length_numbered 1 lines) in
      ap (λ (k : ℕ). ltb k 200) count ∙ enters_new (with_current_number (editor_of c.args.function.now) n) c.args.text.now blank small whole there
  | else-text-le-LINE_GLYPH_LIMIT w ↦
      let small : length c.args.text.now ≤ 1000 = leb-true _ _ (sym w.value-is ∙ c.if-whole_part-le-WHOLE_LIMIT.true) in
      absurd (omega (arith, small, w.if-text-le-LINE_GLYPH_LIMIT.false))
]
