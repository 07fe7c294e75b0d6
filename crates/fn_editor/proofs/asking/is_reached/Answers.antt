use Rattle.std.proofs.Common.{◌≡◌, ℕ, ◌+◌, List, length, leb, sym, ap, ◌∙◌}
use Rattle.std.proofs.lemmas.List.{length-map}
use Rattle.fn_editor.specs.Number.{whole_part}
use Rattle.fn_editor.proofs.Asked.{reach_of_lines}
use Rattle.fn_editor.proofs.asking.is_reached.Goals as goal

pub returns : goal.returns
returns c =
    let own : c.from.result ≡ whole_part c.args.number = c.from.ensures ∙ c.whole_part.ensures.value in
    let count : length c.lines.result.now ≡ length c.args.function.now.lines = sym (length-map _ _) ∙ ap (λ (lines : List (List ℕ)). length lines) c.lines.ensures in
    ap (λ (n : ℕ). leb n (length c.lines.result.now + 1)) own
    ∙ ap (λ (n : ℕ). leb (whole_part c.args.number) (n + 1)) count
    ∙ sym (reach_of_lines c.args.function.now c.args.number)
