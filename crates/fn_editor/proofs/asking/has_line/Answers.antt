use Rattle.std.proofs.Common.{◌≡◌, ℕ, Bool, true, List, length, leb, eqb, eqb-true, sym, ap, ◌∙◌}
use Rattle.std.proofs.lemmas.List.{length-map}
use Rattle.fn_editor.specs.Number.{tenth, whole_part}
use Rattle.fn_editor.proofs.Asked.{both_hold, has_whole}
use Rattle.fn_editor.proofs.asking.has_line.Goals as goal
use Rattle.fn_editor.proofs.asking.has_line.Goals.{then-tenth-eq0, else-tenth-eq0}

pub returns-then-whole_part-ge1 : goal.returns-then-whole_part-ge1
returns-then-whole_part-ge1 c = elim c.if-tenth-eq0.branch [
  | then-tenth-eq0 w ↦
      let n : ℕ = c.args.number in
      let lines : List (List ℕ) = c.args.function.now.lines in
      let own : c.from.result ≡ whole_part n = c.from.ensures ∙ c.whole_part-then-whole_part-ge1.ensures.value in
      let count : length c.lines.result.now ≡ length lines = sym (length-map _ _) ∙ ap (λ (ls : List (List ℕ)). length ls) c.lines.ensures in
      let digit : eqb (tenth n) 0 ≡ true = ap (λ (k : ℕ). eqb k 0) (sym c.tenth.ensures.value ∙ w.if-tenth-eq0.true) in
      let whole : leb 1 (whole_part n) ≡ true = ap (λ (k : ℕ). leb 1 k) (sym w.whole_part.ensures.value) ∙ sym w.value-is ∙ c.if-whole_part-ge1.true in
      ap (λ (k : ℕ). leb k (length c.lines.result.now)) own ∙ ap (λ (k : ℕ). leb (whole_part n) k) count
      ∙ both_hold (eqb (tenth n) 0) (leb 1 (whole_part n)) (leb (whole_part n) (length lines)) digit whole ∙ sym (has_whole c.args.function.now n)
  | else-tenth-eq0 w ↦ absurd (w.if-tenth-eq0.false (eqb-true c.tenth.result 0 (sym w.value-is ∙ c.if-whole_part-ge1.true)))
]
