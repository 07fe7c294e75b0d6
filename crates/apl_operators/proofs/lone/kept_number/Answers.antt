use Rattle.std.proofs.Common.{◌≡◌, ℤ, pos, [], ◌∷◌, sym, ap, subst, ◌∙◌, to_z, of_z, w64, SFits}
use Rattle.std.specs.Prelude.{None}
use Rattle.std.proofs.lemmas.Int.{to_z-of_z}
use Rattle.apl_arrays.specs.Array.{numbers, scalar}
use Rattle.apl_items.specs.Answers.{AnswersFirst}
use Rattle.apl_selection.specs.Compression.{compress_of}
use Rattle.apl_operators.proofs.LoneLemmas.{kept, made_answers, no_flag, not_kept}
use Rattle.apl_operators.proofs.lone.kept_number.Goals as goal

pub returns-then-flag-eq0 : goal.returns-then-flag-eq0
returns-then-flag-eq0 c way =
    let is : c.args.flag ≡ pos 0 = sym (to_z-of_z w64 c.args.flag c.ranges.flag) ∙ ap (to_z w64) c.if-flag-eq0.true in
    subst (λ (flag : ℤ). AnswersFirst c.vector_of.result (compress_of (scalar flag) (scalar c.args.number) way None)) (sym is)
    (made_answers c.vector_of.result (compress_of (scalar (pos 0)) (scalar c.args.number) way None) (record { shape = 0 ∷ []; items = numbers [] }) c.vector_of.ensures.made c.vector_of.ensures.refused (not_kept way c.args.number))

pub returns-then-flag-eq1 : goal.returns-then-flag-eq1
returns-then-flag-eq1 c way =
    let number : SFits w64 c.args.number = c.ranges.number in
    let is : c.args.flag ≡ pos 1 = sym (to_z-of_z w64 c.args.flag c.ranges.flag) ∙ ap (to_z w64) c.if-flag-eq1.true in
    subst (λ (flag : ℤ). AnswersFirst c.vector_of-then-flag-eq1.result (compress_of (scalar flag) (scalar c.args.number) way None)) (sym is)
    (made_answers c.vector_of-then-flag-eq1.result (compress_of (scalar (pos 1)) (scalar c.args.number) way None) (record { shape = 1 ∷ []; items = numbers (c.args.number ∷ []) }) (simp to_z-of_z at c.vector_of-then-flag-eq1.ensures.made) c.vector_of-then-flag-eq1.ensures.refused (kept way c.args.number))

pub returns-else-flag-eq1 : goal.returns-else-flag-eq1
returns-else-flag-eq1 c way =
    no_flag way c.args.flag c.args.number
    (λ (is : c.args.flag ≡ pos 0). c.if-flag-eq0.false (ap (of_z w64) is))
    (λ (is : c.args.flag ≡ pos 1). c.if-flag-eq1.false (ap (of_z w64) is))
