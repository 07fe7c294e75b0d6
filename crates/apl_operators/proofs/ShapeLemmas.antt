-- Shapes that are joined, and the pairs that they count.
use Rattle.std.proofs.Common.{◌≡◌, ℕ, ℤ, ◌*◌, ◌++◌, false, List, Result, sym, ap, subst, ◌∙◌}
use Rattle.apl_arrays.specs.declared.report.Fail.{Fail}
use Rattle.apl_verbs.specs.declared.verb.Dyad.{Dyad}
use Rattle.apl_arrays.specs.Array.{IsArray, PlainArray, PlainItems, chars, element_count, item_count, numbers}
use Rattle.apl_items.specs.Answers.{AnswersFirst}
use Rattle.apl_items.proofs.ShapeLemmas.{element_count-append}
use Rattle.apl_scalar.specs.Table.{item_of_chars}
use Rattle.operator_rules.specs.Gathering.{numbers_answer}
use Rattle.operator_rules.specs.Outer.{outer_at}

-- all pairs are as many as an array of both shapes has elements
pub pair_count : (a b : PlainArray) (shape : List ℕ) → IsArray a → IsArray b → shape ≡ a.shape ++ b.shape → item_count a.items * item_count b.items ≡ element_count shape
pair_count a b shape is_a is_b joined =
    ap (λ (n : ℕ). n * item_count b.items) (sym is_a.whole) ∙ ap (λ (n : ℕ). element_count a.shape * n) (sym is_b.whole)
    ∙ sym (element_count-append a.shape b.shape) ∙ ap (λ (s : List ℕ). element_count s) (sym joined)

-- a number and a character are never the same
pub unlike_numbers : (f : Dyad) (shape : List ℕ) (result : Result PlainArray Fail) (a b : PlainItems) (list : List ℤ) (glyphs : List ℕ) → a ≡ numbers list → b ≡ chars glyphs
    → AnswersFirst result (numbers_answer shape (λ place. item_of_chars f false)) → AnswersFirst result (numbers_answer shape (outer_at f a b))
unlike_numbers f shape result a b list glyphs is_a is_b answers =
    subst (λ (x : PlainItems). AnswersFirst result (numbers_answer shape (outer_at f x b))) (sym is_a)
    (subst (λ (x : PlainItems). AnswersFirst result (numbers_answer shape (outer_at f (numbers list) x))) (sym is_b) answers)

pub unlike_chars : (f : Dyad) (shape : List ℕ) (result : Result PlainArray Fail) (a b : PlainItems) (glyphs : List ℕ) (list : List ℤ) → a ≡ chars glyphs → b ≡ numbers list
    → AnswersFirst result (numbers_answer shape (λ place. item_of_chars f false)) → AnswersFirst result (numbers_answer shape (outer_at f a b))
unlike_chars f shape result a b glyphs list is_a is_b answers =
    subst (λ (x : PlainItems). AnswersFirst result (numbers_answer shape (outer_at f x b))) (sym is_a)
    (subst (λ (x : PlainItems). AnswersFirst result (numbers_answer shape (outer_at f (chars glyphs) x))) (sym is_b) answers)
