-- Products of rows and columns.
use Rattle.std.proofs.Common.{◌≡◌, ℕ, ℤ, zero, suc, ◌+◌, ◌-◌, ◌*◌, ◌<◌, ◌≤◌, false, List, Option, Result, sym, ap, subst, arith}
use Rattle.std.proofs.lemmas.Nat.{mul-le}
use Rattle.apl_arrays.specs.declared.report.Fail.{Fail}
use Rattle.apl_verbs.specs.declared.verb.Dyad.{Dyad}
use Rattle.apl_arrays.specs.Array.{PlainArray, PlainItems, chars, numbers}
use Rattle.apl_items.specs.Answers.{AnswersFirst}
use Rattle.apl_scalar.specs.Table.{item_of_chars}
use Rattle.apl_operators.specs.declared.products.ProductExtent.{ProductExtent}
use Rattle.operator_rules.specs.Gathering.{numbers_answer}
use Rattle.operator_rules.specs.Inner.{inner_at}
use Rattle.apl_operators.specs.Products.{IsExtent, products_at}
use Rattle.operator_rules.specs.Reduction.{reduction, reduction_of}
use Rattle.apl_items.proofs.RowLemmas.{place_below}

-- the reduction of some items
pub some_reduced : {T : Type 0} (join : T → T → Option T) (identity : Option T) (item : ℕ → Option T) (count : ℕ) → 0 < count
    → reduction join item 0 (count - 1) ≡ reduction_of join identity item count
some_reduced join identity item zero some = absurd (omega arith)
some_reduced join identity item (suc count) some = let one : suc count - 1 ≡ count = omega arith in ap (λ (n : ℕ). reduction join item 0 n) one

-- the places of a pair stand within the arrays, whose sizes are small
pub pair_places : (extent : ProductExtent) (row column along : ℕ) → IsExtent extent → row < extent.rows → column < extent.columns → along < extent.paired
    → (row * extent.paired + along < extent.rows * extent.paired) × (along * extent.columns + column < extent.paired * extent.columns)
    × (extent.rows * extent.paired ≤ 268435456) × (extent.paired * extent.columns ≤ 268435456)
pair_places extent row column along is p q r = (
  place_below extent.rows extent.paired row along p r,
  place_below extent.paired extent.columns along column r q,
  mul-le extent.rows extent.paired 16384 16384 is.rows is.paired,
  mul-le extent.paired extent.columns 16384 16384 is.paired is.columns,
)

-- a number and a character are never the same
pub unlike_numbers : (f g : Dyad) (shape : List ℕ) (count columns : ℕ) (result : Result PlainArray Fail) (a b : PlainItems) (list : List ℤ) (glyphs : List ℕ) → a ≡ numbers list → b ≡ chars glyphs
    → AnswersFirst result (numbers_answer shape (products_at f (λ x y. item_of_chars g false) count columns)) → AnswersFirst result (numbers_answer shape (inner_at f g a b count columns))
unlike_numbers f g shape count columns result a b list glyphs is_a is_b answers =
    subst (λ (x : PlainItems). AnswersFirst result (numbers_answer shape (inner_at f g x b count columns))) (sym is_a)
    (subst (λ (x : PlainItems). AnswersFirst result (numbers_answer shape (inner_at f g (numbers list) x count columns))) (sym is_b) answers)

pub unlike_chars : (f g : Dyad) (shape : List ℕ) (count columns : ℕ) (result : Result PlainArray Fail) (a b : PlainItems) (glyphs : List ℕ) (list : List ℤ) → a ≡ chars glyphs → b ≡ numbers list
    → AnswersFirst result (numbers_answer shape (products_at f (λ x y. item_of_chars g false) count columns)) → AnswersFirst result (numbers_answer shape (inner_at f g a b count columns))
unlike_chars f g shape count columns result a b glyphs list is_a is_b answers =
    subst (λ (x : PlainItems). AnswersFirst result (numbers_answer shape (inner_at f g x b count columns))) (sym is_a)
    (subst (λ (x : PlainItems). AnswersFirst result (numbers_answer shape (inner_at f g (chars glyphs) x count columns))) (sym is_b) answers)
