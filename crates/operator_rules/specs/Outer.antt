use Rattle.std.specs.Prelude.{◌/◌, ◌%◌, ◌++◌, ℕ, ℤ, Option}
use Rattle.apl_verbs.specs.declared.verb.Dyad.{Dyad}
use Rattle.apl_arrays.specs.Array.{PlainArray, PlainItems, item_count}
use Rattle.apl_items.specs.Answers.{ArrayResult}
use Rattle.apl_scalar.specs.Table.{pair_item}
use Rattle.operator_rules.specs.Gathering.{numbers_answer}
use Rattle.operator_rules.specs.Reduction.{item_in}

-- the item at a place of all pairs: those of the first item of A come first
abbrev pub outer_at : Dyad → PlainItems → PlainItems → ℕ → Option ℤ
outer_at f a b place = pair_item f (item_in a (place / item_count b)) (item_in b (place % item_count b))

-- each item of A with each of B; the shape is that of A, then that of B
abbrev pub outer_product_of : Dyad → PlainArray → PlainArray → ArrayResult
outer_product_of f a b = numbers_answer (a.shape ++ b.shape) (outer_at f a.items b.items)
