use Rattle.std.specs.Prelude.{◌&&◌, ◌||◌, ℕ, ℤ, Bool, List, Option, not}
use Rattle.apl_verbs.specs.declared.verb.Monad.{Monad}
use Rattle.apl_verbs.specs.declared.verb.Dyad.{Dyad}
use Rattle.apl_arrays.specs.Array.{PlainArray, PlainItems, is_chars, numbers_in, element_count}
use Rattle.apl_items.specs.Answers.{ArrayResult, no_faults, answer_of}
use Rattle.apl_items.specs.Extension.{number_at, item_at, ranks_differ, shapes_differ, leader}
use Rattle.apl_items.specs.Places.{lacks_item, numbers_by}
use Rattle.apl_scalar.specs.Table.{monadic_item, pair_item, takes_chars}

-- the item of a monadic function at a place of its argument
abbrev pub monadic_at : Monad → List ℤ → ℕ → Option ℤ
monadic_at f list place = monadic_item f (number_at list place)

-- the item of a dyadic function at a place of its result
abbrev pub dyadic_at : Dyad → PlainItems → PlainItems → ℕ → Option ℤ
dyadic_at f a b place = pair_item f (item_at a place) (item_at b place)

-- a monadic function: the shape of B, item by item
abbrev pub monadic_of : Monad → PlainArray → ArrayResult
monadic_of f b =
    let rule = monadic_at f (numbers_in b.items) in
    let bad_domain = is_chars b.items || lacks_item (element_count b.shape) rule in
    answer_of (record no_faults { bad_domain = bad_domain }) (numbers_by b.shape rule)

-- the kind of an argument is unfit, also where it is empty
abbrev pub is_unfit : Dyad → PlainItems → PlainItems → Bool
is_unfit f a b = (is_chars a || is_chars b) && not (takes_chars f)

-- a dyadic function, item by item; a lone element stands for as many as the other array has
abbrev pub dyadic_of : Dyad → PlainArray → PlainArray → ArrayResult
dyadic_of f a b =
    let shape = (leader a b).shape in
    let rule = dyadic_at f a.items b.items in
    let bad_domain = is_unfit f a.items b.items || lacks_item (element_count shape) rule in
    answer_of (record no_faults { bad_rank = ranks_differ a b; bad_length = shapes_differ a b; bad_domain = bad_domain }) (numbers_by shape rule)
