use Rattle.std.specs.Prelude.{◌&&◌, ℕ, ℤ, Bool, List, Option, Some, None, if◌then◌else◌}
use Rattle.apl_arrays.specs.declared.items.Item.{Item}
use Rattle.apl_arrays.specs.declared.items.Item.TheVariants.{Number, Char}
use Rattle.apl_arrays.specs.Array.{PlainItems, numbers, chars, element_count}
use Rattle.apl_items.specs.Answers.{ArrayResult, answer_of, shape_faults}
use Rattle.apl_items.specs.Places.{items_by, lacks_item, number_faults, numbers_by}

-- ---- numbers

-- the array of the numbers that a rule gives, or what is wrong with it: DOMAIN where one is lacking
abbrev pub numbers_answer : List ℕ → (ℕ → Option ℤ) → ArrayResult
numbers_answer shape rule = answer_of (number_faults shape rule) (numbers_by shape rule)

-- ---- items of either kind

-- the number, where there is an item and it is one
abbrev pub number_in : Option Item → Option ℤ
number_in None = None
number_in (Some (Number n)) = Some n
number_in (Some (Char c)) = None

-- the character, where there is an item and it is one
abbrev pub char_in : Option Item → Option ℕ
char_in None = None
char_in (Some (Number n)) = None
char_in (Some (Char c)) = Some c

-- some place has no number
abbrev pub lacks_number : ℕ → (ℕ → Option Item) → Bool
lacks_number count rule = lacks_item count (λ place. number_in (rule place))

-- some place has no character
abbrev pub lacks_char : ℕ → (ℕ → Option Item) → Bool
lacks_char count rule = lacks_item count (λ place. char_in (rule place))

-- the items of one kind that a rule gives, place by place: numbers, where no place has another item, also where there is
-- no place; else characters
abbrev pub gathered_items : ℕ → (ℕ → Option Item) → PlainItems
gathered_items count rule =
    if lacks_number count rule then chars (items_by count (λ place. char_in (rule place)))
    else numbers (items_by count (λ place. number_in (rule place)))

-- the array of the items that a rule gives; DOMAIN where one is lacking, or where they are of both kinds
abbrev pub gathered : List ℕ → (ℕ → Option Item) → ArrayResult
gathered shape rule =
    let count = element_count shape in
    answer_of (record (shape_faults shape) { bad_domain = lacks_number count rule && lacks_char count rule }) (record { shape = shape; items = gathered_items count rule })
