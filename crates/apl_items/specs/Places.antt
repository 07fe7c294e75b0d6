use Rattle.std.specs.Prelude.{◌≡◌, ◌/◌, ◌%◌, ◌<◌, ⊤, ℕ, ℤ, Bool, List, Option, Some, None, Result, Ok, Err, length, slice_get, is_none}
use Rattle.std.specs.List.{range_with_len, list_any, filter_map}
use Rattle.apl_arrays.specs.declared.report.Fail.{Fail}
use Rattle.apl_arrays.specs.declared.report.Fail.TheVariants as fail
use Rattle.apl_arrays.specs.declared.report.Report.TheVariants.{Domain}
use Rattle.apl_arrays.specs.Array.{PlainArray, numbers, element_count}
use Rattle.apl_arrays.specs.List.{Listed}
use Rattle.apl_items.specs.Answers.{Faults, shape_faults}

-- the places of so many items, in row-major order
abbrev pub places : ℕ → List ℕ
places count = range_with_len 0 count

-- the items that a rule gives, place by place
abbrev pub items_by : {T : Type 0} → ℕ → (ℕ → Option T) → List T
items_by count rule = filter_map rule (places count)

-- at some place the rule gives no item
abbrev pub lacks_item : {T : Type 0} → ℕ → (ℕ → Option T) → Bool
lacks_item count rule = list_any (λ place. is_none (rule place)) (places count)

-- the array of numbers that a rule gives, place by place
abbrev pub numbers_by : List ℕ → (ℕ → Option ℤ) → PlainArray
numbers_by shape rule = record { shape = shape; items = numbers (items_by (element_count shape) rule) }

-- what is wrong with a result whose numbers a rule gives: its shape, and DOMAIN where one is lacking
abbrev pub number_faults : List ℕ → (ℕ → Option ℤ) → Faults
number_faults shape rule = record (shape_faults shape) { bad_domain = lacks_item (element_count shape) rule }

-- each item is the one that the rule gives at its place
pub record IsByPlace {T : Type 0} (count : ℕ) (rule : ℕ → Option T) (items : List T) : Type 0 where
  pub whole : length items ≡ count
  pub each : (place : ℕ) → place < count → slice_get items place ≡ rule place

-- the rule gives no item at some place
abbrev pub LacksItem : {T : Type 0} → ℕ → (ℕ → Option T) → Type 0
LacksItem count rule = (place : ℕ) × (place < count) × (rule place ≡ None)

-- the rule gives an item at each of so many places
abbrev pub HasItems : {T : Type 0} → ℕ → (ℕ → Option T) → Type 0
HasItems {T} count rule = (place : ℕ) → place < count → (item : T) × (rule place ≡ Some item)

-- what a call by row and column answers at a place, where a row has so many places
abbrev pub AtPlace : {A : Type 0} → (ℕ → ℕ → A → Type 0) → ℕ → ℕ → A → Type 0
AtPlace answers columns place answer = answers (place / columns) (place % columns) answer

-- a call answers with an item at each of so many places
abbrev pub GivesEach : {T : Type 0} → ℕ → (ℕ → Option T → Type 0) → Type 0
GivesEach {T} count answers = (place : ℕ) → place < count → (item : T) × answers place (Some item)

-- the one report that a call gives is DOMAIN, and where it does, a fact holds
abbrev pub OnDomain : {T : Type 0} → Result T Fail → Type 0 → Type 0
OnDomain (Ok value) fact = ⊤
OnDomain (Err (fail.Report report)) fact = (report ≡ Domain) × fact
OnDomain (Err fail.WantOfMemory) fact = ⊤

-- where a call ran out of memory, a fact holds
abbrev pub OnWantOfMemory : {T : Type 0} → Result T Fail → Type 0 → Type 0
OnWantOfMemory (Ok value) fact = ⊤
OnWantOfMemory (Err (fail.Report report)) fact = ⊤
OnWantOfMemory (Err fail.WantOfMemory) fact = fact

-- the items by place, or DOMAIN where the rule gives none
abbrev pub MakesItems : {T : Type 0} → Result (Listed T) Fail → ℕ → (ℕ → Option T) → Type 0
MakesItems (Ok list) count rule = IsByPlace count rule list.items
MakesItems (Err (fail.Report report)) count rule = (report ≡ Domain) × LacksItem count rule
MakesItems (Err fail.WantOfMemory) count rule = ⊤

-- whatever a call answers at one of so many places is what a definition gives there
abbrev pub Follows : {A : Type 0} → (ℕ → A → Type 0) → ℕ → (ℕ → A) → Type 0
Follows {A} answers count rule = (place : ℕ) (answer : A) → place < count → answers place answer → answer ≡ rule place
