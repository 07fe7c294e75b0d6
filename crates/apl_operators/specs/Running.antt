use Rattle.std.specs.Prelude.{◌≡◌, ◌+◌, ◌*◌, ◌^◌, ◌-◌, ◌<◌, ◌≤◌, All, ℕ, ℤ, pos, Bool, true, false, List, Option, Some, length, slice_get, slice_index_or, max, unsigned_abs}
use Rattle.std.specs.Int.{int_wrapping_add, w64}
use Rattle.apl_verbs.specs.declared.verb.Dyad.{Dyad}
use Rattle.apl_verbs.specs.declared.verb.Dyad.TheVariants.{And, Maximum, Minimum, Or}
use Rattle.apl_items.specs.declared.shapes.Split.{Split}
use Rattle.apl_items.specs.Places.{LacksItem}
use Rattle.apl_items.specs.Shapes.{along_of, inner_of, outer_of, place_along}
use Rattle.apl_scalar.specs.Table.{item_where}
use Rattle.operator_rules.specs.Reduction.{Joins, front_of_line, joined, reduction}

-- the reduction of the front of a line of numbers, up to a place
abbrev pub front_at : (ℤ → ℤ → Option ℤ) → List ℤ → Split → ℕ → Option ℤ
front_at join list split place = front_of_line join list split (outer_of split place) (inner_of split place) (along_of split place)

-- how many places a row has
abbrev pub row_length : Split → ℕ
row_length split = split.along * split.inner

-- each item follows from the one before it on its line: the first is that of the list, and each other is joined with that of the
-- list
pub record Runs {T : Type 0} (join : T → T → Option T) (list : List T) (split : Split) (item : ℕ → Option T) : Type 0 where
  pub first : (outer at : ℕ) → outer < split.outer → at < split.inner → item (outer * row_length split + at) ≡ slice_get list (outer * row_length split + at)
  pub next : (outer at : ℕ) → outer < split.outer → split.inner ≤ at → at < row_length split
      → item (outer * row_length split + at) ≡ joined join (item (outer * row_length split + at - split.inner)) (slice_get list (outer * row_length split + at))

-- so many items are those of any definition that joins as the calls do and runs on
abbrev pub RunsTo : {T : Type 0} → (T → T → Option T → Type 0) → List T → Split → ℕ → List T → Type 0
RunsTo {T} joins list split count made =
    (by : T → T → Option T) (item : ℕ → Option T) → Joins joins by → Runs by list split item → (k : ℕ) → k < count → slice_get made k ≡ item k

-- of any definition that joins as the calls do and runs on an item is lacking
abbrev pub BreaksOff : {T : Type 0} → (T → T → Option T → Type 0) → List T → Split → Type 0
BreaksOff {T} joins list split = (by : T → T → Option T) (item : ℕ → Option T) → Joins joins by → Runs by list split item → LacksItem (length list) item

-- a function of which any grouping gives the same item, or none
abbrev pub is_grouped : Dyad → Bool
is_grouped Maximum = true
is_grouped Minimum = true
is_grouped And = true
is_grouped Or = true
is_grouped _ = false

-- ---- sums of small numbers

-- so many magnitudes that are as great as any of the list have a sum of 63 bits
abbrev pub AreSmall : List ℤ → ℕ → Type 0
AreSmall list count = (most : ℕ) × All (λ number. unsigned_abs number ≤ most) list × (most * count < 2 ^ 63)

-- what is left of a sum in 64 bits
abbrev pub wrapped_sum : ℤ → ℤ → Option ℤ
wrapped_sum a b = Some (int_wrapping_add w64 a b)

-- ---- weights, by which sums and products are bounded

-- the weight of a term of a sum: its magnitude, where it has 63 bits
abbrev pub term_weight : ℤ → Option ℤ
term_weight number = item_where true (pos (unsigned_abs number))

-- the weight of a factor of a product: its magnitude, where it has 63 bits, and 1 for 0
abbrev pub factor_weight : ℤ → Option ℤ
factor_weight number = item_where true (pos (max 1 (unsigned_abs number)))

-- the reduction of the weights of the numbers on a line
abbrev pub weight_on : (ℤ → Option ℤ) → (ℤ → ℤ → Option ℤ) → List ℤ → Split → ℕ → ℕ → Option ℤ
weight_on weigh join list split outer inner = reduction join (λ along. weigh (slice_index_or list (place_along split outer along inner) (pos 0))) 0 (split.along - 1)

-- whatever a call answers at a number is what a definition gives there
abbrev pub Weighs : (ℤ → Option ℤ → Type 0) → (ℤ → Option ℤ) → Type 0
Weighs answers weigh = (number : ℤ) (answer : Option ℤ) → answers number answer → answer ≡ weigh number
