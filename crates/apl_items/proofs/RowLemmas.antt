-- Items made row by row are the items made place by place.
use Rattle.std.proofs.Common.{◌≡◌, ℕ, zero, suc, ◌+◌, ◌*◌, ◌%◌, ◌<◌, ◌≤◌, List, [], ◌∷◌, ◌++◌, Option, Some, None, Result, Ok, Err, true, false, is_some, length, slice_get, ◌⊎◌, inl, inr, refl, sym, ap, subst, ◌∙◌, arith}
use Rattle.std.proofs.lemmas.Bool.{cases_lt}
use Rattle.std.proofs.lemmas.Nat.{div-mul-add, mod-mul-add, mul-add-lt}
use Rattle.std.proofs.Math.Nat.{mul_comm}
use Rattle.apl_arrays.specs.declared.report.Fail.{Fail}
use Rattle.apl_arrays.specs.declared.report.Fail.TheVariants as fail
use Rattle.apl_items.specs.Places.{AtPlace, GivesEach, OnWantOfMemory}

-- a place of a row is a place of all rows
pub at_place : {A : Type 0} (answers : ℕ → ℕ → A → Type 0) (columns row column : ℕ) (answer : A) → column < columns
    → answers row column answer → AtPlace answers columns (row * columns + column) answer
at_place answers columns row column answer inside told =
    subst (λ (r : ℕ). answers r ((row * columns + column) % columns) answer) (sym (div-mul-add row columns column inside))
    (subst (λ (k : ℕ). answers row k answer) (sym (mod-mul-add row columns column inside)) told)

pub place_below : (rows columns row column : ℕ) → row < rows → column < columns → row * columns + column < rows * columns
place_below rows columns row column p q = let turned = mul_comm rows columns in omega (arith, mul-add-lt row columns column rows p q)

-- a place of the only row
pub in_one_row : {A : Type 0} (answers : ℕ → A → Type 0) (columns place : ℕ) (answer : A) → place < columns → answers (place % columns) answer → answers place answer
in_one_row {A} answers columns place answer inside told =
    let same : 0 * columns + place ≡ place = omega arith in
    let back : place % columns ≡ place = sym (ap (λ (n : ℕ). n % columns) same) ∙ mod-mul-add 0 columns place inside in
    subst (λ (k : ℕ). answers k answer) back told

-- a fact about a call that ran out of memory follows from another
pub weaker_want : {T : Type 0} (result : Result T Fail) (p q : Type 0) → (p → q) → OnWantOfMemory result p → OnWantOfMemory result q
weaker_want (Ok x) p q then h = tt
weaker_want (Err (fail.Report report)) p q then h = tt
weaker_want (Err fail.WantOfMemory) p q then h = then h

-- ---- one item more

pushed_last : {T : Type 0} (items : List T) (item : T) → slice_get (items ++ item ∷ []) (length items) ≡ Some item
pushed_last [] item = refl
pushed_last (x ∷ items) item = pushed_last items item

pushed_before : {T : Type 0} (items : List T) (item : T) (k : ℕ) → k < length items → slice_get (items ++ item ∷ []) k ≡ slice_get items k
pushed_before [] item k h = absurd (omega arith)
pushed_before (x ∷ items) item zero h = refl
pushed_before (x ∷ items) item (suc k) h = pushed_before items item k (omega arith)

pub each_more : {T : Type 0} (answers : ℕ → Option T → Type 0) (count next : ℕ) (items more : List T) (item : T) → length items ≡ count → next ≡ count + 1
    → more ≡ items ++ item ∷ [] → ((k : ℕ) → k < count → answers k (slice_get items k)) → answers count (Some item)
    → (k : ℕ) → k < next → answers k (slice_get more k)
each_more {T} answers count next items more item long is_next is each now k below =
    subst (λ (list : List T). answers k (slice_get list k)) (sym is) (at_each (cases_lt k count))
  where
    at_each : (k < count) ⊎ (count ≤ k) → answers k (slice_get (items ++ item ∷ []) k)
    at_each (inl h) = subst (λ (o : Option T). answers k o) (sym (pushed_before items item k (omega arith))) (each k h)
    at_each (inr h) =
        let same : length items ≡ k = omega arith in
        let here : count ≡ k = omega arith in
        subst (λ (n : ℕ). answers k (slice_get (items ++ item ∷ []) n)) same
        (subst (λ (o : Option T). answers k o) (sym (pushed_last items item)) (subst (λ (n : ℕ). answers n (Some item)) here now))

-- ---- items that are looked at, and not stored

-- an answer that is no item is none
pub is_no_item : {T : Type 0} (answers : ℕ → Option T → Type 0) (place : ℕ) (answer : Option T) → is_some answer ≡ false → answers place answer → answers place None
is_no_item answers place (Some x) e told = absurd (cc)
is_no_item answers place None e told = told

-- an item is given at one place more
pub gives_more : {T : Type 0} (answers : ℕ → Option T → Type 0) (count next : ℕ) (answer : Option T) → next ≡ count + 1 → is_some answer ≡ true
    → GivesEach count answers → answers count answer → GivesEach next answers
gives_more answers count next None is_next e each now = absurd (cc)
gives_more {T} answers count next (Some item) is_next e each now = λ k below. at_each k below (cases_lt k count)
  where
    at_each : (k : ℕ) → k < next → (k < count) ⊎ (count ≤ k) → (x : T) × answers k (Some x)
    at_each k below (inl h) = each k h
    at_each k below (inr h) = let here : count ≡ k = omega arith in (item, subst (λ (n : ℕ). answers n (Some item)) here now)
