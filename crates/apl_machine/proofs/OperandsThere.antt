-- The arguments of a function where they stand among the values of a statement.
use Rattle.std.proofs.Common.{◌≡◌, ℕ, zero, suc, ◌+◌, ◌-◌, ◌≤◌, Bool, true, false, List, [], ◌∷◌, ◌++◌, length, take, drop, refl, sym, ap, subst, ◌∙◌, arith, length-drop, Bor, get_or}
use Rattle.std.specs.Prelude.{◌<◌, All, IfSome, Option, Some, None, if◌then◌else◌, is_some, option_to_list, slice_get}
use Rattle.std.specs.Option.{option_copied}
use Rattle.std.specs.Slice.{IsItemAt}
use Rattle.std.proofs.lemmas.List.{length-take, take-append-drop}
use Rattle.std.proofs.lemmas.List.Elements.{All-push}
use Rattle.std.proofs.lemmas.Option.{get_or_from_slice_get, slice_get_read, slice_get_within}
use Rattle.apl_values.proofs.Found.{found_at}
use Rattle.apl_workspace.specs.Workspace.{PlainWorkspace}
use Rattle.apl_arrays.specs.Array.{PlainArray}
use Rattle.apl_values.specs.declared.values.StackValue.{StackValue}
use Rattle.apl_values.specs.declared.values.StackValue.TheVariants as held
use Rattle.apl_values.specs.Values.{IsStackValue}
use Rattle.apl_statements.specs.declared.evaluation.Evaluation.{Evaluation}
use Rattle.apl_statements.specs.declared.evaluation.Operands.{Operands}
use Rattle.apl_statements.specs.Holding.{IsWithValues, parts_of}
use Rattle.apl_statements.specs.Operands.{operand_count, operand_list}
use Rattle.apl_statements.specs.Sound.{IsCaller, IsEvaluation}
use Rattle.apl_statements.proofs.Gives.{fewer_sound, with_values_sound}
use Rattle.apl_statements.proofs.Taken.{all_front}

-- an item behind others
behind_first : {A : Type 0} (xs : List A) (first k : ℕ) → slice_get xs (first + k) ≡ slice_get (drop first xs) k
behind_first xs zero k = let e : 0 + k ≡ k = omega arith in ap (slice_get xs) e
behind_first [] (suc first) k = refl
behind_first (x ∷ xs) (suc first) k =
    let e : suc first + k ≡ suc (first + k) = omega arith in
    ap (slice_get (x ∷ xs)) e ∙ behind_first xs first k

-- values are these arguments, and those are there that are asked for
pub record AreOperands (values : List StackValue) (has_left has_axis : Bool) (operands : Operands) : Type 0 where
  pub listed : values ≡ operand_list operands
  pub left : is_some operands.left ≡ has_left
  pub axis : is_some operands.axis ≡ has_axis

these : (first right : StackValue) (second axis third left : Option StackValue) (has_left has_axis : Bool) → Some first ≡ Some right → axis ≡ second → left ≡ third → is_some third ≡ has_left → is_some second ≡ has_axis
    → AreOperands (first ∷ (option_to_list second ++ option_to_list third)) has_left has_axis (record { left = left; axis = axis; right = right })
these first right second axis third left has_left has_axis is one two left_there axis_there =
    let same : first ≡ right = cc in
    record {
      listed = ap (λ (x : StackValue). x ∷ (option_to_list second ++ option_to_list third)) same ∙ ap (λ (o : Option StackValue). right ∷ (option_to_list o ++ option_to_list third)) (sym one) ∙ ap (λ (o : Option StackValue). right ∷ (option_to_list axis ++ option_to_list o)) (sym two);
      left = ap (λ (o : Option StackValue). is_some o) two ∙ left_there;
      axis = ap (λ (o : Option StackValue). is_some o) one ∙ axis_there;
    }

-- the right argument stands first, the axis behind it, and the left argument last
operands_in : (values : List StackValue) (has_left has_axis : Bool) (left axis : Option StackValue) (right : StackValue) → length values ≡ operand_count has_left has_axis → slice_get values 0 ≡ Some right
    → axis ≡ (if has_axis then slice_get values 1 else None) → left ≡ (if has_left then slice_get values (operand_count has_left has_axis - 1) else None) → AreOperands values has_left has_axis (record { left = left; axis = axis; right = right })
operands_in [] false false left axis right long is one two = absurd (omega (arith, long))
operands_in (r ∷ []) false false left axis right long is one two = these r right None axis None left false false is one two refl refl
operands_in (r ∷ x ∷ values) false false left axis right long is one two = absurd (omega (arith, long))
operands_in [] false true left axis right long is one two = absurd (omega (arith, long))
operands_in (r ∷ []) false true left axis right long is one two = absurd (omega (arith, long))
operands_in (r ∷ x ∷ []) false true left axis right long is one two = these r right (Some x) axis None left false true is one two refl refl
operands_in (r ∷ x ∷ y ∷ values) false true left axis right long is one two = absurd (omega (arith, long))
operands_in [] true false left axis right long is one two = absurd (omega (arith, long))
operands_in (r ∷ []) true false left axis right long is one two = absurd (omega (arith, long))
operands_in (r ∷ x ∷ []) true false left axis right long is one two = these r right None axis (Some x) left true false is one two refl refl
operands_in (r ∷ x ∷ y ∷ values) true false left axis right long is one two = absurd (omega (arith, long))
operands_in [] true true left axis right long is one two = absurd (omega (arith, long))
operands_in (r ∷ []) true true left axis right long is one two = absurd (omega (arith, long))
operands_in (r ∷ x ∷ []) true true left axis right long is one two = absurd (omega (arith, long))
operands_in (r ∷ x ∷ y ∷ []) true true left axis right long is one two = these r right (Some x) axis (Some y) left true true is one two refl refl
operands_in (r ∷ x ∷ y ∷ z ∷ values) true true left axis right long is one two = absurd (omega (arith, long))

some_there : (has_left has_axis : Bool) → 1 ≤ operand_count has_left has_axis
some_there false false = omega arith
some_there false true = omega arith
some_there true false = omega arith
some_there true true = omega arith

-- among the values of a statement they are the newest
pub operands_there : (values : List StackValue) (first : ℕ) (has_left has_axis : Bool) (left axis : Option StackValue) (right : StackValue) → first + operand_count has_left has_axis ≡ length values → slice_get values first ≡ Some right
    → axis ≡ (if has_axis then slice_get values (first + 1) else None) → left ≡ (if has_left then slice_get values (length values - 1) else None) → AreOperands (drop first values) has_left has_axis (record { left = left; axis = axis; right = right })
operands_there values first has_left has_axis left axis right long is one two =
    let some : 1 ≤ operand_count has_left has_axis = some_there has_left has_axis in
    let count : length (drop first values) ≡ operand_count has_left has_axis = omega (arith, length-drop first values, long) in
    let last : length values - 1 ≡ first + (operand_count has_left has_axis - 1) = omega (arith, some, long) in
    let none : first + 0 ≡ first = omega arith in
    operands_in (drop first values) has_left has_axis left axis right count (sym (behind_first values first 0) ∙ ap (slice_get values) none ∙ is)
    (one ∙ ap (λ (o : Option StackValue). if has_axis then o else None) (behind_first values first 1))
    (two ∙ ap (λ (o : Option StackValue). if has_left then o else None) (ap (slice_get values) last ∙ behind_first values first (operand_count has_left has_axis - 1)))

-- and the others stand before them
pub before_operands : (values : List StackValue) (first : ℕ) (has_left has_axis : Bool) (operands : Operands) → AreOperands (drop first values) has_left has_axis operands → values ≡ take first values ++ operand_list operands
before_operands values first has_left has_axis operands are = sym (take-append-drop first values) ∙ ap (λ (rest : List StackValue). take first values ++ rest) are.listed

-- ---- the arguments as they are lent

-- what holds of each value holds of the one at a place
held_at : {A : Type 0} (P : A → Type 0) (xs : List A) (k : ℕ) (found : Option A) → All P xs → slice_get xs k ≡ found → IfSome found P
held_at P xs k None all e = tt
held_at P xs k (Some x) all e = subst P (get_or_from_slice_get xs k x x e) (all k x (slice_get_within xs k x e))

held_if : {A : Type 0} (P : A → Type 0) (asked : Bool) (found : Option A) → IfSome found P → IfSome (if asked then found else None) P
held_if P true found held = held
held_if P false found held = tt

-- an argument that is asked for is held
pub asked_held : {A : Type 0} (P : A → Type 0) (xs : List A) (k : ℕ) (asked : Bool) (found given : Option A) → All P xs → found ≡ slice_get xs k → given ≡ (if asked then found else None) → IfSome given P
asked_held {A} P xs k asked found given all there is = subst (λ (o : Option A). IfSome o P) (sym is) (held_if P asked found (held_at P xs k found all (sym there)))

-- the first argument is below the last value
pub first_within : (count first : ℕ) (has_left has_axis : Bool) → first + operand_count has_left has_axis ≡ count → first < count
first_within count first has_left has_axis long = omega (arith, some_there has_left has_axis, long)

-- the arguments that are lent stand there
pub operands_lent : (values : List StackValue) (first : ℕ) (has_left has_axis : Bool) (last second : Option (Bor StackValue)) (left axis : Option StackValue) (right : StackValue) → first + operand_count has_left has_axis ≡ length values → right ≡ get_or values first right
    → option_copied last ≡ slice_get values (length values - 1) → IsItemAt values (first + 1) second → left ≡ (if has_left then option_copied last else None) → axis ≡ (if has_axis then option_copied second else None)
    → AreOperands (drop first values) has_left has_axis (record { left = left; axis = axis; right = right })
operands_lent values first has_left has_axis last second left axis right long is last_is second_is left_is axis_is =
    operands_there values first has_left has_axis left axis right long (slice_get_read values (length values) first right refl (first_within (length values) first has_left has_axis long) is)
    (axis_is ∙ ap (λ (o : Option StackValue). if has_axis then o else None) (found_at values (first + 1) second second_is))
    (left_is ∙ ap (λ (o : Option StackValue). if has_left then o else None) last_is)

-- a statement with its oldest values alone waits still
pub oldest_sound : (w : PlainWorkspace) (e under : Evaluation) (first : ℕ) → IsWithValues e (take first e.values.items) under → IsCaller w e → IsCaller w under
oldest_sound w e under first with is =
    let items : List StackValue = e.values.items in
    fewer_sound w e under with.same
    (subst (All (IsStackValue w (parts_of e))) (sym with.values)
    (all_front (IsStackValue w (parts_of e)) (take first items) (drop first items) (subst (All (IsStackValue w (parts_of e))) (sym (take-append-drop first items)) is.evaluation.values))) is

-- a statement with its oldest values alone
abbrev pub oldest : Evaluation → ℕ → Evaluation
oldest e first = record e { values = record e.values { items = take first e.values.items; len = length (take first e.values.items); ok = (refl, omega (arith, length-take first e.values.items)) } }

-- a statement whose newest values gave place to an array is one with its oldest values and the array
pub placed : (e after : Evaluation) (first : ℕ) (array : PlainArray) → IsWithValues e (take first e.values.items ++ held.Made array ∷ []) after → IsWithValues (oldest e first) ((oldest e first).values.items ++ held.Made array ∷ []) after
placed e after first array with = record { same = with.same; values = with.values }

-- its oldest values alone wait still
pub oldest_waits : (w : PlainWorkspace) (e : Evaluation) (first : ℕ) → IsCaller w e → IsCaller w (oldest e first)
oldest_waits w e first is = oldest_sound w e (oldest e first) first (record { same = refl; values = refl }) is

-- and with the array it is a statement
pub placed_sound : (w : PlainWorkspace) (e after : Evaluation) (first : ℕ) (array : PlainArray) → IsWithValues e (take first e.values.items ++ held.Made array ∷ []) after → IsCaller w e → IsEvaluation w after
placed_sound w e after first array with is =
    let waits : IsCaller w (oldest e first) = oldest_waits w e first is in
    with_values_sound w (oldest e first) after (take first e.values.items ++ held.Made array ∷ []) waits.evaluation
    (All-push (IsStackValue w (parts_of (oldest e first))) (take first e.values.items) (held.Made array) waits.evaluation.values refl) (placed e after first array with)
