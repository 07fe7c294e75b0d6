-- Subscripts that a statement holds, by their axes.
use Rattle.std.proofs.Common.{◌≡◌, ◌<◌, ◌+◌, ◌-◌, ◌||◌, ◌==◌, ℕ, zero, suc, Bool, true, false, not, cond, List, [], ◌∷◌, ◌++◌, get_or, length, map, take, refl, sym, ap, subst, ◌∙◌, arith, Bor}
use Rattle.std.specs.Prelude.{All, IsOk, Option, Some, None, Result, Ok, Err, count_by, drop, is_some, option_copied, reverse, slice_get, if◌then◌else◌}
use Rattle.std.proofs.lemmas.Bool.Decides.{nat_tests}
use Rattle.std.proofs.lemmas.List.{drop_all, length-map, map_push, places, same_lists, take-append-drop, take-map, take_more}
use Rattle.std.proofs.lemmas.List.Sums.{sum_by-cons}
use Rattle.apl_arrays.specs.Array.{PlainArray}
use Rattle.apl_arrays.specs.declared.report.Report.TheVariants.{Rank, Value}
use Rattle.apl_arrays.specs.declared.report.Fail.{Fail}
use Rattle.apl_arrays.specs.declared.report.Fail.TheVariants as fail
use Rattle.apl_items.specs.Answers.{ArrayResult, Answers, first_report}
use Rattle.apl_items.specs.Places.{OnWantOfMemory}
use Rattle.apl_meaning.specs.Nodes.{popped}
use Rattle.apl_selection.specs.Assignment.{assign_faults, assign_of}
use Rattle.apl_selection.specs.Indexing.{selection_of}
use Rattle.apl_selection.specs.Subscripts.{is_miscounted, sub_on}
use Rattle.apl_workspace.specs.Workspace.{PlainWorkspace}
use Rattle.apl_values.specs.declared.values.StackValue.{StackValue}
use Rattle.apl_values.specs.Values.{IsStackValue, stack_value}
use Rattle.apl_statements.specs.declared.evaluation.Evaluation.{Evaluation}
use Rattle.apl_statements.specs.Holding.{IsWithValues, parts_of, stack_values}
use Rattle.apl_statements.specs.Sound.{IsEvaluation}
use Rattle.apl_statements.proofs.Gives.{with_values_sound}
use Rattle.apl_statements.proofs.Taken.{all_front}
use Rattle.apl_workspace.specs.declared.meaning.Meaning.{Meaning}
use Rattle.apl_selection.proofs.WantLemmas.{array_is_ok}
use Rattle.apl_subscripts.specs.Held.{IsReplacement, MayBeReplaced, replaced_by}

-- ---- a subscript by its axis

one_given : (p : Option ℕ) (places : List (Option ℕ)) → count_by is_some (p ∷ places) ≡ cond (is_some p) 1 0 + count_by is_some places
one_given p places = sum_by-cons (λ (o : Option ℕ). cond (is_some o) 1 0) p places

-- one for each place
pub popped_count : (places : List (Option ℕ)) (values : List PlainArray) → length (popped places values).subs ≡ length places
popped_count [] values = refl
popped_count (None ∷ places) values = ap suc (popped_count places values)
popped_count (Some k ∷ places) [] = ap suc (popped_count places [])
popped_count (Some k ∷ places) (v ∷ values) = ap suc (popped_count places values)

no_subscript : (places : List (Option ℕ)) (axis : ℕ) → sub_on (popped places []).subs axis ≡ None
no_subscript [] axis = refl
no_subscript (None ∷ places) zero = refl
no_subscript (None ∷ places) (suc axis) = no_subscript places axis
no_subscript (Some k ∷ places) zero = refl
no_subscript (Some k ∷ places) (suc axis) = no_subscript places axis

-- where it is omitted there is none, else it is the value behind those of the axes before
pub sub_by_count : (places : List (Option ℕ)) (values : List PlainArray) (axis : ℕ) (d : Option ℕ) → axis < length places
    → sub_on (popped places values).subs axis ≡ (if is_some (get_or places axis d) then slice_get values (count_by is_some (take axis places)) else None)
sub_by_count [] values axis d lt = absurd (omega (arith, lt))
sub_by_count (None ∷ places) values zero d lt = refl
sub_by_count (Some k ∷ places) [] zero d lt = refl
sub_by_count (Some k ∷ places) (v ∷ values) zero d lt = refl
sub_by_count (None ∷ places) values (suc axis) d lt =
    let count : count_by is_some (None ∷ take axis places) ≡ count_by is_some (take axis places) = omega (arith, one_given None (take axis places)) in
    sub_by_count places values axis d (omega (arith, lt)) ∙ ap (λ (n : ℕ). if is_some (get_or places axis d) then slice_get values n else None) (sym count)
sub_by_count (Some k ∷ places) [] (suc axis) d lt = no_subscript places axis ∙ nothing (is_some (get_or places axis d)) (count_by is_some (Some k ∷ take axis places))
  where
    no_values : List PlainArray
    no_values = []

    nothing : (b : Bool) (n : ℕ) → None ≡ (if b then slice_get no_values n else None)
    nothing true n = refl
    nothing false n = refl
sub_by_count (Some k ∷ places) (v ∷ values) (suc axis) d lt =
    let count : count_by is_some (Some k ∷ take axis places) ≡ suc (count_by is_some (take axis places)) = omega (arith, one_given (Some k) (take axis places)) in
    sub_by_count places values axis d (omega (arith, lt)) ∙ ap (λ (n : ℕ). if is_some (get_or places axis d) then slice_get (v ∷ values) n else None) (sym count)

-- a subscript that is given, and one that is omitted
pub sub_there : (places : List (Option ℕ)) (values : List PlainArray) (axis : ℕ) (d : Option ℕ) (count : ℕ) (sub : Option PlainArray) → axis < length places → is_some (get_or places axis d) ≡ true → count ≡ count_by is_some (take axis places)
    → sub ≡ slice_get values count → sub ≡ sub_on (popped places values).subs axis
sub_there places values axis d count sub lt given is same =
    same ∙ ap (slice_get values) is
    ∙ sym (sub_by_count places values axis d lt ∙ ap (λ (b : Bool). if b then slice_get values (count_by is_some (take axis places)) else None) given)

pub sub_omitted : (places : List (Option ℕ)) (values : List PlainArray) (axis : ℕ) (d : Option ℕ) → axis < length places → is_some (get_or places axis d) ≡ false → None ≡ sub_on (popped places values).subs axis
sub_omitted places values axis d lt omitted = sym (sub_by_count places values axis d lt ∙ ap (λ (b : Bool). if b then slice_get values (count_by is_some (take axis places)) else None) omitted)

-- ---- subscripts that are lent

-- those so far, and one more
pub lent_more : (held : List (Option PlainArray)) (before after : List (Option (Bor PlainArray))) (sub : Option (Bor PlainArray)) (axis : ℕ) → axis < length held → map option_copied before ≡ take axis held
    → option_copied sub ≡ sub_on held axis → after ≡ before ++ sub ∷ [] → map option_copied after ≡ take (axis + 1) held
lent_more held before after sub axis lt so_far is more =
    ap (map option_copied) more
    ∙ map_push option_copied before sub
    ∙ ap (λ (list : List (Option PlainArray)). list ++ option_copied sub ∷ []) so_far
    ∙ ap (λ (o : Option PlainArray). take axis held ++ o ∷ []) is
    ∙ sym (take_more held axis None lt)

-- of another number than the array has axes
miscounted : (axes count : ℕ) → (count == axes) ≡ false → ((axes == 0) || not (count == axes)) ≡ true
miscounted axes count other = grind (arith, nat_tests)

are_miscounted : (shape : List ℕ) (places : List (Option ℕ)) (values : List PlainArray) → (length places == length shape) ≡ false → is_miscounted shape (popped places values).subs ≡ true
are_miscounted shape places values other = rw (popped_count places values) (miscounted (length shape) (length places) other)

pub no_selection : (b : PlainArray) (places : List (Option ℕ)) (values : List PlainArray) → (length places == length b.shape) ≡ false → selection_of b (popped places values).subs ≡ Err Rank
no_selection b places values other = rw (are_miscounted b.shape places values other) refl

pub none_replaced : (a right : PlainArray) (places : List (Option ℕ)) (values : List PlainArray) → (length places == length a.shape) ≡ false → assign_of a (popped places values).subs right ≡ Err Rank
none_replaced a right places values other = rw (are_miscounted a.shape places values other) refl

pub none_assigned : (a right : PlainArray) (subs : List (Option PlainArray)) → (length subs == length a.shape) ≡ false → assign_of a subs right ≡ Err Rank
none_assigned a right subs other = rw (miscounted (length a.shape) (length subs) other) refl

-- ---- what is left behind subscripts

no_others : (places : List (Option ℕ)) → (popped places []).values ≡ []
no_others [] = refl
no_others (None ∷ places) = no_others places
no_others (Some k ∷ places) = no_others places

pub popped_rest : (places : List (Option ℕ)) (values : List PlainArray) → (popped places values).values ≡ drop (count_by is_some places) values
popped_rest [] values = refl
popped_rest (None ∷ places) values =
    let count : count_by is_some (None ∷ places) ≡ count_by is_some places = omega (arith, one_given None places) in
    popped_rest places values ∙ ap (λ (n : ℕ). drop n values) (sym count)
popped_rest (Some k ∷ places) [] = no_others places ∙ sym (drop_all (count_by is_some (Some k ∷ places)) [] (omega arith))
popped_rest (Some k ∷ places) (v ∷ values) =
    let count : count_by is_some (Some k ∷ places) ≡ suc (count_by is_some places) = omega (arith, one_given (Some k) places) in
    popped_rest places values ∙ ap (λ (n : ℕ). drop n (v ∷ values)) (sym count)

-- the oldest values are the last ones, where the newest stand first
back : (list : List PlainArray) (newest : ℕ) → reverse (take (length list - newest) list) ≡ drop newest (reverse list)
back list newest = same_lists _ _ (grind (arith, places)) (λ k d h. grind (arith, places))

pub oldest : {A : Type 0} (f : A → PlainArray) (list : List A) (newest left : ℕ) → left ≡ length list - newest → reverse (map f (take left list)) ≡ drop newest (reverse (map f list))
oldest f list newest left is =
    ap reverse (sym (take-map f left list))
    ∙ ap (λ (n : ℕ). reverse (take n (map f list))) (is ∙ ap (λ (n : ℕ). n - newest) (sym (length-map list f)))
    ∙ back (map f list) newest

pub left_behind : (e after : Evaluation) (places : List (Option ℕ)) (left : ℕ) → left ≡ length e.values.items - count_by is_some places → IsWithValues e (take left e.values.items) after
    → (w : PlainWorkspace) → stack_values w after ≡ (popped places (stack_values w e)).values
left_behind e after places left is with w =
    ap (λ (x : Evaluation). reverse (map (stack_value w (parts_of x)) after.values.items)) with.same
    ∙ ap (λ (list : List StackValue). reverse (map (stack_value w (parts_of e)) list)) with.values
    ∙ oldest (stack_value w (parts_of e)) e.values.items (count_by is_some places) left is
    ∙ sym (popped_rest places (stack_values w e))

pub left_sound : (e after : Evaluation) (left : ℕ) → IsWithValues e (take left e.values.items) after → (w : PlainWorkspace) → IsEvaluation w e → IsEvaluation w after
left_sound e after left with w is =
    with_values_sound w e after (take left e.values.items) is
    (all_front (IsStackValue w (parts_of e)) (take left e.values.items) (drop left e.values.items) (subst (All (IsStackValue w (parts_of e))) (sym (take-append-drop left e.values.items)) is.values)) with

-- ---- the right side of an assignment to items

-- the first value that is left is the one behind the subscripts
pub left_first : (places : List (Option ℕ)) (values : List PlainArray) → slice_get (popped places values).values zero ≡ slice_get values (count_by is_some places)
left_first [] values = refl
left_first (None ∷ places) values =
    let count : count_by is_some (None ∷ places) ≡ count_by is_some places = omega (arith, one_given None places) in
    left_first places values ∙ ap (slice_get values) (sym count)
left_first (Some k ∷ places) [] = ap (λ (list : List PlainArray). slice_get list zero) (no_others places)
left_first (Some k ∷ places) (v ∷ values) =
    let count : count_by is_some (Some k ∷ places) ≡ suc (count_by is_some places) = omega (arith, one_given (Some k) places) in
    left_first places values ∙ ap (slice_get (v ∷ values)) (sym count)

-- without one items are not replaced
pub none_to_put : (old : PlainArray) (subs : List (Option PlainArray)) (values : List PlainArray) → None ≡ slice_get values zero → replaced_by old subs values ≡ Err Value
none_to_put old subs [] none = refl
none_to_put old subs (right ∷ values) none = absurd (let no_value : None ≡ Some right = none in cc)

-- with it they are
pub put_is : (old right : PlainArray) (subs : List (Option PlainArray)) (values : List PlainArray) → Some right ≡ slice_get values zero → assign_of old subs right ≡ replaced_by old subs values
put_is old right subs [] is = absurd (let no_value : Some right ≡ None = is in cc)
put_is old right subs (first ∷ values) is = let some : Some right ≡ Some first = is in let same : right ≡ first = cc in ap (assign_of old subs) same

-- where memory runs out over it no report is due
pub put_free : (old right : PlainArray) (subs : List (Option PlainArray)) (values : List PlainArray) (result : Result PlainArray Fail) → Some right ≡ slice_get values zero
    → OnWantOfMemory result (first_report (assign_faults old subs right) ≡ None) → OnWantOfMemory result (IsOk (replaced_by old subs values))
put_free old right subs values (Ok array) is free = tt
put_free old right subs values (Err (fail.Report report)) is free = tt
put_free old right subs values (Err fail.WantOfMemory) is free =
    subst (λ (r : ArrayResult). IsOk r) (put_is old right subs values is) (rw free refl)

-- and where items of it are told, they are those of the first value that is left
pub put_answers : (old right : PlainArray) (subs : List (Option PlainArray)) (values : List PlainArray) (result : Result PlainArray Fail) → Some right ≡ slice_get values zero → Answers result (assign_of old subs right) → Answers result (replaced_by old subs values)
put_answers old right subs values result is answer = subst (λ (r : ArrayResult). Answers result r) (put_is old right subs values is) answer

-- ---- what takes the place of a value

pub may_be_replaced : (seen : Meaning) (subs : List (Option PlainArray)) (values : List PlainArray) (made : Option PlainArray) → IsReplacement seen subs values made → MayBeReplaced seen subs values
may_be_replaced seen subs values None is = is.2
may_be_replaced seen subs [] (Some new) is = absurd (let none : Err Value ≡ Ok new = is.2 in cc)
may_be_replaced seen subs (right ∷ values) (Some new) is =
    subst (λ (x : Meaning). MayBeReplaced x subs (right ∷ values)) (sym is.1) (array_is_ok (assign_of is.0 subs right) new is.2)
