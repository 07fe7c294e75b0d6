-- Items of a value are replaced, and values that were got.
use Rattle.std.proofs.Common.{◌≡◌, ◌<◌, ◌≤◌, ◌+◌, ◌-◌, ℕ, Bool, true, false, cond, List, [], ◌∷◌, length, refl, sym, ap, subst, ◌∙◌, arith}
use Rattle.std.specs.Prelude.{Option, Some, None, Result, Ok, Err, IfErr, IfOk, IsOk, is_ok, count_by, if◌then◌else◌, is_some, map, nat_lt}
use Rattle.std.proofs.lemmas.Bool.{false≢true}
use Rattle.std.proofs.lemmas.Bool.Decides.{nat_tests}
use Rattle.std.proofs.lemmas.List.{length-map, length-reverse}
use Rattle.std.proofs.lemmas.List.Sums.{sum_by-cons}
use Rattle.apl_arrays.specs.Array.{PlainArray}
use Rattle.apl_arrays.specs.declared.report.Fail.{Fail}
use Rattle.apl_arrays.specs.declared.report.Fail.TheVariants as fail
use Rattle.apl_arrays.specs.declared.report.Report.{Report}
use Rattle.apl_arrays.specs.declared.report.Report.TheVariants.{Syntax, Value}
use Rattle.apl_items.specs.Answers.{ArrayResult, Answers}
use Rattle.apl_items.specs.Places.{OnWantOfMemory}
use Rattle.apl_selection.specs.Assignment.{assign_of}
use Rattle.apl_workspace.specs.Workspace.{PlainWorkspace, is_assignable, look}
use Rattle.apl_workspace.specs.declared.meaning.Meaning.{Meaning}
use Rattle.apl_workspace.specs.declared.meaning.Meaning.TheVariants as meaning
use Rattle.apl_meaning.specs.Answers.{got, with_copy}
use Rattle.apl_meaning.specs.Expressions.{Found, valued}
use Rattle.apl_meaning.specs.Nodes.{Values, items_step, leaving_values, popped}
use Rattle.apl_meaning.specs.State.{State, Outcome, gives, refuses, and_then, outcome_of}
use Rattle.apl_meaning.specs.Variables.{assignment}
use Rattle.apl_values.specs.Pending.{act_asked_for, assigned_giving, replaced, replaces}
use Rattle.apl_values.specs.Values.{stack_value}
use Rattle.apl_statements.specs.declared.evaluation.Evaluation.{Evaluation}
use Rattle.apl_statements.specs.Evaluating.{caller_of, evaluation_of}
use Rattle.apl_statements.specs.Interpreter.{PlainInterpreter, here, state_at}
use Rattle.apl_statements.specs.Moves.{Comes, Coming, part_gives, part_takes}
use Rattle.apl_statements.specs.Stack.{carried_on, onward}
use Rattle.apl_statements.specs.Holding.{parts_of, stack_values}
use Rattle.apl_statements.proofs.Opened.{use_opens}
use Rattle.apl_statements.proofs.Same.{SameAt, at_once}
use Rattle.apl_statements.proofs.Steps.{grouped}
use Rattle.apl_statements.proofs.Taken.{items_take, items_where}
use Rattle.apl_subscripts.specs.Held.{IsReplacement, MayBeReplaced, behind_subs, replaced_by, subs_held}

-- items of the value that a name has
pub value_replaced : (m : PlainInterpreter) (e : Evaluation) (name : List ℕ) (subs : List (Option PlainArray)) (right old : PlainArray) → SameAt m (part_gives m e (items_where (meaning.Value old) name subs right)) (part_gives m e (replaced name subs right old))
value_replaced m e name subs right old asked count taken further =
    let s : State = state_at m asked count taken further in
    ap (λ (o : Outcome Found). carried_on o (caller_of m.workspace (here m) e) m.stack) (grouped (outcome_of (assign_of old subs right) s) (λ new t. assignment name new t) (λ _ t. gives (Some right) t))

-- the new value is assigned
pub replaced_as : (m : PlainInterpreter) (e : Evaluation) (name : List ℕ) (subs : List (Option PlainArray)) (right old new : PlainArray) → assign_of old subs right ≡ Ok new → SameAt m (part_gives m e (replaced name subs right old)) (part_gives m e (assigned_giving name new right))
replaced_as m e name subs right old new is asked count taken further =
    let s : State = state_at m asked count taken further in
    ap (λ (a : ArrayResult). carried_on (and_then (outcome_of a s) (λ new t. assigned_giving name new right t)) (caller_of m.workspace (here m) e) m.stack) is

-- items that are not replaced end the line
pub replaced_ends : (m : PlainInterpreter) (e : Evaluation) (name : List ℕ) (subs : List (Option PlainArray)) (right old : PlainArray) (why : Fail) → Answers (Err why) (assign_of old subs right) → Comes m (part_gives m e (replaced name subs right old)) 0 m (Err why)
replaced_ends m e name subs right old (fail.Report report) is =
    at_once m (part_gives m e (replaced name subs right old)) (λ s. refuses report s) (λ asked count taken further.
    ap (λ (a : ArrayResult). carried_on (and_then (outcome_of a (state_at m asked count taken further)) (λ new t. assigned_giving name new right t)) (caller_of m.workspace (here m) e) m.stack) is)
replaced_ends m e name subs right old fail.WantOfMemory is = tt

-- items of a shared name: its use is open
pub items_open : (m : PlainInterpreter) (e after : Evaluation) (name : List ℕ) (places : List (Option ℕ)) (subs : List (Option PlainArray)) (right : PlainArray) (copy : Option PlainArray) → after ≡ record e { values = after.values }
    → subs ≡ (popped places (stack_values m.workspace e)).subs → (popped places (stack_values m.workspace e)).values ≡ right ∷ stack_values m.workspace after → look m.workspace name ≡ meaning.Shared copy
    → SameAt m (part_takes m e (λ values. items_step name (popped places values).subs (popped places values).values)) (part_gives m after (act_asked_for (replaces name subs right)))
items_open m e after name places subs right copy same subs_are rest is asked count taken further =
    let s : State = state_at m asked count taken further in
    items_take m e after name places subs right s same subs_are rest
    ∙ ap (λ (o : Outcome Found). carried_on o (caller_of m.workspace (here m) after) m.stack) (use_opens name subs right copy s is)

-- ---- a value that was got

pub got_as : (m : PlainInterpreter) (e : Evaluation) (name : List ℕ) (found : Option PlainArray) (value : PlainArray) → found ≡ Some value
    → SameAt m (part_gives m e (λ s. valued (got name found s))) (part_gives m e (λ s. and_then (with_copy name value s) (λ _ t. gives (Some value) t)))
got_as m e name found value is asked count taken further =
    let s : State = state_at m asked count taken further in
    ap (λ (o : Option PlainArray). carried_on (valued (got name o s)) (caller_of m.workspace (here m) e) m.stack) is
    ∙ ap (λ (o : Outcome Found). carried_on o (caller_of m.workspace (here m) e) m.stack) (grouped (with_copy name value s) (λ _ t. gives value t) (λ v t. gives (Some v) t))

-- ---- items of a name that stands for nothing

step_of_nothing : (name : List ℕ) (subs : List (Option PlainArray)) (values : List PlainArray) (s : State) → look s.workspace name ≡ meaning.Nothing → items_step name subs values s ≡ refuses Value s
step_of_nothing name subs [] s is = refl
step_of_nothing name subs (right ∷ values) s is = ap (λ (seen : Meaning). leaving_values values (items_where seen name subs right s)) is

-- the line ends, whatever the values are
pub items_of_nothing : (m : PlainInterpreter) (e : Evaluation) (name : List ℕ) (places : List (Option ℕ)) → look m.workspace name ≡ meaning.Nothing
    → Comes m (part_takes m e (λ values. items_step name (popped places values).subs (popped places values).values)) 0 m (Err (fail.Report Value))
items_of_nothing m e name places is =
    at_once m (part_takes m e (λ values. items_step name (popped places values).subs (popped places values).values)) (λ s. refuses Value s) (λ asked count taken further.
    let all : List PlainArray = stack_values m.workspace e in
    ap (λ (o : Outcome Values). and_then o (λ values t. onward (record (evaluation_of m.workspace e) { values = values }) m.stack t))
    (step_of_nothing name (popped places all).subs (popped places all).values (state_at m asked count taken further) is))

-- ---- items of a label or a function

below : (a b : ℕ) → nat_lt a b ≡ true → a < b
below a b e = grind (arith, nat_tests)

not_below : (a b : ℕ) → nat_lt a b ≡ false → b ≤ a
not_below a b e = grind (arith, nat_tests)

code_refused : (seen : Meaning) (name : List ℕ) (subs : List (Option PlainArray)) (right : PlainArray) (s : State) → is_assignable seen ≡ false → items_where seen name subs right s ≡ refuses Syntax s
code_refused meaning.Nothing name subs right s code = absurd (false≢true (sym code))
code_refused (meaning.Value value) name subs right s code = absurd (false≢true (sym code))
code_refused (meaning.Function function) name subs right s code = refl
code_refused (meaning.Label line) name subs right s code = refl
code_refused (meaning.Shared copy) name subs right s code = absurd (false≢true (sym code))

step_of_code : (name : List ℕ) (subs : List (Option PlainArray)) (values : List PlainArray) (s : State) → is_assignable (look s.workspace name) ≡ false → 0 < length values → items_step name subs values s ≡ refuses Syntax s
step_of_code name subs [] s code some = absurd (omega (arith, some))
step_of_code name subs (right ∷ values) s code some = ap (λ (o : Outcome Found). leaving_values values o) (code_refused (look s.workspace name) name subs right s code)

step_of_none : (name : List ℕ) (subs : List (Option PlainArray)) (values : List PlainArray) (s : State) → length values ≡ 0 → items_step name subs values s ≡ refuses Value s
step_of_none name subs [] s none = refl
step_of_none name subs (right ∷ values) s none = absurd (omega (arith, none))

-- as many values are taken as subscripts are given
popped_length : (places : List (Option ℕ)) (values : List PlainArray) → length (popped places values).values ≡ length values - count_by is_some places
popped_length [] values = omega arith
popped_length (None ∷ places) values =
    let rest : length (popped places values).values ≡ length values - count_by is_some places = popped_length places values in
    let one : count_by is_some (None ∷ places) ≡ 0 + count_by is_some places = sum_by-cons (λ (o : Option ℕ). cond (is_some o) 1 0) None places in
    omega (arith, rest, one)
popped_length (Some k ∷ places) [] =
    let rest : length (popped places []).values ≡ 0 - count_by is_some places = popped_length places [] in
    let one : count_by is_some (Some k ∷ places) ≡ 1 + count_by is_some places = sum_by-cons (λ (o : Option ℕ). cond (is_some o) 1 0) (Some k) places in
    omega (arith, rest, one)
popped_length (Some k ∷ places) (v ∷ values) =
    let rest : length (popped places values).values ≡ length values - count_by is_some places = popped_length places values in
    let one : count_by is_some (Some k ∷ places) ≡ 1 + count_by is_some places = sum_by-cons (λ (o : Option ℕ). cond (is_some o) 1 0) (Some k) places in
    omega (arith, rest, one)

step_by_count : (name : List ℕ) (places : List (Option ℕ)) (all : List PlainArray) (s : State) (b : Bool) → is_assignable (look s.workspace name) ≡ false → nat_lt (count_by is_some places) (length all) ≡ b
    → items_step name (popped places all).subs (popped places all).values s ≡ refuses (if b then Syntax else Value) s
step_by_count name places all s true code is =
    let more : count_by is_some places < length all = below (count_by is_some places) (length all) is in
    let left : length (popped places all).values ≡ length all - count_by is_some places = popped_length places all in
    step_of_code name (popped places all).subs (popped places all).values s code (omega (arith, more, left))
step_by_count name places all s false code is =
    let few : length all ≤ count_by is_some places = not_below (count_by is_some places) (length all) is in
    let left : length (popped places all).values ≡ length all - count_by is_some places = popped_length places all in
    step_of_none name (popped places all).subs (popped places all).values s (omega (arith, few, left))

-- no array
abbrev no_array : Option PlainArray
no_array = None

-- as many values as are held
many_held : (w : PlainWorkspace) (e : Evaluation) → length e.values.items ≡ length (stack_values w e)
many_held w e = sym (length-reverse (map (stack_value w (parts_of e)) e.values.items) ∙ length-map e.values.items (stack_value w (parts_of e)))

share_by_count : (given all : ℕ) (why : Fail) (b : Bool) → nat_lt given all ≡ b → Err why ≡ (if b then Ok no_array else Err (fail.Report Value)) → (why ≡ fail.Report Value) × (all ≤ given)
share_by_count given all why true is e = absurd (let no_report : Err why ≡ Ok no_array = e in cc)
share_by_count given all why false is e = let same : why ≡ fail.Report Value = cc in (same, not_below given all is)

some_by_count : (given all : ℕ) (made : Option PlainArray) (b : Bool) → nat_lt given all ≡ b → Ok made ≡ (if b then Ok no_array else Err (fail.Report Value)) → (made ≡ None) × (given < all)
some_by_count given all made true is e = let same : made ≡ None = cc in (same, below given all is)
some_by_count given all made false is e = absurd (let no_report : Ok made ≡ Err (fail.Report Value) = e in cc)

-- the line ends, by SYNTAX ERROR where there is a right side
pub items_of_code : (m : PlainInterpreter) (e : Evaluation) (name : List ℕ) (places : List (Option ℕ)) (why : Report) → is_assignable (look m.workspace name) ≡ false → why ≡ (if nat_lt (count_by is_some places) (length e.values.items) then Syntax else Value)
    → Comes m (part_takes m e (λ values. items_step name (popped places values).subs (popped places values).values)) 0 m (Err (fail.Report why))
items_of_code m e name places why code is =
    let all : List PlainArray = stack_values m.workspace e in
    let many : length e.values.items ≡ length all = many_held m.workspace e in
    let same : why ≡ (if nat_lt (count_by is_some places) (length all) then Syntax else Value) = is ∙ ap (λ (n : ℕ). if nat_lt (count_by is_some places) n then Syntax else Value) many in
    at_once m (part_takes m e (λ values. items_step name (popped places values).subs (popped places values).values)) (λ s. refuses why s) (λ asked count taken further.
    let s : State = state_at m asked count taken further in
    ap (λ (o : Outcome Values). and_then o (λ values t. onward (record (evaluation_of m.workspace e) { values = values }) m.stack t))
    (step_by_count name places all s (nat_lt (count_by is_some places) (length all)) code refl)
    ∙ ap (λ (r : Report). refuses r s) (sym same))

-- ---- items of a shared name, and of a value

-- what is told of a shared name
abbrev ToldOfShare : Evaluation → List (Option ℕ) → Result (Option PlainArray) Fail → Type 0
ToldOfShare e places told = told ≡ (if nat_lt (count_by is_some places) (length e.values.items) then Ok no_array else Err (fail.Report Value))

-- it has a right side, or the line ends by VALUE ERROR
pub share_ends : (m : PlainInterpreter) (e : Evaluation) (name : List ℕ) (places : List (Option ℕ)) (told : Result (Option PlainArray) Fail) → ToldOfShare e places told
    → IfErr told (λ why. Comes m (part_takes m e (λ values. items_step name (popped places values).subs (popped places values).values)) 0 m (Err why))
share_ends m e name places (Ok made) is = tt
share_ends m e name places (Err why) is =
    let coming : Coming = part_takes m e (λ values. items_step name (popped places values).subs (popped places values).values) in
    let all : List PlainArray = stack_values m.workspace e in
    let many : length e.values.items ≡ length all = many_held m.workspace e in
    let none = share_by_count (count_by is_some places) (length all) why (nat_lt (count_by is_some places) (length all)) refl (is ∙ ap (λ (n : ℕ). if nat_lt (count_by is_some places) n then Ok no_array else Err (fail.Report Value)) many) in
    let left : length (popped places all).values ≡ length all - count_by is_some places = popped_length places all in
    let few : length all ≤ count_by is_some places = none.1 in
    subst (λ (f : Fail). Comes m coming 0 m (Err f)) (sym none.0)
    (at_once m coming (λ s. refuses Value s) (λ asked count taken further.
    ap (λ (o : Outcome Values). and_then o (λ values t. onward (record (evaluation_of m.workspace e) { values = values }) m.stack t))
    (step_of_none name (popped places all).subs (popped places all).values (state_at m asked count taken further) (omega (arith, few, left)))))

shared_there : (copy : Option PlainArray) (subs : List (Option PlainArray)) (values : List PlainArray) → 0 < length values → MayBeReplaced (meaning.Shared copy) subs values
shared_there copy subs [] some = absurd (omega (arith, some))
shared_there copy subs (right ∷ values) some = tt

pub share_is_used : (m : PlainInterpreter) (e : Evaluation) (name : List ℕ) (places : List (Option ℕ)) (copy : Option PlainArray) (told : Result (Option PlainArray) Fail) → look m.workspace name ≡ meaning.Shared copy → ToldOfShare e places told
    → IfOk told (IsReplacement (look m.workspace name) (subs_held m.workspace e places) (behind_subs m.workspace e places))
share_is_used m e name places copy (Err why) seen is = tt
share_is_used m e name places copy (Ok made) seen is =
    let all : List PlainArray = stack_values m.workspace e in
    let many : length e.values.items ≡ length all = many_held m.workspace e in
    let more = some_by_count (count_by is_some places) (length all) made (nat_lt (count_by is_some places) (length all)) refl (is ∙ ap (λ (n : ℕ). if nat_lt (count_by is_some places) n then Ok no_array else Err (fail.Report Value)) many) in
    let left : length (popped places all).values ≡ length all - count_by is_some places = popped_length places all in
    let some : count_by is_some places < length all = more.1 in
    let there : MayBeReplaced (look m.workspace name) (subs_held m.workspace e places) (behind_subs m.workspace e places) =
    subst (λ (x : Meaning). MayBeReplaced x (subs_held m.workspace e places) (behind_subs m.workspace e places)) (sym seen)
    (shared_there copy (subs_held m.workspace e places) (behind_subs m.workspace e places) (omega (arith, some, left))) in
    subst (IsReplacement (look m.workspace name) (subs_held m.workspace e places) (behind_subs m.workspace e places)) (sym more.0) (copy, seen, there)

pub share_waits_not : (told : Result (Option PlainArray) Fail) (b : Bool) (fact : Type 0) → told ≡ (if b then Ok no_array else Err (fail.Report Value)) → OnWantOfMemory told fact
share_waits_not told true fact is = subst (λ (r : Result (Option PlainArray) Fail). OnWantOfMemory r fact) (sym is) tt
share_waits_not told false fact is = subst (λ (r : Result (Option PlainArray) Fail). OnWantOfMemory r fact) (sym is) tt

step_of_value : (name : List ℕ) (subs : List (Option PlainArray)) (values : List PlainArray) (old : PlainArray) (why : Report) (s : State) → look s.workspace name ≡ meaning.Value old → replaced_by old subs values ≡ Err why → items_step name subs values s ≡ refuses why s
step_of_value name subs [] old why s seen is = let same : Value ≡ why = cc in ap (λ (r : Report). refuses r s) same
step_of_value name subs (right ∷ values) old why s seen is =
    ap (λ (x : Meaning). leaving_values values (items_where x name subs right s)) seen
    ∙ ap (λ (a : ArrayResult). leaving_values values (and_then (and_then (outcome_of a s) (λ new t. assignment name new t)) (λ _ t. gives (Some right) t))) is

-- something is wrong with items of a value, and the line ends
pub value_ends : (m : PlainInterpreter) (e : Evaluation) (name : List ℕ) (places : List (Option ℕ)) (old : PlainArray) (why : Fail) → look m.workspace name ≡ meaning.Value old
    → Answers (Err why) (replaced_by old (subs_held m.workspace e places) (behind_subs m.workspace e places))
    → Comes m (part_takes m e (λ values. items_step name (popped places values).subs (popped places values).values)) 0 m (Err why)
value_ends m e name places old (fail.Report report) seen is =
    at_once m (part_takes m e (λ values. items_step name (popped places values).subs (popped places values).values)) (λ s. refuses report s) (λ asked count taken further.
    ap (λ (o : Outcome Values). and_then o (λ values t. onward (record (evaluation_of m.workspace e) { values = values }) m.stack t))
    (step_of_value name (subs_held m.workspace e places) (behind_subs m.workspace e places) old report (state_at m asked count taken further) seen is))
value_ends m e name places old fail.WantOfMemory seen is = tt

-- where memory runs out over them nothing is wrong
may_be_put : (old : PlainArray) (subs : List (Option PlainArray)) (values : List PlainArray) → IsOk (replaced_by old subs values) → MayBeReplaced (meaning.Value old) subs values
may_be_put old subs [] there = absurd (let none : is_ok (replaced_by old subs []) ≡ true = there in cc)
may_be_put old subs (right ∷ values) there = there

pub value_waits : (seen : Meaning) (old : PlainArray) (subs : List (Option PlainArray)) (values : List PlainArray) (why : Fail) → seen ≡ meaning.Value old → OnWantOfMemory {T = PlainArray} (Err why) (IsOk (replaced_by old subs values))
    → OnWantOfMemory {T = Option PlainArray} (Err why) (MayBeReplaced seen subs values)
value_waits seen old subs values (fail.Report report) is there = tt
value_waits seen old subs values fail.WantOfMemory is there = subst (λ (x : Meaning). MayBeReplaced x subs values) (sym is) (may_be_put old subs values there)
