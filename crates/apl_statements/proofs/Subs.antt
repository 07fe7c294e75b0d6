-- Subscripts are taken one after another.
use Rattle.std.proofs.Common.{◌≡◌, ℕ, ◌+◌, ◌<◌, true, false, List, [], ◌∷◌, ◌++◌, length, take, get_or, refl, sym, ap, ◌∙◌}
use Rattle.std.specs.Prelude.{Option, Some, None, is_some, map, option_map, option_to_list, reverse}
use Rattle.std.proofs.lemmas.List.{take_more}
use Rattle.apl_arrays.specs.Array.{PlainArray}
use Rattle.apl_workspace.specs.Workspace.{PlainWorkspace}
use Rattle.apl_meaning.specs.Nodes.{Popped, popped, with_sub}
use Rattle.apl_values.specs.declared.values.StackValue.{StackValue}
use Rattle.apl_values.specs.Values.{stack_value}
use Rattle.apl_statements.specs.declared.evaluation.Evaluation.{Evaluation}
use Rattle.apl_statements.specs.Holding.{stack_values, parts_of}
use Rattle.apl_statements.proofs.Held.{taken_one, taken_where}

-- subscripts, and then one more
abbrev pub one_more : Popped → Popped → Popped
one_more first second = record { subs = first.subs ++ second.subs; values = second.values }

pub popped_more : (places : List (Option ℕ)) (p : Option ℕ) (values : List PlainArray) → popped (places ++ p ∷ []) values ≡ one_more (popped places values) (popped (p ∷ []) (popped places values).values)
popped_more [] p values = refl
popped_more (None ∷ places) p values = ap (with_sub None) (popped_more places p values)
popped_more (Some k ∷ places) p [] = ap (with_sub None) (popped_more places p [])
popped_more (Some k ∷ places) p (v ∷ values) = ap (with_sub (Some v)) (popped_more places p values)

pub no_values : (w : PlainWorkspace) (e : Evaluation) → e.values.items ≡ [] → stack_values w e ≡ []
no_values w e none = ap (λ (hs : List StackValue). reverse (map (stack_value w (parts_of e)) hs)) none

-- the subscript of one place is the value that was taken for it, if one is given
pub sub_taken : (w : PlainWorkspace) (before after : Evaluation) (p : Option ℕ) (sub : Option StackValue)
    → after ≡ record before { values = after.values } → before.values.items ≡ after.values.items ++ option_to_list sub
    → (is_some p ≡ false → sub ≡ None) → (is_some p ≡ true → sub ≡ None → before.values.items ≡ [])
    → popped (p ∷ []) (stack_values w before) ≡ record { subs = option_map (stack_value w (parts_of before)) sub ∷ []; values = stack_values w after }
sub_taken w before after None None same items omitted given = ap (λ (values : List PlainArray). popped (None ∷ []) values) (taken_where w before after None same items)
sub_taken w before after None (Some h) same items omitted given = absurd (let no : Some h ≡ None = omitted refl in cc)
sub_taken w before after (Some k) None same items omitted given =
    let none : stack_values w before ≡ [] = no_values w before (given refl refl) in
    let left : stack_values w after ≡ [] = sym (taken_where w before after None same items) ∙ none in
    ap (λ (values : List PlainArray). popped (Some k ∷ []) values) none ∙ ap (λ (values : List PlainArray). record { subs = None ∷ []; values = values }) (sym left)
sub_taken w before after (Some k) (Some h) same items omitted given = ap (λ (values : List PlainArray). popped (Some k ∷ []) values) (taken_one w before after h same items)

-- the subscripts so far, and one more
pub sub_more : (w : PlainWorkspace) (first before after : Evaluation) (places : List (Option ℕ)) (i : ℕ) (d : Option ℕ) (sub : Option StackValue) → i < length places → stack_values w before ≡ (popped (take i places) (stack_values w first)).values
    → after ≡ record before { values = after.values } → before.values.items ≡ after.values.items ++ option_to_list sub → (is_some (get_or places i d) ≡ false → sub ≡ None) → (is_some (get_or places i d) ≡ true → sub ≡ None → before.values.items ≡ [])
    → popped (take (i + 1) places) (stack_values w first) ≡ record { subs = (popped (take i places) (stack_values w first)).subs ++ option_map (stack_value w (parts_of before)) sub ∷ []; values = stack_values w after }
sub_more w first before after places i d sub lt rest same items omitted given =
    let so_far : Popped = popped (take i places) (stack_values w first) in
    let p : Option ℕ = get_or places i d in
    ap (λ (list : List (Option ℕ)). popped list (stack_values w first)) (take_more places i d lt)
    ∙ popped_more (take i places) p (stack_values w first)
    ∙ ap (λ (values : List PlainArray). one_more so_far (popped (p ∷ []) values)) (sym rest)
    ∙ ap (one_more so_far) (sub_taken w before after p sub same items omitted given)
