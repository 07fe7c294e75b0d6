-- Values that a statement holds, before and after a change of the workspace, and behind a push.
use Rattle.std.proofs.Common.{◌≡◌, ℕ, Bool, false, List, [], ◌∷◌, ◌++◌, refl, sym, ap, ◌∙◌, append-nil}
use Rattle.std.specs.Prelude.{Option, Some, None, map, option_map, option_to_list, reverse}
use Rattle.std.proofs.lemmas.List.{map-append, reverse-append}
use Rattle.apl_arrays.specs.Array.{PlainArray}
use Rattle.apl_workspace.specs.Workspace.{PlainWorkspace}
use Rattle.apl_values.specs.declared.part.Part.{Part}
use Rattle.apl_values.specs.declared.values.StackValue.{StackValue}
use Rattle.apl_values.specs.declared.values.StackValue.TheVariants as held
use Rattle.apl_values.specs.Values.{IsStackValue, stack_value, settled}
use Rattle.apl_statements.specs.declared.evaluation.Evaluation.{Evaluation}
use Rattle.apl_statements.specs.Evaluating.{caller_of, evaluation_of, values_where}
use Rattle.apl_statements.specs.Stack.{PlainEvaluation, resumed}
use Rattle.apl_statements.specs.Holding.{IsWithValues, stack_values, parts_of}

-- a value is the same array when it is settled, on any workspace
pub settled_is : (w v : PlainWorkspace) (parts : List Part) (h : StackValue) → stack_value v parts (settled w h) ≡ stack_value w parts h
settled_is w v parts (held.Made array) = refl
settled_is w v parts (held.Constant at) = refl
settled_is w v parts (held.Named name) = refl

pub settled_all : (w v : PlainWorkspace) (parts : List Part) (hs : List StackValue) → map (stack_value v parts) (map (settled w) hs) ≡ map (stack_value w parts) hs
settled_all w v parts [] = refl
settled_all w v parts (h ∷ hs) = ap (λ (list : List PlainArray). stack_value v parts (settled w h) ∷ list) (settled_all w v parts hs) ∙ ap (λ (a : PlainArray). a ∷ map (stack_value w parts) hs) (settled_is w v parts h)

-- a value that is settled is an array on any workspace
pub settled_is_held : (w v : PlainWorkspace) (parts : List Part) (h : StackValue) → IsStackValue w parts h → IsStackValue v parts (settled w h)
settled_is_held w v parts (held.Made array) is = refl
settled_is_held w v parts (held.Constant at) is = is
settled_is_held w v parts (held.Named name) is = refl

-- the newest value is the first
pub newest_first : (w : PlainWorkspace) (parts : List Part) (hs : List StackValue) (h : StackValue) → reverse (map (stack_value w parts) (hs ++ h ∷ [])) ≡ stack_value w parts h ∷ reverse (map (stack_value w parts) hs)
newest_first w parts hs h = ap reverse (map-append (stack_value w parts) hs (h ∷ [])) ∙ reverse-append (map (stack_value w parts) hs) (stack_value w parts h ∷ [])

-- a statement with one value more is the statement that got it
pub pushed : (w : PlainWorkspace) (shown : List ℕ) (e after : Evaluation) (h : StackValue) → e.is_wanting ≡ false → IsWithValues e (e.values.items ++ h ∷ []) after → evaluation_of w after ≡ resumed (Some (stack_value w (parts_of e) h)) (caller_of w shown e)
pushed w shown e after h there is =
    let having : Bool → List PlainArray → PlainEvaluation = λ wanted values. record (evaluation_of w e) { values = values_where wanted values } in
    ap (evaluation_of w) is.same
    ∙ ap (λ (hs : List StackValue). having e.is_wanting (reverse (map (stack_value w (parts_of e)) hs))) is.values
    ∙ ap (λ (values : List PlainArray). having e.is_wanting values) (newest_first w (parts_of e) e.values.items h)
    ∙ ap (λ (wanted : Bool). having wanted (stack_value w (parts_of e) h ∷ stack_values w e)) there

-- the newest value is taken
pub taken_one : (w : PlainWorkspace) (e after : Evaluation) (h : StackValue) → after ≡ record e { values = after.values } → e.values.items ≡ after.values.items ++ h ∷ [] → stack_values w e ≡ stack_value w (parts_of e) h ∷ stack_values w after
taken_one w e after h same items =
    ap (λ (hs : List StackValue). reverse (map (stack_value w (parts_of e)) hs)) items
    ∙ newest_first w (parts_of e) after.values.items h
    ∙ ap (λ (other : Evaluation). stack_value w (parts_of e) h ∷ stack_values w other) (sym same)

-- the newest value is taken where one is asked for
pub taken_where : (w : PlainWorkspace) (e after : Evaluation) (value : Option StackValue) → after ≡ record e { values = after.values } → e.values.items ≡ after.values.items ++ option_to_list value
    → stack_values w e ≡ option_to_list (option_map (stack_value w (parts_of e)) value) ++ stack_values w after
taken_where w e after None same items = ap (λ (hs : List StackValue). reverse (map (stack_value w (parts_of e)) hs)) (items ∙ append-nil after.values.items) ∙ ap (stack_values w) (sym same)
taken_where w e after (Some h) same items = taken_one w e after h same items
