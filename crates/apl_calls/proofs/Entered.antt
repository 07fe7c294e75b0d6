-- A function that is entered is under way in its own frame.
use Rattle.std.proofs.Common.{◌≡◌, ◌≤◌, ◌<◌, ℕ, suc, ◌+◌, Bool, true, false, List, [], ◌∷◌, ◌++◌, ◌||◌, refl, sym, ap, subst, ◌∙◌, length, take, arith}
use Rattle.std.specs.Prelude.{Option, Some, None, IfSome, cond, is_some, reverse, slice_get}
use Rattle.std.proofs.lemmas.List.{reverse-append}
use Rattle.std.specs.Arc.{arc_value}
use Rattle.std.specs.List.{list_any}
use Rattle.std.specs.Option.{option_or, option_to_list}
use Rattle.apl_workspace.specs.Frame.{argument_or, frame_of, header_names, with_label_of_line, with_labels}
use Rattle.apl_workspace.specs.Function.{PlainFunction}
use Rattle.apl_workspace.specs.Header.{PlainHeader}
use Rattle.apl_workspace.specs.Label.{label_of}
use Rattle.apl_workspace.specs.Limits.{most_depth, most_weight}
use Rattle.apl_workspace.specs.Meaning.{NameTable, is_function_meaning, meaning_in}
use Rattle.apl_arrays.specs.Name.{same_name}
use Rattle.apl_workspace.specs.Workspace.{IsWorkspace, PlainWorkspace, empty_workspace, global_in, innermost, look, with_frame, with_frame_by, workspace_weight}
use Rattle.apl_workspace.specs.declared.args.Args.{Args}
use Rattle.apl_workspace.specs.declared.meaning.Meaning.{Meaning}
use Rattle.apl_workspace.specs.declared.meaning.Meaning.TheVariants as meaning
use Rattle.apl_workspace.proofs.Ascending.{found_with}
use Rattle.apl_workspace.proofs.Looks.{header_found, seen_globally}
use Rattle.apl_workspace.proofs.NameLaw.{own_name}
use Rattle.apl_meaning.specs.Calls.{entering}
use Rattle.apl_values.specs.declared.reading.LineReading.{LineReading}
use Rattle.apl_statements.specs.declared.waiting.Waiting.{Waiting}
use Rattle.apl_statements.specs.declared.interpreter.Interpreter.TheInside.{Inside}
use Rattle.apl_statements.specs.Evaluating.{caller_of, function_by, here_of, stack_of, takes_by, waiting_of}
use Rattle.apl_statements.specs.Interpreter.{PlainInterpreter, here}
use Rattle.apl_statements.specs.Moves.{Does}
use Rattle.apl_statements.specs.Sound.{AreUnderWay, IsCaller, IsKeptLine, IsFunctionUnderWay, plain_interpreter}
use Rattle.apl_statements.specs.Stack.{PlainCaller, PlainWaiting, at_line}
use Rattle.apl_statements.proofs.Kept.{same_stack}
use Rattle.apl_calls.proofs.Enters.{entered_by, enters, takes_function}

-- ---- a name of a frame is there whatever labels hide it

there_still : (b : Bool) (m : Meaning) (found : Option Meaning) → is_some found ≡ true → is_some (cond b (Some m) found) ≡ true
there_still true m found is = refl
there_still false m found is = is

label_keeps : (label : Option (List ℕ)) (line : ℕ) (names : NameTable) (other : List ℕ) → is_some (meaning_in names other) ≡ true → is_some (meaning_in (with_label_of_line label line names) other) ≡ true
label_keeps None line names other is = is
label_keeps (Some label) line names other is = ap is_some (found_with names label (meaning.Label line) other) ∙ there_still (same_name label other) (meaning.Label line) (meaning_in names other) is

labels_keep : (number : ℕ) (lines : List (List ℕ)) (names : NameTable) (other : List ℕ) → is_some (meaning_in names other) ≡ true → is_some (meaning_in (with_labels number lines names) other) ≡ true
labels_keep number [] names other is = is
labels_keep number (line ∷ lines) names other is = label_keeps (label_of line) number (with_labels (number + 1) lines names) other (labels_keep (number + 1) lines names other is)

-- the result of a function is a name of its frame
pub result_is_there : (function : PlainFunction) (args : Args) (name : List ℕ) → function.header.result ≡ Some name → is_some (meaning_in (frame_of function args) name) ≡ true
result_is_there function args name is =
    let header : PlainHeader = function.header in
    let other : Option Meaning = argument_or header.right args.right name (argument_or header.left args.left name None) in
    labels_keep 1 function.lines (header_names header args) name
    (ap is_some (header_found header args name)
    ∙ ap (λ (result : Option (List ℕ)). is_some (cond (list_any (same_name name) (option_to_list result ++ header.locals)) (Some meaning.Nothing) other)) is
    ∙ ap (λ (b : Bool). is_some (cond (b || list_any (same_name name) header.locals) (Some meaning.Nothing) other)) (own_name name))

result_if : (function : PlainFunction) (args : Args) (frames : List NameTable) (result : Option (List ℕ)) → function.header.result ≡ result → IfSome result (λ name. is_some (innermost (take 1 (frame_of function args ∷ frames)) name) ≡ true)
result_if function args frames None is = tt
result_if function args frames (Some name) is = alone (meaning_in (frame_of function args) name) (result_is_there function args name is)
  where
    alone : (found : Option Meaning) → is_some found ≡ true → is_some (option_or found None) ≡ true
    alone None there = there
    alone (Some m) there = refl

-- nothing is kept of its lines yet
none_kept : {A : Type 0} (w : PlainWorkspace) (line : Option (List ℕ)) (read : A → LineReading) (list : List (Option A)) (at : ℕ) → list ≡ [] → IfSome (slice_get list at) (λ kept. IfSome kept (λ reading. IsKeptLine w line (read reading)))
none_kept w line read list at none = subst (λ list. IfSome (slice_get list at) (λ kept. IfSome kept (λ reading. IsKeptLine w line (read reading)))) (sym none) tt

-- the function is under way, and those under it as they were
pub entered : (w : PlainWorkspace) (args : Args) (function : PlainFunction) (waiting : Waiting) (others : List Waiting) → look w waiting.name ≡ meaning.Function function → global_in w waiting.name ≡ meaning.Function function → waiting.number ≡ 0
    → waiting.readings.items ≡ [] → IsCaller empty_workspace waiting.caller → AreUnderWay w others → AreUnderWay (with_frame w waiting.name args) (waiting ∷ others)
entered w args function waiting others seen is first fresh caller are =
    let v : PlainWorkspace = record w { frames = frame_of function args ∷ w.frames } in
    let here : IsFunctionUnderWay v waiting = record {
      frame = λ none. let wrong : suc (length w.frames) ≡ 0 = ap length none in absurd (omega arith);
      function = ap is_function_meaning is;
      number = let e : waiting.number ≡ 0 = first in omega arith;
      caller = caller;
      result = subst (λ (m : Meaning). IfSome (function_by m).header.result (λ name. is_some (innermost (take 1 v.frames) name) ≡ true)) (sym is) (result_if function args w.frames function.header.result refl);
      lines = λ at. none_kept v (slice_get (function_by (global_in w waiting.name)).lines at) arc_value waiting.readings.items at fresh;
    } in
    subst (λ (u : PlainWorkspace). AreUnderWay u (waiting ∷ others)) (sym (ap (λ (m : Meaning). with_frame_by m w args) seen)) (here, are)

-- the interpreter as plain data
pub seen_entered : (inside after : Inside) (m : PlainInterpreter) (args : Args) (function : PlainFunction) (waiting : Waiting) → after ≡ record inside { workspace = after.workspace; callers = after.callers } → after.workspace ≡ with_frame inside.workspace waiting.name args
    → after.callers.items ≡ inside.callers.items ++ waiting ∷ [] → waiting.number ≡ 0 → look inside.workspace waiting.name ≡ meaning.Function function → global_in inside.workspace waiting.name ≡ meaning.Function function → plain_interpreter inside ≡ m
    → plain_interpreter after ≡ entered_by m waiting.name args function (caller_of empty_workspace (here m) waiting.caller)
seen_entered inside after m args function waiting same framed items first seen is view =
    let w : PlainWorkspace = inside.workspace in
    let v : PlainWorkspace = record w { frames = frame_of function args ∷ w.frames } in
    let input : List ℕ = inside.input.items in
    let others : List Waiting = reverse inside.callers.items in
    let stack : List PlainWaiting = stack_of w input others in
    let caller : PlainCaller = caller_of empty_workspace (here_of input stack) waiting.caller in
    let framed_so : with_frame w waiting.name args ≡ v = ap (λ (m : Meaning). with_frame_by m w args) seen in
    let stacked : stack_of v input (reverse after.callers.items) ≡ at_line function 0 caller ∷ stack =
    ap (stack_of v input) (ap reverse items ∙ reverse-append inside.callers.items (waiting ∷ []))
    ∙ ap (λ (ws : List PlainWaiting). waiting_of v input waiting ws ∷ ws) (same_stack w v input others (λ name. refl))
    ∙ ap (λ (m : Meaning). at_line (function_by m) waiting.number caller ∷ stack) is
    ∙ ap (λ (n : ℕ). at_line function n caller ∷ stack) first in
    ap plain_interpreter same
    ∙ ap (λ (u : PlainWorkspace). plain_interpreter (record inside { workspace = u; callers = after.callers })) (framed ∙ framed_so)
    ∙ ap (λ (ws : List PlainWaiting). record (plain_interpreter inside) { workspace = v; stack = ws }) stacked
    ∙ ap (λ (u : PlainWorkspace). record (plain_interpreter inside) { workspace = u; stack = at_line function 0 caller ∷ stack }) (sym framed_so)
    ∙ ap (λ (x : PlainInterpreter). entered_by x waiting.name args function (caller_of empty_workspace (here x) waiting.caller)) view

-- ---- where the name takes these arguments

function_seen : (w : PlainWorkspace) (name : List ℕ) (args : Args) → IsWorkspace w → takes_by (look w name) args ≡ true → (look w name ≡ meaning.Function (function_by (look w name))) × (global_in w name ≡ meaning.Function (function_by (look w name)))
function_seen w name args rules takes =
    let seen : look w name ≡ meaning.Function (function_by (look w name)) = (takes_function (look w name) args takes).0 in
    (seen, seen_globally w name (meaning.Function (function_by (look w name))) rules (λ no. absurd no) seen)

-- all are under way
pub entered_soundly : (w u : PlainWorkspace) (args : Args) (waiting : Waiting) (before after : List Waiting) → IsWorkspace w → takes_by (look w waiting.name) args ≡ true → u ≡ with_frame w waiting.name args → after ≡ before ++ waiting ∷ [] → waiting.number ≡ 0
    → waiting.readings.items ≡ [] → IsCaller empty_workspace waiting.caller → AreUnderWay w (reverse before) → AreUnderWay u (reverse after)
entered_soundly w u args waiting before after rules takes framed items first fresh caller are =
    let is = function_seen w waiting.name args rules takes in
    subst (λ (list : List Waiting). AreUnderWay u list) (sym (ap reverse items ∙ reverse-append before (waiting ∷ [])))
    (subst (λ (x : PlainWorkspace). AreUnderWay x (waiting ∷ reverse before)) (sym framed) (entered w args (function_by (look w waiting.name)) waiting (reverse before) is.0 is.1 first fresh caller are))

-- the interpreter as plain data, where it was entered so
pub entered_seen : (inside after : Inside) (m : PlainInterpreter) (args : Args) (waiting : Waiting) → IsWorkspace m.workspace → takes_by (look m.workspace waiting.name) args ≡ true → after ≡ record inside { workspace = after.workspace; callers = after.callers } → after.workspace ≡ with_frame inside.workspace waiting.name args
    → after.callers.items ≡ inside.callers.items ++ waiting ∷ [] → waiting.number ≡ 0 → plain_interpreter inside ≡ m
    → plain_interpreter after ≡ entered_by m waiting.name args (function_by (look m.workspace waiting.name)) (caller_of empty_workspace (here m) waiting.caller)
entered_seen inside after m args waiting rules takes same framed items first view =
    let is = function_seen inside.workspace waiting.name args (subst (λ (x : PlainInterpreter). IsWorkspace x.workspace) (sym view) rules) (subst (λ (x : PlainInterpreter). takes_by (look x.workspace waiting.name) args ≡ true) (sym view) takes) in
    seen_entered inside after (plain_interpreter inside) args (function_by (look inside.workspace waiting.name)) waiting same framed items first is.0 is.1 refl
    ∙ ap (λ (x : PlainInterpreter). entered_by x waiting.name args (function_by (look x.workspace waiting.name)) (caller_of empty_workspace (here x) waiting.caller)) view

-- the function is entered there
pub entered_does : (inside after : Inside) (m : PlainInterpreter) (args : Args) (waiting : Waiting) → plain_interpreter after ≡ entered_by m waiting.name args (function_by (look m.workspace waiting.name)) (caller_of empty_workspace (here m) waiting.caller) → plain_interpreter inside ≡ m
    → length inside.workspace.frames < most_depth → workspace_weight (with_frame inside.workspace waiting.name args) ≤ most_weight → Does m (λ s. entering waiting.name args s) (plain_interpreter after)
entered_does inside after m args waiting seen view few fits =
    subst (λ (x : PlainInterpreter). Does m (λ s. entering waiting.name args s) x) (sym seen)
    (enters m waiting.name args (function_by (look m.workspace waiting.name)) (caller_of empty_workspace (here m) waiting.caller) refl
    (subst (λ (x : PlainInterpreter). length x.workspace.frames < most_depth) view few)
    (subst (λ (x : PlainInterpreter). workspace_weight (with_frame x.workspace waiting.name args) ≤ most_weight) view fits))
