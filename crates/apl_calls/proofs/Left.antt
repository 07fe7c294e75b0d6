-- What a function that is left gives, and the interpreter without it.
use Rattle.std.proofs.Common.{◌≡◌, ◌-◌, ℕ, true, List, [], ◌∷◌, ◌++◌, drop, length-drop, take, refl, sym, ap, subst, ◌∙◌}
use Rattle.std.specs.Prelude.{Option, Some, None, IfSome, is_some, option_and_then, option_map, reverse, slice_get, unwrap_or}
use Rattle.std.specs.Option.{option_or}
use Rattle.std.proofs.lemmas.Bool.{false≢true}
use Rattle.std.proofs.lemmas.List.{length-map, reverse-append}
use Rattle.apl_workspace.specs.Function.{PlainFunction}
use Rattle.apl_workspace.specs.Meaning.{NameTable, meaning_in}
use Rattle.apl_workspace.specs.Workspace.{PlainWorkspace, innermost, look, seen_by, without_frame}
use Rattle.apl_workspace.specs.declared.meaning.Meaning.{Meaning}
use Rattle.apl_workspace.specs.declared.meaning.Meaning.TheVariants as meaning
use Rattle.apl_meaning.specs.Calls.{local_value, result_value_in, result_of}
use Rattle.apl_meaning.specs.Expressions.{Found}
use Rattle.apl_values.specs.Parts.{plain_part, plain_parts}
use Rattle.apl_statements.specs.declared.evaluation.Evaluation.{Evaluation}
use Rattle.apl_statements.specs.declared.interpreter.Interpreter.TheInside.{Inside}
use Rattle.apl_statements.specs.declared.waiting.Waiting.{Waiting}
use Rattle.apl_statements.specs.Evaluating.{evaluation_of, innermost_function, stack_of, waiting_of}
use Rattle.apl_statements.specs.Interpreter.{PlainInterpreter}
use Rattle.apl_statements.specs.Moves.{Moves}
use Rattle.apl_statements.specs.Sound.{AreUnderWay, IsEvaluation, plain_interpreter}
use Rattle.apl_statements.specs.Stack.{PlainWaiting, from_end, onward}
use Rattle.apl_statements.specs.Holding.{IsResumedWith, parts_of}
use Rattle.apl_statements.specs.Work.{caller_parts, parts_left}
use Rattle.apl_statements.proofs.Kept.{same_stack}
use Rattle.apl_calls.proofs.Innermost.{last_under_way}
use Rattle.apl_calls.proofs.Leaving.{leaves, left_one, resumed_sound}

-- ---- the result

pub innermost_at : (ws : List PlainWaiting) (f : PlainFunction) → Some f ≡ option_map (λ w. w.function) (slice_get ws 0) → innermost_function ws ≡ f
innermost_at [] f e = absurd (let no : Some f ≡ None = e in cc)
innermost_at (w ∷ ws) f e = let some : Some f ≡ Some w.function = e in let same : w.function ≡ f = cc in same

result_by : (frames : List NameTable) (globals : NameTable) (name : List ℕ) → is_some (innermost (take 1 frames) name) ≡ true → local_value (seen_by (innermost frames name) (meaning_in globals name)) ≡ result_value_in frames name
result_by [] globals name is = absurd (false≢true is)
result_by (frame ∷ frames) globals name is = by (meaning_in frame name) is
  where
    by : (found : Option Meaning) → is_some (option_or found None) ≡ true → local_value (seen_by (option_or found (innermost frames name)) (meaning_in globals name)) ≡ local_value (unwrap_or found meaning.Nothing)
    by None is = absurd (false≢true is)
    by (Some m) is = refl

-- the result is what its name is seen to stand for
pub result_is : (w : PlainWorkspace) (input : List ℕ) (callers : List Waiting) (name : List ℕ) → AreUnderWay w callers → (innermost_function (stack_of w input callers)).header.result ≡ Some name → local_value (look w name) ≡ result_of (innermost_function (stack_of w input callers)) w
result_is w input [] name are is = absurd (let no : None ≡ Some name = is in cc)
result_is w input (waiting ∷ others) name are is =
    result_by w.frames w.globals name (subst (λ (result : Option (List ℕ)). IfSome result (λ name. is_some (innermost (take 1 w.frames) name) ≡ true)) is are.0.result)
    ∙ sym (ap (λ (result : Option (List ℕ)). option_and_then (result_value_in w.frames) result) is)

-- ---- the interpreter without its innermost function

pub seen_left : (inside after : Inside) (waiting : Waiting) → after ≡ record inside { workspace = after.workspace; callers = after.callers } → after.workspace ≡ without_frame inside.workspace → inside.callers.items ≡ after.callers.items ++ waiting ∷ []
    → plain_interpreter after ≡ left_one (plain_interpreter inside)
seen_left inside after waiting same left items =
    let w : PlainWorkspace = inside.workspace in
    let input : List ℕ = inside.input.items in
    let others : List Waiting = reverse after.callers.items in
    ap plain_interpreter same
    ∙ ap (λ (v : PlainWorkspace). plain_interpreter (record inside { workspace = v; callers = after.callers })) left
    ∙ ap (λ (ws : List PlainWaiting). record (plain_interpreter inside) { workspace = without_frame w; stack = ws })
    (same_stack w (without_frame w) input others (λ name. refl) ∙ ap (λ (list : List Waiting). drop 1 (stack_of w input list)) (sym (ap reverse items ∙ reverse-append after.callers.items (waiting ∷ []))))

stacked : (inside : Inside) (others : List Waiting) (waiting : Waiting) → inside.callers.items ≡ others ++ waiting ∷ []
    → (plain_interpreter inside).stack ≡ waiting_of inside.workspace inside.input.items waiting (stack_of inside.workspace inside.input.items (reverse others)) ∷ stack_of inside.workspace inside.input.items (reverse others)
stacked inside others waiting items = ap (stack_of inside.workspace inside.input.items) (ap reverse items ∙ reverse-append others (waiting ∷ []))

under_way : (inside : Inside) (others : List Waiting) (waiting : Waiting) → inside.callers.items ≡ others ++ waiting ∷ [] → AreUnderWay inside.workspace (reverse inside.callers.items) → AreUnderWay inside.workspace (waiting ∷ reverse others)
under_way inside others waiting items are = last_under_way inside.workspace others waiting (subst (λ (list : List Waiting). AreUnderWay inside.workspace (reverse list)) items are)

-- what is to come where it was left: its caller goes on with the result
pub left_comes : (inside after : Inside) (m : PlainInterpreter) (waiting : Waiting) (e : Evaluation) → after ≡ record inside { workspace = after.workspace; callers = after.callers } → after.workspace ≡ without_frame inside.workspace → inside.callers.items ≡ after.callers.items ++ waiting ∷ []
    → plain_interpreter inside ≡ m → AreUnderWay inside.workspace (reverse inside.callers.items) → IsResumedWith (result_of (innermost_function m.stack) m.workspace) waiting.caller e
    → Moves m (from_end m.stack) 0 (plain_interpreter after) (λ s. onward (evaluation_of (plain_interpreter after).workspace e) (plain_interpreter after).stack s)
left_comes inside after m waiting e same left items view are with =
    let w : PlainWorkspace = inside.workspace in
    let input : List ℕ = inside.input.items in
    let others : List Waiting = after.callers.items in
    let ws : List PlainWaiting = stack_of w input (reverse others) in
    let n : PlainInterpreter = plain_interpreter inside in
    let first : PlainWaiting = waiting_of w input waiting ws in
    let here : n.stack ≡ first ∷ ws = stacked inside others waiting items in
    let got : IsResumedWith (result_of first.function w) waiting.caller e =
    subst (λ (stack : List PlainWaiting). IsResumedWith (result_of (innermost_function stack) w) waiting.caller e) here (subst (λ (x : PlainInterpreter). IsResumedWith (result_of (innermost_function x.stack) x.workspace) waiting.caller e) (sym view) with) in
    let moves : Moves n (from_end n.stack) 0 (left_one n) (λ s. onward (evaluation_of (left_one n).workspace e) (left_one n).stack s) = leaves n first ws e waiting.caller here refl (under_way inside others waiting items are).0.caller got in
    subst (λ (x : PlainInterpreter). Moves x (from_end x.stack) 0 (plain_interpreter after) (λ s. onward (evaluation_of (plain_interpreter after).workspace e) (plain_interpreter after).stack s)) view
    (subst (λ (x : PlainInterpreter). Moves n (from_end n.stack) 0 x (λ s. onward (evaluation_of x.workspace e) x.stack s)) (sym (seen_left inside after waiting same left items)) moves)

-- it is a statement still
pub left_sound : (inside : Inside) (others : List Waiting) (v : PlainWorkspace) (waiting : Waiting) (found : Found) (e : Evaluation) → inside.callers.items ≡ others ++ waiting ∷ [] → AreUnderWay inside.workspace (reverse inside.callers.items) → IsResumedWith found waiting.caller e → IsEvaluation v e
left_sound inside others v waiting found e items are with = resumed_sound v found waiting.caller e (under_way inside others waiting items are).0.caller with

-- and has as many parts left as it had
parts_resumed : (found : Found) (before after : Evaluation) → IsResumedWith found before after → parts_left after ≡ parts_left before
parts_resumed None before after with = ap parts_left with
parts_resumed (Some array) before after with = ap parts_left with.same

pub left_parts : (inside : Inside) (others : List Waiting) (m : PlainInterpreter) (waiting : Waiting) (found : Found) (e : Evaluation) → inside.callers.items ≡ others ++ waiting ∷ [] → plain_interpreter inside ≡ m → IsResumedWith found waiting.caller e → parts_left e ≡ caller_parts m.stack
left_parts inside others m waiting found e items view with =
    let caller : Evaluation = waiting.caller in
    parts_resumed found caller e with
    ∙ sym (length-drop caller.at (plain_parts (parts_of caller)) ∙ ap (λ (n : ℕ). n - caller.at) (length-map (parts_of caller) plain_part))
    ∙ sym (ap caller_parts (stacked inside others waiting items))
    ∙ ap (λ (x : PlainInterpreter). caller_parts x.stack) view
