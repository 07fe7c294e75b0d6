-- What waits is as it was where a workspace changes by values alone.
use Rattle.std.proofs.Common.{◌≡◌, ◌≤◌, ℕ, zero, suc, true, List, [], ◌∷◌, refl, sym, ap, subst, ◌∙◌, length, drop, take, length-drop, arith}
use Rattle.std.specs.Prelude.{◌-◌, Option, Some, None, IfSome, is_some, slice_get, unwrap_or}
use Rattle.std.specs.Arc.{arc_value}
use Rattle.line_scanner.specs.Scanning.{reading_of}
use Rattle.line_trees.specs.declared.class.Class.{Class}
use Rattle.apl_workspace.specs.Function.{PlainFunction}
use Rattle.apl_workspace.specs.Meaning.{NameTable, is_function_meaning}
use Rattle.apl_workspace.specs.Workspace.{PlainWorkspace, empty_workspace, global_in, innermost, without_frame}
use Rattle.apl_workspace.specs.declared.meaning.Meaning.{Meaning}
use Rattle.apl_workspace.specs.declared.meaning.Meaning.TheVariants as meaning
use Rattle.apl_meaning.specs.Reading.{classes_of, read_scanned}
use Rattle.apl_values.specs.declared.reading.LineReading.{LineReading}
use Rattle.apl_statements.specs.declared.waiting.Waiting.{Waiting}
use Rattle.apl_statements.specs.Evaluating.{caller_of, function_by, function_in, here_of, no_function, stack_of, waiting_of}
use Rattle.apl_statements.specs.Sound.{AreKeptLines, AreUnderWay, IsKeptLine, IsFunctionUnderWay}
use Rattle.apl_statements.specs.Stack.{PlainWaiting}

-- another workspace has the same functions, the same classes in each frame, and the same names in it
pub record KeepsFunctions (w v : PlainWorkspace) : Type 0 where
  pub functions : (name : List ℕ) → function_in (global_in v name) ≡ function_in (global_in w name)
  pub classes : (n : ℕ) → classes_of (record v { frames = drop n v.frames }) ≡ classes_of (record w { frames = drop n w.frames })
  pub depth : length v.frames ≡ length w.frames
  pub names : (n : ℕ) (name : List ℕ) → is_some (innermost (take 1 (drop n v.frames)) name) ≡ is_some (innermost (take 1 (drop n w.frames)) name)

drop_one_more : {X : Type 0} (n : ℕ) (xs : List X) → drop n (drop 1 xs) ≡ drop (suc n) xs
drop_one_more zero [] = refl
drop_one_more (suc n) [] = refl
drop_one_more n (x ∷ xs) = refl

none_left : {X : Type 0} (xs : List X) → length xs ≡ 0 → xs ≡ []
none_left [] e = refl
none_left (x ∷ xs) e = absurd (let no : suc (length xs) ≡ 0 = e in omega arith)

-- so it is below the innermost frame
pub below : (w v : PlainWorkspace) → KeepsFunctions w v → KeepsFunctions (without_frame w) (without_frame v)
below w v k = record {
  functions = k.functions;
  classes = λ n.
      ap (λ (frames : List NameTable). classes_of (record v { frames = frames })) (drop_one_more n v.frames) ∙ k.classes (suc n)
      ∙ ap (λ (frames : List NameTable). classes_of (record w { frames = frames })) (sym (drop_one_more n w.frames));
  depth = length-drop 1 v.frames ∙ ap (λ (n : ℕ). n - 1) k.depth ∙ sym (length-drop 1 w.frames);
  names = λ n name.
      ap (λ (frames : List NameTable). is_some (innermost (take 1 frames) name)) (drop_one_more n v.frames) ∙ k.names (suc n) name
      ∙ ap (λ (frames : List NameTable). is_some (innermost (take 1 frames) name)) (sym (drop_one_more n w.frames));
}

pub is_function : (m : Meaning) → is_function_meaning m ≡ is_some (function_in m)
is_function meaning.Nothing = refl
is_function (meaning.Value value) = refl
is_function (meaning.Function function) = refl
is_function (meaning.Label line) = refl
is_function (meaning.Shared copy) = refl

-- a function is the same
pub same_function : (w v : PlainWorkspace) (name : List ℕ) → function_in (global_in v name) ≡ function_in (global_in w name) → function_by (global_in v name) ≡ function_by (global_in w name)
same_function w v name e = ap (λ (found : Option PlainFunction). unwrap_or found no_function) e

kept_result : (w v : PlainWorkspace) → KeepsFunctions w v → (result : Option (List ℕ)) → IfSome result (λ name. is_some (innermost (take 1 w.frames) name) ≡ true) → IfSome result (λ name. is_some (innermost (take 1 v.frames) name) ≡ true)
kept_result w v k None is = tt
kept_result w v k (Some name) is = k.names 0 name ∙ is

kept_line : (w v : PlainWorkspace) → KeepsFunctions w v → (line : Option (List ℕ)) (reading : LineReading) → IsKeptLine w line reading → IsKeptLine v line reading
kept_line w v k None reading is = is
kept_line w v k (Some line) reading is = record { reading = is.reading; tree = ap (λ (classes : List Class). read_scanned classes (length line) (reading_of line)) (k.classes 0) ∙ is.tree }

kept_lines : {A : Type 0} (w v : PlainWorkspace) → KeepsFunctions w v → (kept : Option (Option A)) (read : A → LineReading) (line : Option (List ℕ))
    → IfSome kept (λ kept. IfSome kept (λ reading. IsKeptLine w line (read reading))) → IfSome kept (λ kept. IfSome kept (λ reading. IsKeptLine v line (read reading)))
kept_lines w v k None read line is = tt
kept_lines w v k (Some None) read line is = tt
kept_lines w v k (Some (Some reading)) read line is = kept_line w v k line (read reading) is

-- a function under way is under way there too
pub kept_one : (w v : PlainWorkspace) (waiting : Waiting) → KeepsFunctions w v → IsFunctionUnderWay w waiting → IsFunctionUnderWay v waiting
kept_one w v waiting k is =
    let same : function_by (global_in w waiting.name) ≡ function_by (global_in v waiting.name) = sym (same_function w v waiting.name (k.functions waiting.name)) in
    record {
      frame = λ none. is.frame (none_left w.frames (sym k.depth ∙ ap length none));
      function = is_function (global_in v waiting.name) ∙ ap is_some (k.functions waiting.name) ∙ sym (is_function (global_in w waiting.name)) ∙ is.function;
      number = subst (λ (f : PlainFunction). waiting.number ≤ length f.lines) same is.number;
      caller = is.caller;
      result = subst (λ (f : PlainFunction). IfSome f.header.result (λ name. is_some (innermost (take 1 v.frames) name) ≡ true)) same (kept_result w v k (function_by (global_in w waiting.name)).header.result is.result);
      lines = subst (λ (f : PlainFunction). AreKeptLines v f.lines waiting) same (λ at. kept_lines w v k (slice_get waiting.readings.items at) arc_value (slice_get (function_by (global_in w waiting.name)).lines at) (is.lines at));
    }

-- all functions under way are under way there too
pub kept : (w v : PlainWorkspace) (callers : List Waiting) → KeepsFunctions w v → AreUnderWay w callers → AreUnderWay v callers
kept w v [] k none = none_left v.frames (k.depth ∙ ap length none)
kept w v (waiting ∷ others) k are = (kept_one w v waiting k are.0, kept (without_frame w) (without_frame v) others (below w v k) are.1)

-- the stack is the same where the functions are
pub same_stack : (w v : PlainWorkspace) (input : List ℕ) (callers : List Waiting) → ((name : List ℕ) → function_in (global_in v name) ≡ function_in (global_in w name)) → stack_of v input callers ≡ stack_of w input callers
same_stack w v input [] same = refl
same_stack w v input (waiting ∷ others) same =
    ap (λ (ws : List PlainWaiting). waiting_of v input waiting ws ∷ ws) (same_stack w v input others same)
    ∙ ap (λ (f : PlainFunction). record { function = f; number = waiting.number; caller = caller_of empty_workspace (here_of input (stack_of w input others)) waiting.caller } ∷ stack_of w input others) (same_function w v waiting.name (same waiting.name))
