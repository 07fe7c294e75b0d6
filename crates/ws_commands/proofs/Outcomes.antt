-- What holds of all that a line may lead to.
use Rattle.std.proofs.Common.{◌≡◌, ℕ, Bool, true, false, cond, not, ◌&&◌, List, [], ◌∷◌, Option, Some, None, Result, Ok, Err, refl, sym, ap, ◌∙◌, subst, arith, codes}
use Rattle.std.specs.Prelude.{IfOk, IfSome, IsErrOf, nat_le}
use Rattle.std.specs.Option.{option_or}
use Rattle.std.proofs.lemmas.Bool.{false≢true}
use Rattle.apl_arrays.specs.Name.{same_name}
use Rattle.apl_execute.specs.Merge.{merged}
use Rattle.apl_io.specs.Content.{Told}
use Rattle.apl_io.specs.Faults.{Rose}
use Rattle.apl_io.specs.declared.store_error.StoreError.{StoreError}
use Rattle.apl_io.specs.declared.store_error.StoreError.TheVariants.{Failed, WantOfMemory}
use Rattle.apl_workspace.specs.Limits.{most_weight}
use Rattle.apl_workspace.specs.Workspace.{PlainWorkspace, workspace_weight}
use Rattle.ws_codec.specs.Saved.{PlainSaved, saved_reading}
use Rattle.ws_codec.specs.declared.saved.SavedRule.{SavedRule}
use Rattle.ws_commands.specs.Command.{PlainCommand}
use Rattle.ws_commands.specs.Finish.{MayComeIn, workspace_brought}
use Rattle.ws_commands.specs.Library.{names_asked_for, copied, copied_by, copy_lines, copying, dropped, dropping, loaded, loaded_by, loading, saving}
use Rattle.ws_commands.specs.Names.{identifying}
use Rattle.ws_commands.specs.Reading.{step_of_command}
use Rattle.ws_commands.specs.Row.{row_of_word}
use Rattle.ws_commands.specs.Shelf.{FollowsCall, IsCall, TakesStep}
use Rattle.ws_commands.specs.Step.{Step, does, reads, writes, removes, lists, named}
use Rattle.ws_commands.specs.Todo.{PlainChange, PlainTodo, clear, doing, erase, faulted, given_up, keep, off, replace, saying, set_id, swap}
use Rattle.ws_commands.specs.declared.word.CommandWord.{CommandWord}
use Rattle.ws_commands.specs.declared.word.CommandWord.TheVariants as word
use Rattle.ws_commands.proofs.Fresh.{fresh}

-- a step leads to nothing but what has a property, where no call fails
abbrev pub AllHave : (PlainTodo → Type 0) → Step → Type 0
AllHave P (does todo) = P todo
AllHave P (reads name next) = (found : Option (List ℕ)) → P (next found)
AllHave P (writes name bytes todo) = P todo
AllHave P (removes name next) = (there : Bool) → P (next there)
AllHave P (lists next) = (names : List (List ℕ)) → P (next names)

weaker : (P Q : PlainTodo → Type 0) (step : Step) → ((todo : PlainTodo) → P todo → Q todo) → AllHave P step → AllHave Q step
weaker P Q (does todo) h all = h todo all
weaker P Q (reads name next) h all = λ found. h (next found) (all found)
weaker P Q (writes name bytes todo) h all = h todo all
weaker P Q (removes name next) h all = λ there. h (next there) (all there)
weaker P Q (lists next) h all = λ names. h (next names) (all names)

followed : {T : Type 0} (P : PlainTodo → Type 0) (next : T → PlainTodo) (answer : Result T StoreError) (todo : PlainTodo) → ((found : T) → P (next found)) → (IsErrOf answer Failed → P faulted) → FollowsCall next answer todo → P todo
followed P next (Ok found) todo all fault is = subst P (sym is) (all found)
followed P next (Err Failed) todo all fault is = subst P (sym is) (fault refl)
followed P next (Err WantOfMemory) todo all fault is = absurd is

module _ {K : Type 0} (told : K → Option (Told (ℕ × List ℕ))) (faults : K → ℕ) where
  called : {T : Type 0} (P : PlainTodo → Type 0) (Tells : Option (Told (ℕ × List ℕ)) → Result T StoreError → Option (Told (ℕ × List ℕ)) → Type 0) (next : T → PlainTodo) (old : K) (todo : PlainTodo) (new : K) → ((found : T) → P (next found))
      → (Rose (faults old) (faults new) → P faulted) → IsCall told faults Tells next old todo new → P todo
  called P Tells next old todo new all fault h = followed P next h.answer todo all (λ failed. fault (h.fault.cause failed)) h.after

  -- what is to be done has the property, where a call that failed leads to nothing else
  taken : (P : PlainTodo → Type 0) (user : ℕ) (step : Step) (old : K) (todo : PlainTodo) (new : K) → AllHave P step → (Rose (faults old) (faults new) → P faulted) → TakesStep told faults user step old todo new → P todo
  taken P user (does wanted) old todo new all fault h = subst P (sym h.0) all
  taken P user (reads name next) old todo new all fault h = called P _ next old todo new all fault h
  taken P user (writes name bytes wanted) old todo new all fault h = called {T = Unit {0}} P _ (λ _. wanted) old todo new (λ _. all) fault h
  taken P user (removes name next) old todo new all fault h = called P _ next old todo new all fault h
  taken P user (lists next) old todo new all fault h = called P _ next old todo new all fault h

  -- the same of a result
  pub taken_result : {T E : Type 0} (P : PlainTodo → Type 0) (view : T → PlainTodo) (user : ℕ) (step : Step) (old new : K) (result : Result T E) → AllHave P step → (Rose (faults old) (faults new) → P faulted) → IfOk result (λ todo. TakesStep told faults user step old (view todo) new)
      → IfOk result (λ todo. P (view todo))
  taken_result P view user step old new (Ok todo) all fault h = taken P user step old (view todo) new all fault h
  taken_result P view user step old new (Err why) all fault h = tt

-- ---- the names that are retracted, and the workspace that comes in

-- what is retracted is what the change gives up of shares
abbrev pub Gives : PlainWorkspace → PlainTodo → Type 0
Gives w todo = todo.retract ≡ given_up todo.change w

-- the workspace that a change brings may come in
abbrev pub Comes : PlainWorkspace → PlainTodo → Type 0
Comes w todo = IfSome (workspace_brought todo.change) (MayComeIn w)

abbrev IsReady : PlainWorkspace → PlainTodo → Type 0
IsReady w todo = Gives w todo × Comes w todo

loads_come : (w : PlainWorkspace) (name bytes : List ℕ) (read : Result PlainSaved (ℕ × SavedRule)) → saved_reading bytes ≡ read → IsReady w (loaded_by name w read)
loads_come w name bytes (Err fault) e = (refl, tt)
loads_come w name bytes (Ok found) e =
    let new = fresh bytes found e in
    let none : found.workspace.printed ≡ 0 = ap (λ (x : PlainWorkspace). x.printed) new in
    (refl, record { frames = ap (λ (x : PlainWorkspace). x.frames) new; printed = omega (arith, none) })

copy_comes : (w from : PlainWorkspace) (name : List ℕ) (objects : List (List ℕ)) (b : Bool) → w.frames ≡ []
    → IsReady w (cond b (doing w (swap (merged w from (names_asked_for objects))) (copy_lines name objects w from)) (saying (codes "WS FULL" ∷ [])))
copy_comes w from name objects true none = (refl, record { frames = none; printed = omega arith })
copy_comes w from name objects false none = (refl, tt)

copies_come : (w : PlainWorkspace) (name : List ℕ) (objects : List (List ℕ)) (read : Result PlainSaved (ℕ × SavedRule)) → w.frames ≡ [] → IsReady w (copied_by name objects w read)
copies_come w name objects (Err fault) none = (refl, tt)
copies_come w name objects (Ok found) none = copy_comes w found.workspace name objects (nat_le (workspace_weight (merged w found.workspace (names_asked_for objects))) most_weight) none

loaded_comes : (w : PlainWorkspace) (name : List ℕ) (found : Option (List ℕ)) → IsReady w (loaded name w found)
loaded_comes w name None = (refl, tt)
loaded_comes w name (Some bytes) = loads_come w name bytes (saved_reading bytes) refl

copied_comes : (w : PlainWorkspace) (name : List ℕ) (objects : List (List ℕ)) (found : Option (List ℕ)) → w.frames ≡ [] → IsReady w (copied name objects w found)
copied_comes w name objects None none = (refl, tt)
copied_comes w name objects (Some bytes) none = copies_come w name objects (saved_reading bytes) none

dropped_comes : (w : PlainWorkspace) (name : List ℕ) (there : Bool) → IsReady w (dropped name there)
dropped_comes w name true = (refl, tt)
dropped_comes w name false = (refl, tt)

saved_comes : (w : PlainWorkspace) (name : Option (List ℕ)) → AllHave (IsReady w) (saving name w)
saved_comes w None = (refl, tt)
saved_comes w (Some name) = (refl, tt)

named_comes : (w : PlainWorkspace) (name : Option (List ℕ)) (next : List ℕ → Step) → ((given : List ℕ) → AllHave (IsReady w) (next given)) → AllHave (IsReady w) (named name next)
named_comes w None next all = (refl, tt)
named_comes w (Some name) next all = all name

id_comes : (w : PlainWorkspace) (given id : Option (List ℕ)) → IsReady w (identifying given id)
id_comes w None id = (refl, tt)
id_comes w (Some name) id = (refl, tt)

row_comes : (w : PlainWorkspace) (command : PlainCommand) (id : Option (List ℕ)) (which : CommandWord) → w.frames ≡ [] → AllHave (IsReady w) ((row_of_word which).step command w id)
row_comes w command id word.Clear none = (refl, tt)
row_comes w command id word.Save none = saved_comes w (option_or command.workspace id)
row_comes w command id word.Load none = named_comes w command.workspace (λ name. loading name w) (λ name found. loaded_comes w name found)
row_comes w command id word.CopyFrom none = named_comes w command.workspace (λ name. copying name command.objects w) (λ name found. copied_comes w name command.objects found none)
row_comes w command id word.Remove none = named_comes w command.workspace dropping (λ name there. dropped_comes w name there)
row_comes w command id word.Lib none = λ names. (refl, tt)
row_comes w command id word.Fns none = (refl, tt)
row_comes w command id word.Vars none = (refl, tt)
row_comes w command id word.Erase none = (refl, tt)
row_comes w command id word.Wsid none = id_comes w command.workspace id
row_comes w command id word.Off none = (refl, tt)

all_ready : (w : PlainWorkspace) (command : Option PlainCommand) (id : Option (List ℕ)) → w.frames ≡ [] → AllHave (IsReady w) (step_of_command command w id)
all_ready w None id none = (refl, tt)
all_ready w (Some command) id none = row_comes w command id command.word none

-- what a line retracts is what its change gives up
pub all_give : (w : PlainWorkspace) (command : Option PlainCommand) (id : Option (List ℕ)) → w.frames ≡ [] → AllHave (Gives w) (step_of_command command w id)
all_give w command id none = weaker (IsReady w) (Gives w) (step_of_command command w id) (λ todo ready. ready.0) (all_ready w command id none)

-- a workspace that a line brings may come in
pub all_come : (w : PlainWorkspace) (command : Option PlainCommand) (id : Option (List ℕ)) → w.frames ≡ [] → AllHave (Comes w) (step_of_command command w id)
all_come w command id none = weaker (IsReady w) (Comes w) (step_of_command command w id) (λ todo ready. ready.1) (all_ready w command id none)

-- ---- the cause of LIBRARY FAULT

abbrev is_keep : PlainChange → Bool
is_keep keep = true
is_keep clear = false
is_keep (replace workspace name) = false
is_keep (swap workspace) = false
is_keep (erase names) = false
is_keep (set_id name) = false
is_keep off = false

abbrev says_fault : List (List ℕ) → Bool
says_fault [] = false
says_fault (line ∷ lines) = same_name line (codes "LIBRARY FAULT")

abbrev is_fault : PlainTodo → Bool
is_fault todo = is_keep todo.change && (not todo.counted && says_fault todo.lines)

abbrev IsNoFault : PlainTodo → Type 0
IsNoFault todo = is_fault todo ≡ false

loads_are_none : (w : PlainWorkspace) (name : List ℕ) (read : Result PlainSaved (ℕ × SavedRule)) → IsNoFault (loaded_by name w read)
loads_are_none w name (Err fault) = refl
loads_are_none w name (Ok found) = refl

copy_is_none : (w from : PlainWorkspace) (name : List ℕ) (objects : List (List ℕ)) (b : Bool) → IsNoFault (cond b (doing w (swap (merged w from (names_asked_for objects))) (copy_lines name objects w from)) (saying (codes "WS FULL" ∷ [])))
copy_is_none w from name objects true = refl
copy_is_none w from name objects false = refl

copies_are_none : (w : PlainWorkspace) (name : List ℕ) (objects : List (List ℕ)) (read : Result PlainSaved (ℕ × SavedRule)) → IsNoFault (copied_by name objects w read)
copies_are_none w name objects (Err fault) = refl
copies_are_none w name objects (Ok found) = copy_is_none w found.workspace name objects (nat_le (workspace_weight (merged w found.workspace (names_asked_for objects))) most_weight)

loaded_is_none : (w : PlainWorkspace) (name : List ℕ) (found : Option (List ℕ)) → IsNoFault (loaded name w found)
loaded_is_none w name None = refl
loaded_is_none w name (Some bytes) = loads_are_none w name (saved_reading bytes)

copied_is_none : (w : PlainWorkspace) (name : List ℕ) (objects : List (List ℕ)) (found : Option (List ℕ)) → IsNoFault (copied name objects w found)
copied_is_none w name objects None = refl
copied_is_none w name objects (Some bytes) = copies_are_none w name objects (saved_reading bytes)

dropped_is_none : (name : List ℕ) (there : Bool) → IsNoFault (dropped name there)
dropped_is_none name true = refl
dropped_is_none name false = refl

saved_is_none : (w : PlainWorkspace) (name : Option (List ℕ)) → AllHave IsNoFault (saving name w)
saved_is_none w None = refl
saved_is_none w (Some name) = refl

named_is_none : (name : Option (List ℕ)) (next : List ℕ → Step) → ((given : List ℕ) → AllHave IsNoFault (next given)) → AllHave IsNoFault (named name next)
named_is_none None next all = refl
named_is_none (Some name) next all = all name

id_is_none : (given id : Option (List ℕ)) → IsNoFault (identifying given id)
id_is_none None None = refl
id_is_none None (Some name) = refl
id_is_none (Some name) id = refl

row_is_none : (w : PlainWorkspace) (command : PlainCommand) (id : Option (List ℕ)) (which : CommandWord) → AllHave IsNoFault ((row_of_word which).step command w id)
row_is_none w command id word.Clear = refl
row_is_none w command id word.Save = saved_is_none w (option_or command.workspace id)
row_is_none w command id word.Load = named_is_none command.workspace (λ name. loading name w) (λ name found. loaded_is_none w name found)
row_is_none w command id word.CopyFrom = named_is_none command.workspace (λ name. copying name command.objects w) (λ name found. copied_is_none w name command.objects found)
row_is_none w command id word.Remove = named_is_none command.workspace dropping (λ name there. dropped_is_none name there)
row_is_none w command id word.Lib = λ names. refl
row_is_none w command id word.Fns = refl
row_is_none w command id word.Vars = refl
row_is_none w command id word.Erase = refl
row_is_none w command id word.Wsid = id_is_none command.workspace id
row_is_none w command id word.Off = refl

all_are_none : (w : PlainWorkspace) (command : Option PlainCommand) (id : Option (List ℕ)) → AllHave IsNoFault (step_of_command command w id)
all_are_none w None id = refl
all_are_none w (Some command) id = row_is_none w command id command.word

-- LIBRARY FAULT has a cause, where the call that failed has one
pub all_caused : (Cause : Type 0) (w : PlainWorkspace) (command : Option PlainCommand) (id : Option (List ℕ)) → AllHave (λ todo. todo ≡ faulted → Cause) (step_of_command command w id)
all_caused Cause w command id =
    weaker IsNoFault (λ todo. todo ≡ faulted → Cause) (step_of_command command w id) (λ todo none is. absurd (false≢true (sym none ∙ ap (λ (t : PlainTodo). is_fault t) is))) (all_are_none w command id)
