-- What the shelf is asked, what it tells, and what is to be done by its answer.
use Rattle.std.specs.Prelude.{◌≡◌, ◌≤◌, ◌⊎◌, ℕ, List, Option, Result, Ok, Err, IfOk, IfSome, IsSomeAnd, IsErrOf}
use Rattle.std.specs.List.Sorted.{IsStrictlySortedBy}
use Rattle.apl_arrays.specs.Name.{name_order}
use Rattle.apl_io.specs.Content.{Told, Lists, Reads, Removes, Writes, by_user_and_name, entry_of}
use Rattle.apl_io.specs.Faults.{Rose, one_more}
use Rattle.apl_io.specs.declared.store_error.StoreError.{StoreError}
use Rattle.apl_io.specs.declared.store_error.StoreError.TheVariants.{Failed, WantOfMemory}
use Rattle.ws_commands.specs.Step.{Step, does, reads, writes, removes, lists}
use Rattle.ws_commands.specs.Todo.{PlainTodo, faulted}

-- a call that failed raised the count of faults, which never falls
pub record CountsFaults {T : Type 0} (before now : ℕ) (answer : Result T StoreError) : Type 0 where
  pub counted : before ≤ now
  pub cause : IsErrOf answer Failed → Rose before now

-- what is to be done by an answer: LIBRARY FAULT and nothing else where the call failed; nothing follows where memory ran out
abbrev pub FollowsCall : {T : Type 0} → (T → PlainTodo) → Result T StoreError → PlainTodo → Type 0
FollowsCall next (Ok answer) todo = todo ≡ next answer
FollowsCall next (Err Failed) todo = todo ≡ faulted
FollowsCall next (Err WantOfMemory) todo = ⊥

-- the names of a user, ascending, where the call answered
abbrev pub ListsInOrder : Option (Told (ℕ × List ℕ)) → ℕ → Result (List (List ℕ)) StoreError → Option (Told (ℕ × List ℕ)) → Type 0
ListsInOrder before user answer now = Lists before user answer now × IfOk answer (λ names. IsStrictlySortedBy name_order names)

module _ {K : Type 0} (told : K → Option (Told (ℕ × List ℕ))) (faults : K → ℕ) where
  -- one call of the shelf: what it told, its count of faults, and what is to be done by its answer
  pub record IsCall {T : Type 0} (Tells : Option (Told (ℕ × List ℕ)) → Result T StoreError → Option (Told (ℕ × List ℕ)) → Type 0) (next : T → PlainTodo) (old : K) (todo : PlainTodo) (new : K) : Type 0 where
    pub answer : Result T StoreError
    pub told_answer : Tells (told old) answer (told new)
    pub fault : CountsFaults (faults old) (faults new) answer
    pub after : FollowsCall next answer todo

  -- a step of a user, with what is to be done: without a call of the shelf, or with one
  abbrev pub TakesStep : ℕ → Step → K → PlainTodo → K → Type 0
  TakesStep user (does wanted) old todo new = (todo ≡ wanted) × (new ≡ old)
  TakesStep user (reads name next) old todo new = IsCall (λ before answer now. Reads by_user_and_name before (user, name) answer now) next old todo new
  TakesStep user (writes name bytes wanted) old todo new = IsCall {T = Unit {0}} (λ before answer now. Writes by_user_and_name before (user, name) bytes answer now) (λ _. wanted) old todo new
  TakesStep user (removes name next) old todo new = IsCall (λ before answer now. Removes by_user_and_name before (user, name) answer now) next old todo new
  TakesStep user (lists next) old todo new = IsCall (λ before answer now. ListsInOrder before user answer now) next old todo new

-- what a shelf tells is kept, its places among it, though it may have had one call more
abbrev pub KeepsEntries : Option (Told (ℕ × List ℕ)) → Option (Told (ℕ × List ℕ)) → Type 0
KeepsEntries before now = IfSome before (λ old. IsSomeAnd now (λ new. (new.places ≡ old.places) × (new.fails ≡ old.fails) × ((new.calls ≡ old.calls) ⊎ (new.calls ≡ one_more old.calls)) × ((key : ℕ × List ℕ) → entry_of by_user_and_name new key ≡ entry_of by_user_and_name old key)))
