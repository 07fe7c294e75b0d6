-- Calls of the shelf, as their traits tell them.
use Rattle.std.proofs.Common.{◌≡◌, ◌≤◌, ℕ, List, Option, Result, Ok, Err, refl}
use Rattle.std.specs.List.Sorted.{IsStrictlySortedBy}
use Rattle.std.specs.Prelude.{IfOk, IsErrOf}
use Rattle.apl_arrays.specs.List.{Listed}
use Rattle.apl_arrays.specs.Name.{name_order}
use Rattle.apl_io.specs.Content.{Told, Lists, Reads, by_user_and_name}
use Rattle.apl_io.specs.Faults.{Rose}
use Rattle.apl_io.specs.Replies.{plain_names, plain_read}
use Rattle.apl_io.specs.declared.store_error.StoreError.{StoreError}
use Rattle.apl_io.specs.declared.store_error.StoreError.TheVariants.{Failed, WantOfMemory}
use Rattle.ws_commands.specs.Shelf.{FollowsCall, IsCall, ListsInOrder}
use Rattle.ws_commands.specs.Todo.{PlainTodo}

read_failed : (reply : Result (Option (Listed ℕ)) StoreError) → plain_read reply ≡ Err Failed → reply ≡ Err Failed
read_failed (Ok bytes) e = absurd cc
read_failed (Err Failed) e = refl
read_failed (Err WantOfMemory) e = absurd cc

listing_failed : (reply : Result (Listed (List ℕ)) StoreError) → plain_names reply ≡ Err Failed → reply ≡ Err Failed
listing_failed (Ok names) e = absurd cc
listing_failed (Err Failed) e = refl
listing_failed (Err WantOfMemory) e = absurd cc

names_in_order : (reply : Result (Listed (List ℕ)) StoreError) → IfOk reply (λ names. IsStrictlySortedBy name_order names.items) → IfOk (plain_names reply) (λ names. IsStrictlySortedBy name_order names)
names_in_order (Ok names) ascending = ascending
names_in_order (Err why) ascending = tt

module _ {K : Type 0} (told : K → Option (Told (ℕ × List ℕ))) (faults : K → ℕ) where
  -- a read, and what follows from it
  read_call : (user : ℕ) (name : List ℕ) (next : Option (List ℕ) → PlainTodo) (old : K) (todo : PlainTodo) (new : K) (reply : Result (Option (Listed ℕ)) StoreError) → Reads by_user_and_name (told old) (user, name) (plain_read reply) (told new) → faults old ≤ faults new
      → (IsErrOf reply Failed → Rose (faults old) (faults new)) → FollowsCall next (plain_read reply) todo → IsCall told faults (λ before answer now. Reads by_user_and_name before (user, name) answer now) next old todo new
  read_call user name next old todo new reply reads counted cause after =
      record { answer = plain_read reply; told_answer = reads; fault = record { counted = counted; cause = λ failed. cause (read_failed reply failed) }; after = after }

  -- a listing, and what follows from it
  listing_call : (user : ℕ) (next : List (List ℕ) → PlainTodo) (old : K) (todo : PlainTodo) (new : K) (reply : Result (Listed (List ℕ)) StoreError) → Lists (told old) user (plain_names reply) (told new) → IfOk reply (λ names. IsStrictlySortedBy name_order names.items) → faults old ≤ faults new → (IsErrOf reply Failed → Rose (faults old) (faults new))
      → FollowsCall next (plain_names reply) todo → IsCall told faults (λ before answer now. ListsInOrder before user answer now) next old todo new
  listing_call user next old todo new reply lists ascending counted cause after =
      record { answer = plain_names reply; told_answer = (lists, names_in_order reply ascending); fault = record { counted = counted; cause = λ failed. cause (listing_failed reply failed) }; after = after }

  -- the same of a result
  pub read_result : {T E : Type 0} (view : T → PlainTodo) (user : ℕ) (name : List ℕ) (next : Option (List ℕ) → PlainTodo) (old new : K) (reply : Result (Option (Listed ℕ)) StoreError) (result : Result T E) → Reads by_user_and_name (told old) (user, name) (plain_read reply) (told new)
      → faults old ≤ faults new → (IsErrOf reply Failed → Rose (faults old) (faults new)) → IfOk result (λ todo. FollowsCall next (plain_read reply) (view todo))
      → IfOk result (λ todo. IsCall told faults (λ before answer now. Reads by_user_and_name before (user, name) answer now) next old (view todo) new)
  read_result view user name next old new reply (Ok todo) reads counted cause after = read_call user name next old (view todo) new reply reads counted cause after
  read_result view user name next old new reply (Err why) reads counted cause after = tt

  pub listing_result : {T E : Type 0} (view : T → PlainTodo) (user : ℕ) (next : List (List ℕ) → PlainTodo) (old new : K) (reply : Result (Listed (List ℕ)) StoreError) (result : Result T E) → Lists (told old) user (plain_names reply) (told new) → IfOk reply (λ names. IsStrictlySortedBy name_order names.items) → faults old ≤ faults new
      → (IsErrOf reply Failed → Rose (faults old) (faults new)) → IfOk result (λ todo. FollowsCall next (plain_names reply) (view todo)) → IfOk result (λ todo. IsCall told faults (λ before answer now. ListsInOrder before user answer now) next old (view todo) new)
  listing_result view user next old new reply (Ok todo) lists ascending counted cause after = listing_call user next old (view todo) new reply lists ascending counted cause after
  listing_result view user next old new reply (Err why) lists ascending counted cause after = tt
