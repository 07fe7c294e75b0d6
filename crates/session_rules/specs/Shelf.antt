-- What a session asks of its user's shelf, and what it is answered.
use Rattle.std.specs.Prelude.{◌≡◌, ℕ, Bool, List, [], ◌∷◌, Option, Some, None, Result, Ok, Err, drop, map, reverse}
use Rattle.apl_io.specs.Content.{Told, Reads, Removes, Writes, by_user_and_name}
use Rattle.apl_io.specs.declared.store_error.StoreError.{StoreError}
use Rattle.apl_io.specs.declared.store_error.StoreError.TheVariants.{Failed, WantOfMemory}
use Rattle.ws_commands.specs.Shelf.{CountsFaults, ListsInOrder}
use Rattle.ws_commands.specs.Step.{Step, does, reads, writes, removes, lists}
use Rattle.ws_commands.specs.Todo.{PlainTodo, faulted}

-- a call: for the bytes under a name, to keep bytes there, to take away what stands there, or for all names
pub data Call : Type 0 where
  fetch : List ℕ → Call
  store : List ℕ → List ℕ → Call
  discard : List ℕ → Call
  browse : Call

-- a reply: the bytes, if there are any; that they are kept; whether there was anything; the names; or the call failed
pub data ShelfReply : Type 0 where
  fetched : Option (List ℕ) → ShelfReply
  stored : ShelfReply
  discarded : Bool → ShelfReply
  browsed : List (List ℕ) → ShelfReply
  failed : ShelfReply

-- a call with its reply
pub record Exchange : Type 0 where
  pub call : Call
  pub reply : ShelfReply

-- the replies of exchanges, the oldest first
abbrev pub shelf_replies_in : List Exchange → List ShelfReply
shelf_replies_in exchanges = reverse (map (λ exchange. exchange.reply) exchanges)

-- ---- a command

-- the call that a command makes, if it makes one
abbrev pub call_of : Step → Option Call
call_of (does todo) = None
call_of (reads name next) = Some (fetch name)
call_of (writes name bytes todo) = Some (store name bytes)
call_of (removes name next) = Some (discard name)
call_of (lists next) = Some browse

-- the next of these replies; where none is left the call is taken to have failed
abbrev pub next_reply : List ShelfReply → ShelfReply
next_reply [] = failed
next_reply (reply ∷ replies) = reply

-- what is to be done by the bytes that were fetched; by any other reply, what is done where a call failed
abbrev pub by_fetched : (Option (List ℕ) → PlainTodo) → ShelfReply → PlainTodo
by_fetched next (fetched found) = next found
by_fetched next _ = faulted

-- by bytes that are kept
abbrev pub by_stored : PlainTodo → ShelfReply → PlainTodo
by_stored todo stored = todo
by_stored todo _ = faulted

-- by what was taken away
abbrev pub by_discarded : (Bool → PlainTodo) → ShelfReply → PlainTodo
by_discarded next (discarded there) = next there
by_discarded next _ = faulted

-- by the names
abbrev pub by_browsed : (List (List ℕ) → PlainTodo) → ShelfReply → PlainTodo
by_browsed next (browsed names) = next names
by_browsed next _ = faulted

-- what is to be done for a command by the reply to its call
abbrev pub todo_by : Step → ShelfReply → PlainTodo
todo_by (does todo) reply = todo
todo_by (reads name next) reply = by_fetched next reply
todo_by (writes name bytes todo) reply = by_stored todo reply
todo_by (removes name next) reply = by_discarded next reply
todo_by (lists next) reply = by_browsed next reply

-- ---- a run of the shelf

-- an answer of the shelf as a reply; where memory ran out it is none
abbrev pub reply_as : {T : Type 0} → (T → ShelfReply) → Result T StoreError → Option ShelfReply
reply_as told (Ok answer) = Some (told answer)
reply_as told (Err Failed) = Some failed
reply_as told (Err WantOfMemory) = None

module _ {K : Type 0} (told : K → Option (Told (ℕ × List ℕ))) (faults : K → ℕ) where
  -- one call of the shelf leads from one state of it to another: it answers as it tells, and its count of faults, which never falls, rose where the call failed
  pub record IsReplied {T : Type 0} (Tells : Option (Told (ℕ × List ℕ)) → Result T StoreError → Option (Told (ℕ × List ℕ)) → Type 0) (said : T → ShelfReply) (old : K) (reply : ShelfReply) (new : K) : Type 0 where
    pub answer : Result T StoreError
    pub told_answer : Tells (told old) answer (told new)
    pub fault : CountsFaults (faults old) (faults new) answer
    pub is_reply : reply_as said answer ≡ Some reply

  -- a call of a user with its reply
  abbrev pub Serves : ℕ → Call → K → ShelfReply → K → Type 0
  Serves user (fetch name) old reply new = IsReplied (λ before answer now. Reads by_user_and_name before (user, name) answer now) fetched old reply new
  Serves user (store name bytes) old reply new = IsReplied {T = Unit {0}} (λ before answer now. Writes by_user_and_name before (user, name) bytes answer now) (λ _. stored) old reply new
  Serves user (discard name) old reply new = IsReplied (λ before answer now. Removes by_user_and_name before (user, name) answer now) discarded old reply new
  Serves user browse old reply new = IsReplied (λ before answer now. ListsInOrder before user answer now) browsed old reply new

  -- these exchanges of a user, the newest first, lead the shelf from where it was at the start to where it is at the end
  abbrev pub IsShelfRun : ℕ → K → List Exchange → K → Type 0
  IsShelfRun user start [] end = end ≡ start
  IsShelfRun user start (exchange ∷ earlier) end = (before : K) × IsShelfRun user start earlier before × Serves user exchange.call before exchange.reply end
