-- Component files in a store: the protocol, and what it does to the store.
use Rattle.std.specs.Prelude.{◌≡◌, ◌≤◌, ℕ, List, Option, Result, IfSome, IsSomeAnd}
use Rattle.apl_arrays.specs.Array.{PlainArray}
use Rattle.apl_arrays.specs.Name.{name_order}
use Rattle.apl_io.specs.Content.{Told, entry_of, Reads, Writes}
use Rattle.apl_io.specs.declared.store_error.StoreError.{StoreError}
use Rattle.auxiliaries.specs.Protocol.{code}
use Rattle.auxiliaries.specs.Served.{CountsFaults}
use Rattle.aux_components.specs.Protocol.{FileState, idle, Step, answers, asks, changes, protocol_step, AfterAsked, DueChange, refuses, writes, IsDue, AfterWritten}

-- a store, and where the protocol over it stands
pub record Filed (T : Type 0) : Type 0 where
  pub store : T
  pub state : FileState

module _ {T : Type 0} (told : T → Option (Told (List ℕ))) (faults : T → ℕ) where
  -- one call of the store for a file, and what follows from its answer
  pub record IsAskedStep (old : Filed T) (name : List ℕ) (number : Option ℕ) (answer : PlainArray) (new : Filed T) : Type 0 where
    pub reply : Result (Option (List ℕ)) StoreError
    pub told_reply : Reads name_order (told old.store) name reply (told new.store)
    pub fault : CountsFaults (faults old.store) (faults new.store) reply
    pub after : AfterAsked number reply answer new.state

  -- one call of the store to replace a file
  pub record IsReplaced (before : T) (name bytes : List ℕ) (answer : PlainArray) (now : T) : Type 0 where
    pub reply : Result (Unit {0}) StoreError
    pub told_reply : Writes name_order (told before) name bytes reply (told now)
    pub fault : CountsFaults (faults before) (faults now) reply
    pub after : AfterWritten reply answer

  -- what is due is done
  abbrev pub IsDone : DueChange → T → List ℕ → PlainArray → T → Type 0
  IsDone (refuses number) before name answer now = (answer ≡ code number) × (now ≡ before)
  IsDone (writes bytes) before name answer now = IsReplaced before name bytes answer now

  -- one call of the store for a file that is to be changed, and what is due then
  pub record IsChangeStep (old : T) (name : List ℕ) (number : Option ℕ) (value answer : PlainArray) (new : T) : Type 0 where
    pub between : T
    pub reply : Result (Option (List ℕ)) StoreError
    pub told_reply : Reads name_order (told old) name reply (told between)
    pub fault : CountsFaults (faults old) (faults between) reply
    pub due : DueChange
    pub is_due : IsDue number value reply due
    pub done : IsDone due between name answer new

  -- a step with its answer
  abbrev pub TakesStep : Step → Filed T → PlainArray → Filed T → Type 0
  TakesStep (answers value state) old answer new = (answer ≡ value) × (new ≡ record { store = old.store; state = state })
  TakesStep (asks name number) old answer new = IsAskedStep old name number answer new
  TakesStep (changes name number value) old answer new = IsChangeStep old.store name number value answer new.store × (new.state ≡ idle)

  -- the answer to a value
  abbrev pub Replies : Filed T → PlainArray → PlainArray → Filed T → Type 0
  Replies old value answer new = TakesStep (protocol_step value old.state) old answer new

-- the protocol begins anew
abbrev pub forgotten : {T : Type 0} → Filed T → Filed T
forgotten filed = record { store = filed.store; state = idle }

-- what a store tells of its files is kept, though it may have had calls more
abbrev pub KeepsFiles : Option (Told (List ℕ)) → Option (Told (List ℕ)) → Type 0
KeepsFiles before now = IfSome before (λ old. IsSomeAnd now (λ new. (new.fails ≡ old.fails) × ((name : List ℕ) → entry_of name_order new name ≡ entry_of name_order old name)))

module _ {T : Type 0} (told : T → Option (Told (List ℕ))) (faults : T → ℕ) where
  -- where memory ran out over an answer: the protocol stands where it stood, the files are kept, and no fault is forgotten
  abbrev pub StaysFiled : Filed T → Filed T → Type 0
  StaysFiled old new = (new.state ≡ old.state) × KeepsFiles (told old.store) (told new.store) × (faults old.store ≤ faults new.store)
