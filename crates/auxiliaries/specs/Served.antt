-- The text auxiliary over a store: the protocol, and what it does to the store.
use Rattle.std.specs.Prelude.{◌≡◌, ◌≤◌, ◌⊎◌, ℕ, List, Option, Result, IfSome, IsSomeAnd, IsErrOf}
use Rattle.apl_arrays.specs.Array.{PlainArray}
use Rattle.apl_arrays.specs.Name.{name_order}
use Rattle.apl_io.specs.Content.{Told, entry_of, Reads, Writes}
use Rattle.apl_io.specs.Faults.{Rose, one_more}
use Rattle.apl_io.specs.declared.store_error.StoreError.{StoreError}
use Rattle.apl_io.specs.declared.store_error.StoreError.TheVariants.{Failed}
use Rattle.auxiliaries.specs.Request.{request_of}
use Rattle.auxiliaries.specs.Protocol.{TextState, idle, Step, answers, reads, replaces, protocol_step, AfterRead, AfterReplace}

-- a store, and where the protocol over it stands
pub record Served (T : Type 0) : Type 0 where
  pub store : T
  pub state : TextState

-- a call that failed raised the count of faults, which never falls
pub record CountsFaults {R : Type 0} (before now : ℕ) (answer : Result R StoreError) : Type 0 where
  pub counted : before ≤ now
  pub cause : IsErrOf answer Failed → Rose before now

module _ {T : Type 0} (told : T → Option (Told (List ℕ))) (faults : T → ℕ) where
  -- one call of the store for a file, and what follows from its answer
  pub record IsReadStep (old : Served T) (name : List ℕ) (answer : PlainArray) (new : Served T) : Type 0 where
    pub reply : Result (Option (List ℕ)) StoreError
    pub told_reply : Reads name_order (told old.store) name reply (told new.store)
    pub fault : CountsFaults (faults old.store) (faults new.store) reply
    pub after : AfterRead reply answer new.state

  -- one call of the store to replace a file, and what follows from its answer
  pub record IsReplaceStep (old : Served T) (name bytes : List ℕ) (answer : PlainArray) (new : Served T) : Type 0 where
    pub reply : Result (Unit {0}) StoreError
    pub told_reply : Writes name_order (told old.store) name bytes reply (told new.store)
    pub fault : CountsFaults (faults old.store) (faults new.store) reply
    pub after : AfterReplace reply old.state answer new.state

  -- a step with its answer: without a call of the store, or with one
  abbrev pub TakesStep : Step → Served T → PlainArray → Served T → Type 0
  TakesStep (answers value state) old answer new = (answer ≡ value) × (new ≡ record { store = old.store; state = state })
  TakesStep (reads name) old answer new = IsReadStep old name answer new
  TakesStep (replaces name bytes) old answer new = IsReplaceStep old name bytes answer new

  -- the answer to a value
  abbrev pub Replies : Served T → PlainArray → PlainArray → Served T → Type 0
  Replies old value answer new = TakesStep (protocol_step (request_of value) old.state) old answer new

-- the protocol begins anew
abbrev pub forgotten : {T : Type 0} → Served T → Served T
forgotten served = record { store = served.store; state = idle }

-- what a store tells is kept, its places among it, though it may have had one call more
abbrev pub KeepsFiles : Option (Told (List ℕ)) → Option (Told (List ℕ)) → Type 0
KeepsFiles before now = IfSome before (λ old. IsSomeAnd now (λ new. (new.places ≡ old.places) × (new.fails ≡ old.fails) × ((new.calls ≡ old.calls) ⊎ (new.calls ≡ one_more old.calls)) × ((name : List ℕ) → entry_of name_order new name ≡ entry_of name_order old name)))

module _ {T : Type 0} (told : T → Option (Told (List ℕ))) (faults : T → ℕ) where
  -- where memory ran out over an answer: the protocol stands where it stood, the files are kept, and no fault is forgotten
  abbrev pub StaysServed : Served T → Served T → Type 0
  StaysServed old new = (new.state ≡ old.state) × KeepsFiles (told old.store) (told new.store) × (faults old.store ≤ faults new.store)
