-- What devices tell of what they keep, and what calls do to it. Keys are names, or users and names, compared by an order.
use Rattle.std.specs.Prelude.{◌≡◌, ◌==◌, ℕ, Bool, true, false, List, [], ◌∷◌, ◌++◌, Option, None, Some, Result, Ok, Err, IfSome, IsSomeAnd, MatchOption, IfOk, IsSome, if◌then◌else◌}
use Rattle.std.specs.List.{list_any}
use Rattle.std.specs.Ordering.{nat_cmp, ordering_then}
use Rattle.std.specs.declared.cmp.Ordering.{Ordering}
use Rattle.std.specs.BTreeMap.{is_at}
use Rattle.std.specs.Map.{lookup}
use Rattle.std.specs.Str.{bytes_eq}
use Rattle.apl_arrays.specs.Name.{name_order}
use Rattle.apl_io.specs.Faults.{one_more}
use Rattle.apl_io.specs.declared.store_error.StoreError.{StoreError}
use Rattle.apl_io.specs.declared.store_error.StoreError.TheVariants.{Failed, WantOfMemory}

-- what a device tells: the places that it was given, in order; its entries by key, each with its bytes, or with None
-- where they are told no more (of two entries of one key the first counts); the calls so far, and the numbers of the calls
-- that are to fail
pub record Told (K : Type 0) : Type 0 where
  pub places : List (List ℕ)
  pub entries : List (K × Option (List ℕ))
  pub calls : ℕ
  pub fails : List ℕ

-- given one place more, behind the others
abbrev pub placed : {K : Type 0} → List ℕ → Told K → Told K
placed place told = record told { places = told.places ++ place ∷ [] }

-- no place was given, where the device tells what it keeps
abbrev pub KeepsPlaces : {K : Type 0} → Option (Told K) → Option (Told K) → Type 0
KeepsPlaces before now = IfSome before (λ old. IsSomeAnd now (λ new. new.places ≡ old.places))

-- users come first, then names
abbrev pub by_user_and_name : ℕ × List ℕ → ℕ × List ℕ → Ordering
by_user_and_name a b = ordering_then (nat_cmp a.0 b.0) (name_order a.1 b.1)

-- what is told of a key: nothing is kept there, or its bytes, or an entry whose bytes are told no more
abbrev pub entry_of : {K : Type 0} → (K → K → Ordering) → Told K → K → Option (Option (List ℕ))
entry_of order told key = lookup (is_at (order key)) told.entries

-- whether the next of so many calls is to fail
abbrev pub fails_after : ℕ → List ℕ → Bool
fails_after calls fails = list_any (λ number. one_more calls == number) fails

-- a call fails exactly where its number is one of those that are to fail; memory may run out at any call
abbrev pub FailsByNumber : {T : Type 0} → ℕ → List ℕ → Result T StoreError → Type 0
FailsByNumber calls fails (Ok _) = fails_after calls fails ≡ false
FailsByNumber calls fails (Err Failed) = fails_after calls fails ≡ true
FailsByNumber calls fails (Err WantOfMemory) = Unit {0}

-- after one call that changed nothing else
abbrev pub after_call : {K : Type 0} → Told K → Told K
after_call told = record told { calls = one_more told.calls }

-- what may be read of an entry: nothing where none is kept, its bytes, or anything where they are told no more
abbrev pub MayRead : Option (Option (List ℕ)) → Option (List ℕ) → Type 0
MayRead None answer = answer ≡ None
MayRead (Some None) answer = Unit {0}
MayRead (Some (Some bytes)) answer = answer ≡ Some bytes

-- a read: it answers what is told of the key, and changes nothing
pub record IsRead {K : Type 0} (order : K → K → Ordering) (old : Told K) (key : K) (answer : Result (Option (List ℕ)) StoreError) (new : Told K) : Type 0 where
  pub numbered : FailsByNumber old.calls old.fails answer
  pub answered : IfOk answer (MayRead (entry_of order old key))
  pub after : new ≡ after_call old

-- the entry after a call that was to change it: as it was to be, told no more after a failure, or as before where memory ran out
abbrev pub entry_after : {T : Type 0} → Result T StoreError → Option (Option (List ℕ)) → Option (Option (List ℕ)) → Option (Option (List ℕ))
entry_after (Ok _) wanted before = wanted
entry_after (Err Failed) wanted before = Some None
entry_after (Err WantOfMemory) wanted before = before

-- a call that was to change the entry of a key to the wanted one: all other entries are as before, and so are the places
pub record IsChange {K T : Type 0} (order : K → K → Ordering) (old : Told K) (key : K) (wanted : Option (Option (List ℕ))) (answer : Result T StoreError) (new : Told K) : Type 0 where
  pub numbered : FailsByNumber old.calls old.fails answer
  pub counted : new.calls ≡ one_more old.calls
  pub places : new.places ≡ old.places
  pub fails : new.fails ≡ old.fails
  pub entries : (other : K) → entry_of order new other ≡ (if is_at (order key) other then entry_after answer wanted (entry_of order old other) else entry_of order old other)

-- what a removal may answer of an entry: whether there was one; either where it is told no more
abbrev pub MayRemove : Option (Option (List ℕ)) → Bool → Type 0
MayRemove None was_there = was_there ≡ false
MayRemove (Some None) was_there = Unit {0}
MayRemove (Some (Some bytes)) was_there = was_there ≡ true

-- whether a name is among these
abbrev pub has_name : List ℕ → List (List ℕ) → Bool
has_name name names = list_any (bytes_eq name) names

-- the names that may be listed of a user: all whose bytes are told, none that has no entry
abbrev pub MayList : Told (ℕ × List ℕ) → ℕ → List (List ℕ) → Type 0
MayList told user names = (name : List ℕ) → MatchOption (entry_of by_user_and_name told (user, name)) (has_name name names ≡ false) (λ bytes. IsSome bytes → has_name name names ≡ true)

-- a listing: it answers the names of a user, and changes nothing
pub record IsListing (old : Told (ℕ × List ℕ)) (user : ℕ) (answer : Result (List (List ℕ)) StoreError) (new : Told (ℕ × List ℕ)) : Type 0 where
  pub numbered : FailsByNumber old.calls old.fails answer
  pub answered : IfOk answer (MayList old user)
  pub after : new ≡ after_call old

-- a read where the device tells what it keeps
abbrev pub Reads : {K : Type 0} → (K → K → Ordering) → Option (Told K) → K → Result (Option (List ℕ)) StoreError → Option (Told K) → Type 0
Reads order before key answer now = IfSome before (λ old. IsSomeAnd now (IsRead order old key answer))

-- a write of bytes where the device tells what it keeps
abbrev pub Writes : {K T : Type 0} → (K → K → Ordering) → Option (Told K) → K → List ℕ → Result T StoreError → Option (Told K) → Type 0
Writes order before key bytes answer now = IfSome before (λ old. IsSomeAnd now (IsChange order old key (Some (Some bytes)) answer))

-- a removal where the device tells what it keeps
abbrev pub Removes : {K : Type 0} → (K → K → Ordering) → Option (Told K) → K → Result Bool StoreError → Option (Told K) → Type 0
Removes order before key answer now = IfSome before (λ old. IsSomeAnd now (IsChange order old key None answer) × IfOk answer (MayRemove (entry_of order old key)))

-- a listing where the device tells what it keeps
abbrev pub Lists : Option (Told (ℕ × List ℕ)) → ℕ → Result (List (List ℕ)) StoreError → Option (Told (ℕ × List ℕ)) → Type 0
Lists before user answer now = IfSome before (λ old. IsSomeAnd now (IsListing old user answer))
