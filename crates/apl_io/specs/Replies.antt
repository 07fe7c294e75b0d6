-- The answers of devices without the room of their lists.
use Rattle.std.specs.Prelude.{ℕ, List, Option, None, Some, Result, Ok, Err}
use Rattle.apl_arrays.specs.List.{Listed}
use Rattle.apl_io.specs.declared.store_error.StoreError.{StoreError}

-- bytes, whatever room is left for more
abbrev pub plain_bytes : Option (Listed ℕ) → Option (List ℕ)
plain_bytes None = None
plain_bytes (Some bytes) = Some bytes.items

-- the answer of a read
abbrev pub plain_read : Result (Option (Listed ℕ)) StoreError → Result (Option (List ℕ)) StoreError
plain_read (Ok bytes) = Ok (plain_bytes bytes)
plain_read (Err error) = Err error

-- the answer of a listing
abbrev pub plain_names : Result (Listed (List ℕ)) StoreError → Result (List (List ℕ)) StoreError
plain_names (Ok names) = Ok names.items
plain_names (Err error) = Err error
