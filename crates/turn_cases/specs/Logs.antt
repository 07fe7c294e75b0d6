-- The journal of the cases: the party of each entry.
use Rattle.std.specs.Prelude.{ℕ, List, [], reverse}
use Rattle.turn_cases.specs.declared.log.Log.{Log}

-- the entries, the newest first
abbrev pub entries_of : Log → List ℕ
entries_of log = reverse log.parties.items

-- nobody is a member
abbrev pub nobody : Log → List ℕ
nobody log = []

-- an entry is its party
abbrev pub itself : ℕ → ℕ
itself party = party
