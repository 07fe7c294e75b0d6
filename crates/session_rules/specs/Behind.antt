-- What answers behind the auxiliaries of a run: something of one type behind the clock, and something of another behind text files.
use Rattle.std.specs.Prelude.{ℕ}
use Rattle.apl_arrays.specs.Array.{PlainArray}
use Rattle.aux_parties.specs.declared.auxiliary.AuxiliaryKind.{AuxiliaryKind}
use Rattle.aux_parties.specs.declared.auxiliary.AuxiliaryKind.TheVariants.{Clock, TextFiles}

-- the states of what answers behind an auxiliary
abbrev pub Behind : Type 0 → Type 0 → AuxiliaryKind → Type 0
Behind X Y Clock = X
Behind X Y TextFiles = Y

-- a state for each auxiliary
abbrev pub of_each : {X Y : Type 0} → X → Y → (kind : AuxiliaryKind) → Behind X Y kind
of_each ten twenty Clock = ten
of_each ten twenty TextFiles = twenty

-- what each does where it begins with a party
abbrev pub forgets_of : {X Y : Type 0} → (X → ℕ → X → Type 0) → (Y → ℕ → Y → Type 0) → (kind : AuxiliaryKind) → Behind X Y kind → ℕ → Behind X Y kind → Type 0
forgets_of ten twenty Clock = ten
forgets_of ten twenty TextFiles = twenty

-- and where it replies to a party's value
abbrev pub replies_of : {X Y : Type 0} → (X → ℕ → PlainArray → PlainArray → X → Type 0) → (Y → ℕ → PlainArray → PlainArray → Y → Type 0) → (kind : AuxiliaryKind) → Behind X Y kind → ℕ → PlainArray → PlainArray → Behind X Y kind → Type 0
replies_of ten twenty Clock = ten
replies_of ten twenty TextFiles = twenty
