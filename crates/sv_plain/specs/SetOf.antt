-- What a reply is.
use Rattle.std.specs.Prelude.{◌≡◌, ℕ, List}
use Rattle.apl_arrays.specs.Array.{PlainArray}
use Rattle.sv_events.specs.declared.event.Act.{Act}
use Rattle.sv_events.specs.declared.event.Act.TheVariants.{Set}

-- the act sets some value on the local name
abbrev pub IsSetOf : List ℕ → Act → Type 0
IsSetOf local act = (v : PlainArray) × (act ≡ Set local v)
