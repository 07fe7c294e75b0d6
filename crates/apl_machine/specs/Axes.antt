-- The number of the axis that a value names.
use Rattle.std.specs.Prelude.{◌≡◌, ℤ, Option, Some, None, Ok, Err}
use Rattle.apl_arrays.specs.Array.{PlainArray}
use Rattle.apl_arrays.specs.declared.report.Fail.{Fail}
use Rattle.apl_arrays.specs.declared.report.Fail.TheVariants as fail
use Rattle.apl_meaning.specs.Verbs.{named_axis}

-- this is the number of an axis, where there is an axis
abbrev pub IsAxis : Option PlainArray → Option ℤ → Type 0
IsAxis None number = number ≡ None
IsAxis (Some axis) None = ⊥
IsAxis (Some axis) (Some number) = named_axis axis ≡ Ok number

-- why an axis has no number
abbrev pub IsNoAxis : Option PlainArray → Fail → Type 0
IsNoAxis None why = ⊥
IsNoAxis (Some axis) (fail.Report report) = named_axis axis ≡ Err report
IsNoAxis (Some axis) fail.WantOfMemory = ⊥
