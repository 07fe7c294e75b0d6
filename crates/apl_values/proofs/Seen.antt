-- What is seen as shared, and the value that an answer brings.
use Rattle.std.proofs.Common.{◌≡◌, ℕ, true, List, refl, ap}
use Rattle.std.specs.Prelude.{Option, Some, None, Ok, Err, ok_or}
use Rattle.std.proofs.lemmas.Bool.{false≢true}
use Rattle.apl_arrays.specs.Array.{PlainArray}
use Rattle.apl_workspace.specs.Meaning.{is_shared_meaning}
use Rattle.apl_workspace.specs.Workspace.{PlainWorkspace, with_global}
use Rattle.apl_workspace.specs.declared.meaning.Meaning.{Meaning}
use Rattle.apl_workspace.specs.declared.meaning.Meaning.TheVariants as meaning
use Rattle.apl_arrays.specs.declared.report.Report.{Report}

pub shared_as : (seen : Meaning) → is_shared_meaning seen ≡ true → (copy : Option PlainArray) × (seen ≡ meaning.Shared copy)
shared_as meaning.Nothing is = absurd (false≢true is)
shared_as (meaning.Value value) is = absurd (false≢true is)
shared_as (meaning.Function function) is = absurd (false≢true is)
shared_as (meaning.Label line) is = absurd (false≢true is)
shared_as (meaning.Shared copy) is = (copy, refl)

-- a workspace in which the own copy of a name is this value
abbrev pub renewed : List ℕ → PlainArray → PlainWorkspace → PlainWorkspace
renewed name value w = with_global w name (meaning.Shared (Some value))

pub got_value : (found : Option PlainArray) (why : Report) (value : PlainArray) → Ok value ≡ ok_or found why → found ≡ Some value
got_value None why value is = absurd (let no : Ok value ≡ Err why = is in cc)
got_value (Some other) why value is = let ok : Ok value ≡ Ok other = is in let same : other ≡ value = cc in ap Some same
