use Rattle.std.specs.Prelude.{ℕ, List, Option, option_map}
use Rattle.aplsv_devices.specs.declared.source.StdSource.{StdSource}

-- what a source kept, or None where it keeps nothing any more
abbrev pub source_bytes : {R : Type 0} → StdSource R → Option (List ℕ)
source_bytes source = option_map (λ bytes. bytes.items) source.kept
