-- What a look-up shows, as plain data.
use Rattle.std.specs.Option.{option_copied}
use Rattle.apl_workspace.specs.declared.seen.Seen.{Seen}
use Rattle.apl_workspace.specs.declared.seen.Seen.TheVariants as seen
use Rattle.apl_workspace.specs.declared.meaning.Meaning.{Meaning}
use Rattle.apl_workspace.specs.declared.meaning.Meaning.TheVariants.{Nothing, Value, Function, Label, Shared}

-- what is seen, wherever it lies
abbrev pub plain_seen : Seen → Meaning
plain_seen seen.Nothing = Nothing
plain_seen (seen.Value value) = Value value.now
plain_seen (seen.Function function) = Function function.now
plain_seen (seen.Label line) = Label line
plain_seen (seen.Shared copy) = Shared (option_copied copy)
