use Rattle.std.proofs.Common.{◌≡◌, ◌++◌, true, length}
use Rattle.std.specs.List.{list_all}
use Rattle.apl_arrays.specs.Name.{is_name}
use Rattle.ws_commands.specs.Words.{words_in}
use Rattle.ws_commands.proofs.arguments.names_in.Given as goal

-- the words so far are these names
abbrev pub invariant-loop-word : goal.invariant-loop-word
invariant-loop-word l = record {
  so : l.names.items ++ words_in l.rest ≡ words_in l.line;
  are : list_all is_name l.names.items ≡ true;
}

abbrev pub decreases-loop-word : goal.decreases-loop-word
decreases-loop-word l = length l.rest
