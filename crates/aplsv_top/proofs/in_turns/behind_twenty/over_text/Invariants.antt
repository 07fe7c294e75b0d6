use Rattle.aux_choice.specs.OneOf.{is_first}
use Rattle.aplsv_top.proofs.in_turns.behind_twenty.over_text.Given as goal

abbrev pub ghosts-over_files : goal.ghosts-over_files
ghosts-over_files g a = record { is_first = is_first a.files }
