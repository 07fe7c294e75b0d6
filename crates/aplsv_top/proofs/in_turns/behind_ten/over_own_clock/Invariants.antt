use Rattle.aux_choice.specs.OneOf.{is_first}
use Rattle.aplsv_top.proofs.in_turns.behind_ten.over_own_clock.Given as goal

abbrev pub ghosts-over_ten : goal.ghosts-over_ten
ghosts-over_ten g a = record { is_first = is_first a.ten }
