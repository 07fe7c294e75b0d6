use Rattle.std.proofs.Common.{refl}
use Rattle.std.specs.Fmt.{digits}
use Rattle.line_scanner.specs.Number.{next_number, next_numbers, number}
use Rattle.line_scanner.specs.Role.{role_of}
use Rattle.line_scanner.specs.Scanning.{chars_from, front_of, scan_from}
use Rattle.line_trees.specs.Building.{attached, built_by, built_from}
use Rattle.line_trees.specs.Marks.{marks_from, may_end, step}
use Rattle.line_trees.specs.Signs.{dyad_of, fold_of, mix1_of, mix2_of, monad_of}
use Rattle.line_trees.specs.Symbols.{other_sign, sign_symbol}
use Rattle.line_trees.specs.Trees.{trees_from}
use Rattle.apl_workspace.specs.Header.{header_of, locals_in}
use Rattle.apl_workspace.specs.Names.{all_differ}
use Rattle.apl_meaning.specs.Meaning.{run_below}
use Rattle.session_rules.proofs.worked.commands.Goals as goal

pub returns-clause-incorrect : goal.returns-clause-incorrect
unfolding digits next_number next_numbers number role_of chars_from front_of scan_from attached built_by built_from marks_from may_end step dyad_of fold_of mix1_of mix2_of monad_of other_sign sign_symbol trees_from header_of locals_in all_differ run_below
returns-clause-incorrect c = refl

pub returns-clause-waits : goal.returns-clause-waits
unfolding digits next_number next_numbers number role_of chars_from front_of scan_from attached built_by built_from marks_from may_end step dyad_of fold_of mix1_of mix2_of monad_of other_sign sign_symbol trees_from header_of locals_in all_differ run_below
returns-clause-waits c = refl

pub returns-clause-so_far : goal.returns-clause-so_far
unfolding digits next_number next_numbers number role_of chars_from front_of scan_from attached built_by built_from marks_from may_end step dyad_of fold_of mix1_of mix2_of monad_of other_sign sign_symbol trees_from header_of locals_in all_differ run_below
returns-clause-so_far c = refl

pub returns-clause-cleared : goal.returns-clause-cleared
unfolding digits next_number next_numbers number role_of chars_from front_of scan_from attached built_by built_from marks_from may_end step dyad_of fold_of mix1_of mix2_of monad_of other_sign sign_symbol trees_from header_of locals_in all_differ run_below
returns-clause-cleared c = refl

pub returns-clause-erased : goal.returns-clause-erased
unfolding digits next_number next_numbers number role_of chars_from front_of scan_from attached built_by built_from marks_from may_end step dyad_of fold_of mix1_of mix2_of monad_of other_sign sign_symbol trees_from header_of locals_in all_differ run_below
returns-clause-erased c = refl

pub returns-clause-journal_full : goal.returns-clause-journal_full
unfolding digits next_number next_numbers number role_of chars_from front_of scan_from attached built_by built_from marks_from may_end step dyad_of fold_of mix1_of mix2_of monad_of other_sign sign_symbol trees_from header_of locals_in all_differ run_below
returns-clause-journal_full c = refl

pub returns-clause-off : goal.returns-clause-off
unfolding digits next_number next_numbers number role_of chars_from front_of scan_from attached built_by built_from marks_from may_end step dyad_of fold_of mix1_of mix2_of monad_of other_sign sign_symbol trees_from header_of locals_in all_differ run_below
returns-clause-off c = refl

pub returns-clause-defined : goal.returns-clause-defined
unfolding digits next_number next_numbers number role_of chars_from front_of scan_from attached built_by built_from marks_from may_end step dyad_of fold_of mix1_of mix2_of monad_of other_sign sign_symbol trees_from header_of locals_in all_differ run_below
returns-clause-defined c = refl
