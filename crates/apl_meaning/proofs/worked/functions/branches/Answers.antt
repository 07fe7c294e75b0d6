use Rattle.std.proofs.Common.{refl}
use Rattle.std.specs.Fmt.{digits}
use Rattle.line_scanner.specs.Number.{next_number, next_numbers, number}
use Rattle.line_scanner.specs.Role.{role_of}
use Rattle.line_scanner.specs.Scanning.{chars_from, front_of, scan_from}
use Rattle.line_trees.specs.Building.{attached, built_by, built_from}
use Rattle.line_trees.specs.Marks.{marks_from, may_end, step}
use Rattle.line_trees.specs.Signs.{dyad_of, fold_of, mix1_of, mix2_of, monad_of}
use Rattle.line_trees.specs.Symbols.{other_sign, sign_symbol}
use Rattle.line_trees.specs.Trees.{trees_from}
use Rattle.apl_workspace.specs.Header.{header_of, locals_in}
use Rattle.apl_workspace.specs.Names.{all_differ}
use Rattle.apl_meaning.specs.Meaning.{run_below}
use Rattle.apl_meaning.proofs.worked.functions.branches.Goals as goal

pub returns-clause-label : goal.returns-clause-label
unfolding digits next_number next_numbers number role_of chars_from front_of scan_from attached built_by built_from marks_from may_end step dyad_of fold_of mix1_of mix2_of monad_of other_sign sign_symbol trees_from header_of locals_in all_differ run_below
returns-clause-label c = refl

pub returns-clause-loops : goal.returns-clause-loops
unfolding digits next_number next_numbers number role_of chars_from front_of scan_from attached built_by built_from marks_from may_end step dyad_of fold_of mix1_of mix2_of monad_of other_sign sign_symbol trees_from header_of locals_in all_differ run_below
returns-clause-loops c = refl

pub returns-clause-onward : goal.returns-clause-onward
unfolding digits next_number next_numbers number role_of chars_from front_of scan_from attached built_by built_from marks_from may_end step dyad_of fold_of mix1_of mix2_of monad_of other_sign sign_symbol trees_from header_of locals_in all_differ run_below
returns-clause-onward c = refl

pub returns-clause-first : goal.returns-clause-first
unfolding digits next_number next_numbers number role_of chars_from front_of scan_from attached built_by built_from marks_from may_end step dyad_of fold_of mix1_of mix2_of monad_of other_sign sign_symbol trees_from header_of locals_in all_differ run_below
returns-clause-first c = refl

pub returns-clause-out : goal.returns-clause-out
unfolding digits next_number next_numbers number role_of chars_from front_of scan_from attached built_by built_from marks_from may_end step dyad_of fold_of mix1_of mix2_of monad_of other_sign sign_symbol trees_from header_of locals_in all_differ run_below
returns-clause-out c = refl

pub returns-clause-negative : goal.returns-clause-negative
unfolding digits next_number next_numbers number role_of chars_from front_of scan_from attached built_by built_from marks_from may_end step dyad_of fold_of mix1_of mix2_of monad_of other_sign sign_symbol trees_from header_of locals_in all_differ run_below
returns-clause-negative c = refl
