use Rattle.std.proofs.Common.{refl}
use Rattle.std.specs.Fmt.{digits}
use Rattle.line_scanner.specs.Number.{next_number, next_numbers, number}
use Rattle.line_scanner.specs.Role.{role_of}
use Rattle.line_scanner.specs.Scanning.{chars_from, front_of, scan_from}
use Rattle.line_trees.specs.Building.{attached, built_by, built_from}
use Rattle.line_trees.specs.Marks.{marks_from, may_end, step}
use Rattle.line_trees.specs.Signs.{dyad_of, fold_of, mix1_of, mix2_of, monad_of}
use Rattle.line_trees.specs.Symbols.{other_sign, sign_symbol}
use Rattle.line_trees.specs.Trees.{trees_from}
use Rattle.apl_workspace.specs.Header.{header_of, locals_in}
use Rattle.apl_workspace.specs.Names.{all_differ}
use Rattle.apl_meaning.specs.Meaning.{run_below}
use Rattle.apl_meaning.proofs.worked.single.what_is_printed.Goals as goal

pub returns-clause-nothing : goal.returns-clause-nothing
unfolding digits next_number next_numbers number role_of chars_from front_of scan_from attached built_by built_from marks_from may_end step dyad_of fold_of mix1_of mix2_of monad_of other_sign sign_symbol trees_from header_of locals_in all_differ run_below
returns-clause-nothing c = refl

pub returns-clause-assignment : goal.returns-clause-assignment
unfolding digits next_number next_numbers number role_of chars_from front_of scan_from attached built_by built_from marks_from may_end step dyad_of fold_of mix1_of mix2_of monad_of other_sign sign_symbol trees_from header_of locals_in all_differ run_below
returns-clause-assignment c = refl

pub returns-clause-in_parentheses : goal.returns-clause-in_parentheses
unfolding digits next_number next_numbers number role_of chars_from front_of scan_from attached built_by built_from marks_from may_end step dyad_of fold_of mix1_of mix2_of monad_of other_sign sign_symbol trees_from header_of locals_in all_differ run_below
returns-clause-in_parentheses c = refl

pub returns-clause-inside : goal.returns-clause-inside
unfolding digits next_number next_numbers number role_of chars_from front_of scan_from attached built_by built_from marks_from may_end step dyad_of fold_of mix1_of mix2_of monad_of other_sign sign_symbol trees_from header_of locals_in all_differ run_below
returns-clause-inside c = refl

pub returns-clause-several : goal.returns-clause-several
unfolding digits next_number next_numbers number role_of chars_from front_of scan_from attached built_by built_from marks_from may_end step dyad_of fold_of mix1_of mix2_of monad_of other_sign sign_symbol trees_from header_of locals_in all_differ run_below
returns-clause-several c = refl

pub returns-clause-items : goal.returns-clause-items
unfolding digits next_number next_numbers number role_of chars_from front_of scan_from attached built_by built_from marks_from may_end step dyad_of fold_of mix1_of mix2_of monad_of other_sign sign_symbol trees_from header_of locals_in all_differ run_below
returns-clause-items c = refl

pub returns-clause-items_inside : goal.returns-clause-items_inside
unfolding digits next_number next_numbers number role_of chars_from front_of scan_from attached built_by built_from marks_from may_end step dyad_of fold_of mix1_of mix2_of monad_of other_sign sign_symbol trees_from header_of locals_in all_differ run_below
returns-clause-items_inside c = refl

pub returns-clause-empty : goal.returns-clause-empty
unfolding digits next_number next_numbers number role_of chars_from front_of scan_from attached built_by built_from marks_from may_end step dyad_of fold_of mix1_of mix2_of monad_of other_sign sign_symbol trees_from header_of locals_in all_differ run_below
returns-clause-empty c = refl
