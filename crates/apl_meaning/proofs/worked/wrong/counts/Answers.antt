use Rattle.std.proofs.Common.{refl}
use Rattle.std.specs.Prelude.{◌==◌}
use Rattle.std.specs.Fmt.{digits}
use Rattle.line_scanner.specs.Number.{next_number, next_numbers, number}
use Rattle.line_scanner.specs.Role.{role_of}
use Rattle.line_scanner.specs.Scanning.{chars_from, front_of, scan_from}
use Rattle.line_trees.specs.Building.{attached, built_by, built_from}
use Rattle.line_trees.specs.Marks.{marks_from, may_end, step}
use Rattle.line_trees.specs.Signs.{dyad_of, fold_of, mix1_of, mix2_of, monad_of}
use Rattle.line_trees.specs.Symbols.{other_sign, sign_symbol}
use Rattle.line_trees.specs.Trees.{trees_from}
use Rattle.apl_workspace.specs.Header.{header_of, locals_in}
use Rattle.apl_workspace.specs.Names.{all_differ}
use Rattle.apl_meaning.specs.Meaning.{run_below}
use Rattle.apl_meaning.proofs.Differ.{same_texts, told_apart}
use Rattle.apl_meaning.proofs.worked.wrong.counts.Goals as goal

pub returns-clause-counted_twice : goal.returns-clause-counted_twice
unfolding digits next_number next_numbers number role_of chars_from front_of scan_from attached built_by built_from marks_from may_end step dyad_of fold_of mix1_of mix2_of monad_of other_sign sign_symbol trees_from header_of locals_in all_differ run_below
returns-clause-counted_twice c = λ e. told_apart ◌==◌ e refl refl

pub returns-clause-uncounted : goal.returns-clause-uncounted
unfolding digits next_number next_numbers number role_of chars_from front_of scan_from attached built_by built_from marks_from may_end step dyad_of fold_of mix1_of mix2_of monad_of other_sign sign_symbol trees_from header_of locals_in all_differ run_below
returns-clause-uncounted c = λ e. told_apart ◌==◌ e refl refl

pub returns-clause-one_more_statement : goal.returns-clause-one_more_statement
unfolding digits next_number next_numbers number role_of chars_from front_of scan_from attached built_by built_from marks_from may_end step dyad_of fold_of mix1_of mix2_of monad_of other_sign sign_symbol trees_from header_of locals_in all_differ run_below
returns-clause-one_more_statement c = λ e. told_apart ◌==◌ e refl refl

pub returns-clause-copy_stays : goal.returns-clause-copy_stays
unfolding digits next_number next_numbers number role_of chars_from front_of scan_from attached built_by built_from marks_from may_end step dyad_of fold_of mix1_of mix2_of monad_of other_sign sign_symbol trees_from header_of locals_in all_differ run_below
returns-clause-copy_stays c = λ e. told_apart ◌==◌ e refl refl

pub returns-clause-text_nowhere : goal.returns-clause-text_nowhere
unfolding digits next_number next_numbers number role_of chars_from front_of scan_from attached built_by built_from marks_from may_end step dyad_of fold_of mix1_of mix2_of monad_of other_sign sign_symbol trees_from header_of locals_in all_differ run_below
returns-clause-text_nowhere c = λ e. told_apart same_texts e refl refl

pub returns-clause-target_printed : goal.returns-clause-target_printed
unfolding digits next_number next_numbers number role_of chars_from front_of scan_from attached built_by built_from marks_from may_end step dyad_of fold_of mix1_of mix2_of monad_of other_sign sign_symbol trees_from header_of locals_in all_differ run_below
returns-clause-target_printed c = λ e. told_apart same_texts e refl refl
