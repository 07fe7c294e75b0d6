use Rattle.std.proofs.Common.{[], ◌∷◌, None, codes, refl}
use Rattle.std.specs.Fmt.{digits}
use Rattle.line_scanner.specs.Number.{next_number, next_numbers, number}
use Rattle.line_scanner.specs.Role.{role_of}
use Rattle.line_scanner.specs.Scanning.{chars_from, front_of, scan_from}
use Rattle.line_trees.specs.Building.{attached, built_by, built_from}
use Rattle.line_trees.specs.Marks.{marks_from, may_end, step}
use Rattle.line_trees.specs.Signs.{dyad_of, fold_of, mix1_of, mix2_of, monad_of}
use Rattle.line_trees.specs.Symbols.{other_sign, sign_symbol}
use Rattle.line_trees.specs.Trees.{trees_from}
use Rattle.apl_workspace.specs.Header.{header_of, locals_in}
use Rattle.apl_workspace.specs.Names.{all_differ}
use Rattle.sv_events.specs.Answer.{full}
use Rattle.sv_events.specs.declared.event.Act.TheVariants.{Offer}
use Rattle.replay_rules.specs.Worked.{offering_user}
use Rattle.replay_rules.proofs.UserTurns.{full_turn, last_turn}
use Rattle.replay_rules.proofs.worked.full_journals_refuse.Goals as goal

pub returns-clause-hears : goal.returns-clause-hears
unfolding digits next_number next_numbers number role_of chars_from front_of scan_from attached built_by built_from marks_from may_end step dyad_of fold_of mix1_of mix2_of monad_of other_sign sign_symbol trees_from header_of locals_in all_differ
returns-clause-hears c = λ journal limit present. full_turn (1001 ∷ []) journal (offering_user []) (Offer 1002 (codes "X") (codes "X") None) limit present refl

pub returns-clause-leaves : goal.returns-clause-leaves
unfolding digits next_number next_numbers number role_of chars_from front_of scan_from attached built_by built_from marks_from may_end step dyad_of fold_of mix1_of mix2_of monad_of other_sign sign_symbol trees_from header_of locals_in all_differ
returns-clause-leaves c = λ journal present. last_turn (1001 ∷ []) journal (offering_user (full ∷ [])) present refl
