use Rattle.std.proofs.Common.{◌≡◌, [], ◌∷◌, None, codes, false, ℕ, List, refl, true}
use Rattle.std.specs.Fmt.{digits}
use Rattle.line_scanner.specs.Number.{next_number, next_numbers, number}
use Rattle.line_scanner.specs.Role.{role_of}
use Rattle.line_scanner.specs.Scanning.{chars_from, front_of, scan_from}
use Rattle.line_trees.specs.Building.{attached, built_by, built_from}
use Rattle.line_trees.specs.Marks.{marks_from, may_end, step}
use Rattle.line_trees.specs.Signs.{dyad_of, fold_of, mix1_of, mix2_of, monad_of}
use Rattle.line_trees.specs.Symbols.{other_sign, sign_symbol}
use Rattle.line_trees.specs.Trees.{trees_from}
use Rattle.apl_arrays.specs.Array.{PlainArray}
use Rattle.apl_workspace.specs.Header.{header_of, locals_in}
use Rattle.apl_workspace.specs.Names.{all_differ}
use Rattle.sv_events.specs.Answer.{full}
use Rattle.sv_events.specs.declared.event.Act.TheVariants.{Leave, Offer}
use Rattle.sv_rules.specs.Entries.{Entries, has_left, is_full}
use Rattle.sv_rules.specs.Legal.{entry_for}
use Rattle.replay_rules.specs.Turns.{rounds, turn}
use Rattle.replay_rules.specs.Worked.{HasComeTo, alone_at, offering_user}
use Rattle.replay_rules.proofs.FullRounds.{heard_round, is_over, last_round}
use Rattle.replay_rules.proofs.UserTurns.{full_turn, last_turn}
use Rattle.replay_rules.proofs.worked.full_replays_end.Goals as goal

-- the user hears Full, and leaves
hears : (journal : Entries) → is_full journal ≡ true → has_left journal 1001 ≡ false → turn (1001 ∷ []) journal (offering_user []) ≡ record { journal = journal; user = offering_user (full ∷ []) }
unfolding digits next_number next_numbers number role_of chars_from front_of scan_from attached built_by built_from marks_from may_end step dyad_of fold_of mix1_of mix2_of monad_of other_sign sign_symbol trees_from header_of locals_in all_differ
hears journal limit present = full_turn (1001 ∷ []) journal (offering_user []) (Offer 1002 (codes "X") (codes "X") None) limit present refl

leaves : (journal : Entries) → has_left journal 1001 ≡ false → turn (1001 ∷ []) journal (offering_user (full ∷ [])) ≡ record { journal = entry_for journal 1001 Leave ∷ journal; user = offering_user (full ∷ []) }
unfolding digits next_number next_numbers number role_of chars_from front_of scan_from attached built_by built_from marks_from may_end step dyad_of fold_of mix1_of mix2_of monad_of other_sign sign_symbol trees_from header_of locals_in all_differ
leaves journal present = last_turn (1001 ∷ []) journal (offering_user (full ∷ [])) present refl

heard : (journal : Entries) (replies : ℕ → List PlainArray) → is_full journal ≡ true → has_left journal 1001 ≡ false → HasComeTo (rounds 1 (alone_at journal replies (offering_user []))) journal (offering_user (full ∷ []))
heard journal replies limit present = heard_round journal replies (offering_user []) (offering_user (full ∷ [])) limit present (hears journal limit present)

left : (journal : Entries) (replies : ℕ → List PlainArray) → is_full journal ≡ true → has_left journal 1001 ≡ false
    → HasComeTo (rounds 2 (alone_at journal replies (offering_user []))) (entry_for journal 1001 Leave ∷ journal) (offering_user (full ∷ []))
left journal replies limit present =
    last_round journal replies (offering_user []) (offering_user (full ∷ [])) (record { journal = entry_for journal 1001 Leave ∷ journal; user = offering_user (full ∷ []) }) limit present (heard journal replies limit present) (leaves journal present)

pub returns-clause-heard : goal.returns-clause-heard
returns-clause-heard c = heard

pub returns-clause-left : goal.returns-clause-left
returns-clause-left c = left

pub returns-clause-over : goal.returns-clause-over
returns-clause-over c = λ journal replies limit present.
    is_over (rounds 2 (alone_at journal replies (offering_user []))) (entry_for journal 1001 Leave ∷ journal) (offering_user (full ∷ [])) (left journal replies limit present) refl
