use Rattle.std.proofs.Common.{refl}
use Rattle.std.specs.Fmt.{digits}
use Rattle.line_scanner.specs.Number.{next_number, next_numbers, number}
use Rattle.line_scanner.specs.Role.{role_of}
use Rattle.line_scanner.specs.Scanning.{chars_from, front_of, scan_from}
use Rattle.line_trees.specs.Building.{attached, built_by, built_from}
use Rattle.line_trees.specs.Marks.{marks_from, may_end, step}
use Rattle.line_trees.specs.Signs.{dyad_of, fold_of, mix1_of, mix2_of, monad_of}
use Rattle.line_trees.specs.Symbols.{other_sign, sign_symbol}
use Rattle.line_trees.specs.Trees.{trees_from}
use Rattle.apl_workspace.specs.Header.{header_of, locals_in}
use Rattle.apl_workspace.specs.Names.{all_differ}
use Rattle.apl_meaning.specs.Meaning.{run_below}
use Rattle.ws_codec.specs.Fields.{read_byte, read_bytes, read_glyphs, read_integer, read_name, read_number, read_same}
use Rattle.ws_codec.specs.Objects.{read_kind, read_meaning, object_behind, read_objects}
use Rattle.ws_codec.specs.Offers.{offer_behind, read_offers}
use Rattle.ws_codec.specs.Reading.{keeps, required, repeated}
use Rattle.ws_codec.specs.Saved.{offers_of_version, read_saved, read_version}
use Rattle.ws_codec.specs.Values.{read_axis, read_char_array, read_number_array, read_numbers, read_shape}
use Rattle.session_rules.proofs.worked.loads_remake_offers.Goals as goal

pub returns-clause-asked : goal.returns-clause-asked
unfolding digits next_number next_numbers number role_of chars_from front_of scan_from attached built_by built_from marks_from may_end step dyad_of fold_of mix1_of mix2_of monad_of other_sign sign_symbol trees_from header_of locals_in all_differ run_below read_byte read_bytes read_same read_number read_integer read_glyphs read_name keeps required repeated read_axis read_shape read_numbers read_number_array read_char_array read_kind read_meaning object_behind read_objects offer_behind read_offers read_version offers_of_version read_saved
returns-clause-asked c = refl

pub returns-clause-shown : goal.returns-clause-shown
unfolding digits next_number next_numbers number role_of chars_from front_of scan_from attached built_by built_from marks_from may_end step dyad_of fold_of mix1_of mix2_of monad_of other_sign sign_symbol trees_from header_of locals_in all_differ run_below read_byte read_bytes read_same read_number read_integer read_glyphs read_name keeps required repeated read_axis read_shape read_numbers read_number_array read_char_array read_kind read_meaning object_behind read_objects offer_behind read_offers read_version offers_of_version read_saved
returns-clause-shown c = refl

pub returns-clause-journal_full : goal.returns-clause-journal_full
unfolding digits next_number next_numbers number role_of chars_from front_of scan_from attached built_by built_from marks_from may_end step dyad_of fold_of mix1_of mix2_of monad_of other_sign sign_symbol trees_from header_of locals_in all_differ run_below read_byte read_bytes read_same read_number read_integer read_glyphs read_name keeps required repeated read_axis read_shape read_numbers read_number_array read_char_array read_kind read_meaning object_behind read_objects offer_behind read_offers read_version offers_of_version read_saved
returns-clause-journal_full c = refl
