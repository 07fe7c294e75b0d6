use Rattle.std.proofs.Common.{◌≡◌, true}
use Rattle.std.proofs.lemmas.List.Elements.{All-from_recursion}
use Rattle.aux_parties.specs.Auxiliaries.{auxiliaries, is_auxiliary}
use Rattle.aux_parties.specs.declared.auxiliary.AuxiliaryRow.{AuxiliaryRow}
use Rattle.aux_parties.proofs.TableLemmas.{kinds_are_auxiliaries, of_rows}
use Rattle.sv_core.proofs.processor.Core.is_stuck.Goals as goal

pub all_rest-requires : goal.all_rest-requires
all_rest-requires c = All-from_recursion (λ (row : AuxiliaryRow). is_auxiliary row.party ≡ true) auxiliaries (of_rows (λ party. is_auxiliary party ≡ true) kinds_are_auxiliaries)
