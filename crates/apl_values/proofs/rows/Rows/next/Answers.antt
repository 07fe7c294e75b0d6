use Rattle.std.proofs.Common.{List, sym, ap, ◌∙◌}
use Rattle.std.specs.Prelude.{option_map, slice_get}
use Rattle.apl_values.specs.declared.rows.NameRow.{NameRow}
use Rattle.apl_values.specs.Rows.{plain_name_row}
use Rattle.apl_values.proofs.Found.{found_at}
use Rattle.apl_values.proofs.RowSteps.{next_left}
use Rattle.apl_values.proofs.rows.Rows.next.Goals as goal

pub returns : goal.returns
returns c = record {
  row = ap (option_map plain_name_row) (c.copied.ensures ∙ found_at c.deref.result.now c.args.self.now.at c.get.result c.get.ensures.lookup ∙ ap (λ (rows : List NameRow). slice_get rows c.args.self.now.at) c.deref.ensures.value)
      ∙ sym (next_left plain_name_row c.args.self.now.rows.items c.args.self.now.at);
}
