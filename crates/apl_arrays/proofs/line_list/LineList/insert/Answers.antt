use Rattle.std.proofs.Common.{◌≡◌, Result, Ok, Err, OnOk, List, ℕ, ◌∙◌, ap, map, insert}
use Rattle.apl_arrays.proofs.Edits.{map-insert}
use Rattle.apl_arrays.specs.List.{Listed, glyphs_in}
use Rattle.apl_arrays.proofs.line_list.LineList.insert.Goals as goal

-- what was put in is seen, where it was
seen_where_ok : {E : Type 0} (result : Result (Unit {0}) E) (items lines : List (Listed ℕ)) (seen : List (List ℕ)) (at : ℕ) (line : Listed ℕ) → map glyphs_in lines ≡ seen → OnOk result (items ≡ insert lines at line) → OnOk result (map glyphs_in items ≡ insert seen at line.items)
seen_where_ok (Ok _) items lines seen at line is put = ap (map glyphs_in) put ∙ (map-insert glyphs_in lines at line ∙ ap (λ list. insert list at line.items) is)
seen_where_ok (Err _) items lines seen at line is put = tt

pub returns-clause-ok : goal.returns-clause-ok
returns-clause-ok c =
    seen_where_ok c.insert.result c.insert.new.self.items c.self.inside.lines.items c.args.self.now.items c.args.at c.args.line (ap (λ lines. lines.items) c.self.view_is) c.insert.ensures.ok
