use Rattle.std.proofs.Common.{◌≡◌, true, map, string_bytes, sym, ◌∙◌}
use Rattle.std.specs.List.{list_any}
use Rattle.clap.proofs.WalkLemmas.{list_any-map}
use Rattle.aplsv_words.specs.Stray.{is_stray}
use Rattle.aplsv_words.proofs.Looks.{strays_say_no_look}
use Rattle.aplsv_words.proofs.look_line.look_written_in.Goals as goal

pub returns-then-has_stray-clause-usage : goal.returns-then-has_stray-clause-usage
returns-then-has_stray-clause-usage c =
    let stray : list_any is_stray (map string_bytes c.args.args.now) ≡ true = sym (list_any-map is_stray string_bytes c.args.args.now) ∙ (sym c.has_stray.ensures ∙ c.if-has_stray.true) in
    λ usage said say. strays_say_no_look (map string_bytes c.args.args.now) said stray say

pub returns-then-has_stray-clause-only : goal.returns-then-has_stray-clause-only
returns-then-has_stray-clause-only c =
    let stray : list_any is_stray (map string_bytes c.args.args.now) ≡ true = sym (list_any-map is_stray string_bytes c.args.args.now) ∙ (sym c.has_stray.ensures ∙ c.if-has_stray.true) in
    λ said say. absurd (strays_say_no_look (map string_bytes c.args.args.now) said stray say)
