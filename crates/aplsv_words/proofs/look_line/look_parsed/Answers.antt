use Rattle.std.proofs.Common.{◌≡◌, false, map, string_bytes, sym, ◌∙◌}
use Rattle.std.specs.List.{list_any}
use Rattle.clap.specs.Words.{app_of}
use Rattle.clap.proofs.WalkLemmas.{list_any-map}
use Rattle.aplsv_words.specs.Stray.{is_stray}
use Rattle.aplsv_words.specs.declared.words.WordsRefused.TheVariants as refused
use Rattle.aplsv_words.proofs.Looks.{look_fails_for_memory, read_is_all_the_look, read_is_the_look_said, refused_says_no_look}
use Rattle.aplsv_words.proofs.look_line.look_parsed.Goals as goal

pub returns-in-Ok-clause-says : goal.returns-in-Ok-clause-says
returns-in-Ok-clause-says c =
    let fit : list_any is_stray (map string_bytes c.args.args.now) ≡ false = sym (list_any-map is_stray string_bytes c.args.args.now) ∙ c.requires in
    read_is_the_look_said (app_of c.in_ok-command.command) c.in_ok-command.ensures (map string_bytes c.args.args.now) c.in-Ok.matches c.look_in.result fit c.in-Ok.ensures.matches c.in-Ok.ensures.kinds
    c.look_in.ensures.picture c.look_in.ensures.from c.look_in.ensures.to c.look_in.ensures.why

pub returns-in-Ok-clause-only : goal.returns-in-Ok-clause-only
returns-in-Ok-clause-only c =
    let fit : list_any is_stray (map string_bytes c.args.args.now) ≡ false = sym (list_any-map is_stray string_bytes c.args.args.now) ∙ c.requires in
    read_is_all_the_look (app_of c.in_ok-command.command) c.in_ok-command.ensures (map string_bytes c.args.args.now) c.in-Ok.matches c.look_in.result fit c.in-Ok.ensures.matches c.in-Ok.ensures.kinds
    c.look_in.ensures.picture c.look_in.ensures.from c.look_in.ensures.to c.look_in.ensures.why

pub returns-in-Err-clause-usage : goal.returns-in-Err-clause-usage
returns-in-Err-clause-usage c = λ usage said.
    let same : c.refusal.result ≡ refused.Usage = cc in
    refused_says_no_look (app_of c.in_ok-command.command) c.in_ok-command.ensures (map string_bytes c.args.args.now) c.in-Err.error c.in-Err.ensures.kinds (sym c.refusal.ensures ∙ same) said

pub returns-in-Err-clause-only : goal.returns-in-Err-clause-only
returns-in-Err-clause-only c = λ said say.
    c.refusal.ensures ∙ look_fails_for_memory (app_of c.in_ok-command.command) c.in_ok-command.ensures (map string_bytes c.args.args.now) c.in-Err.error c.in-Err.ensures.kinds said say
