use Rattle.std.proofs.Common.{◌≡◌, false, map, string_bytes, sym, ◌∙◌}
use Rattle.std.specs.List.{list_any}
use Rattle.clap.specs.Words.{app_of}
use Rattle.clap.proofs.WalkLemmas.{list_any-map}
use Rattle.aplsv_words.specs.Stray.{is_stray}
use Rattle.aplsv_words.specs.declared.words.WordsRefused.TheVariants as refused
use Rattle.aplsv_words.proofs.Parses.{read_is_all_that_is_said, read_is_what_words_say, refused_says_nothing, saying_fails_for_memory}
use Rattle.aplsv_words.proofs.command_line.parsed.Goals as goal

pub returns-in-Ok-clause-says : goal.returns-in-Ok-clause-says
returns-in-Ok-clause-says c =
    let fit : list_any is_stray (map string_bytes c.args.args.now) ≡ false = sym (list_any-map is_stray string_bytes c.args.args.now) ∙ c.requires in
    read_is_what_words_say (app_of c.in_ok-command.command) c.in_ok-command.ensures (map string_bytes c.args.args.now) c.in-Ok.matches c.words_in.result fit c.in-Ok.ensures.matches c.in-Ok.ensures.kinds
    c.words_in.ensures.replay c.words_in.ensures.workers c.words_in.ensures.library c.words_in.ensures.text c.words_in.ensures.clock c.words_in.ensures.load c.words_in.ensures.components c.words_in.ensures.relay

pub returns-in-Ok-clause-only : goal.returns-in-Ok-clause-only
returns-in-Ok-clause-only c =
    let fit : list_any is_stray (map string_bytes c.args.args.now) ≡ false = sym (list_any-map is_stray string_bytes c.args.args.now) ∙ c.requires in
    read_is_all_that_is_said (app_of c.in_ok-command.command) c.in_ok-command.ensures (map string_bytes c.args.args.now) c.in-Ok.matches c.words_in.result fit c.in-Ok.ensures.matches c.in-Ok.ensures.kinds
    c.words_in.ensures.replay c.words_in.ensures.workers c.words_in.ensures.library c.words_in.ensures.text c.words_in.ensures.clock c.words_in.ensures.load c.words_in.ensures.components c.words_in.ensures.relay

pub returns-in-Err-clause-usage : goal.returns-in-Err-clause-usage
returns-in-Err-clause-usage c = λ usage said.
    let same : c.refusal.result ≡ refused.Usage = cc in
    refused_says_nothing (app_of c.in_ok-command.command) c.in_ok-command.ensures (map string_bytes c.args.args.now) c.in-Err.error c.in-Err.ensures.kinds (sym c.refusal.ensures ∙ same) said

pub returns-in-Err-clause-only : goal.returns-in-Err-clause-only
returns-in-Err-clause-only c = λ said say.
    c.refusal.ensures ∙ saying_fails_for_memory (app_of c.in_ok-command.command) c.in_ok-command.ensures (map string_bytes c.args.args.now) c.in-Err.error c.in-Err.ensures.kinds said say
