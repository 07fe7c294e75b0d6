use Rattle.std.proofs.Common.{◌≡◌, true, codes, ap, ap₂, ◌∙◌}
use Rattle.clap.specs.Simple.{App, Shape, app_of_fields, new_app, on_top}
use Rattle.clap.specs.Words.{app_of, with_rule}
use Rattle.aplsv_words.specs.CommandLine.{flag_rule, value_rule}
use Rattle.aplsv_words.proofs.look_line.look_command.Goals as goal

abbrev without_a_name : App → App
without_a_name = on_top (λ (s : Shape). record s { no_binary_name = true })

abbrev without_help : App → App
without_help = on_top (λ (s : Shape). record s { disable_help_flag = true })

abbrev bare : App
bare = without_help (without_a_name (new_app (codes "aplsv")))

abbrev with_picture : App
with_picture = with_rule bare (flag_rule (codes "picture"))

abbrev with_from : App
with_from = with_rule with_picture (value_rule (codes "from"))

abbrev with_to : App
with_to = with_rule with_from (value_rule (codes "to"))

pub returns : goal.returns
returns c =
    let named : app_of c.no_binary_name.result ≡ without_a_name (app_of c.new.result) = ap app_of_fields c.no_binary_name.ensures in
    let helped : app_of c.disable_help_flag-bare.result ≡ without_help (app_of c.no_binary_name.result) = ap app_of_fields c.disable_help_flag-bare.ensures in
    let start : app_of c.disable_help_flag-bare.result ≡ bare = helped ∙ ap without_help (named ∙ ap without_a_name c.new.ensures.app) in
    let first : app_of c.in_ok-with_picture.with_picture ≡ with_picture = c.in_ok-with_picture.ensures.shape c.flag.ensures.local ∙ ap₂ with_rule start c.flag.ensures.rule in
    let second : app_of c.in_ok-with_from.with_from ≡ with_from = c.in_ok-with_from.ensures.shape c.valued.ensures.local ∙ ap₂ with_rule first c.valued.ensures.rule in
    let third : app_of c.in_ok-with_to.with_to ≡ with_to = c.in_ok-with_to.ensures.shape c.valued-2.ensures.local ∙ ap₂ with_rule second c.valued-2.ensures.rule in
    c.in_ok-whole.ensures.shape c.valued-3.ensures.local ∙ ap₂ with_rule third c.valued-3.ensures.rule
