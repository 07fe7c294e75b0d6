use Rattle.std.proofs.Common.{◌≡◌, true, codes, ap, ap₂, ◌∙◌}
use Rattle.clap.specs.Simple.{App, Shape, app_of_fields, new_app, on_top}
use Rattle.clap.specs.Words.{app_of, with_rule}
use Rattle.aplsv_words.specs.CommandLine.{flag_rule, value_rule}
use Rattle.aplsv_words.proofs.command_line.command_line.Goals as goal

abbrev without_a_name : App → App
without_a_name = on_top (λ (s : Shape). record s { no_binary_name = true })

abbrev without_help : App → App
without_help = on_top (λ (s : Shape). record s { disable_help_flag = true })

abbrev bare : App
bare = without_help (without_a_name (new_app (codes "aplsv")))

abbrev with_replay : App
with_replay = with_rule bare (flag_rule (codes "replay"))

abbrev with_workers : App
with_workers = with_rule with_replay (value_rule (codes "workers"))

abbrev with_library : App
with_library = with_rule with_workers (value_rule (codes "library"))

abbrev with_text : App
with_text = with_rule with_library (value_rule (codes "text"))

abbrev with_clock : App
with_clock = with_rule with_text (flag_rule (codes "clock"))

abbrev with_load : App
with_load = with_rule with_clock (value_rule (codes "load"))

abbrev with_components : App
with_components = with_rule with_load (flag_rule (codes "components"))

pub returns : goal.returns
returns c =
    let named : app_of c.no_binary_name.result ≡ without_a_name (app_of c.new.result) = ap app_of_fields c.no_binary_name.ensures in
    let helped : app_of c.disable_help_flag-bare.result ≡ without_help (app_of c.no_binary_name.result) = ap app_of_fields c.disable_help_flag-bare.ensures in
    let start : app_of c.disable_help_flag-bare.result ≡ bare = helped ∙ ap without_help (named ∙ ap without_a_name c.new.ensures.app) in
    let first : app_of c.in_ok-with_replay.with_replay ≡ with_replay = c.in_ok-with_replay.ensures.shape c.flag.ensures.local ∙ ap₂ with_rule start c.flag.ensures.rule in
    let second : app_of c.in_ok-with_workers.with_workers ≡ with_workers = c.in_ok-with_workers.ensures.shape c.valued.ensures.local ∙ ap₂ with_rule first c.valued.ensures.rule in
    let third : app_of c.in_ok-with_library.with_library ≡ with_library = c.in_ok-with_library.ensures.shape c.valued-2.ensures.local ∙ ap₂ with_rule second c.valued-2.ensures.rule in
    let fourth : app_of c.in_ok-with_text.with_text ≡ with_text = c.in_ok-with_text.ensures.shape c.valued-3.ensures.local ∙ ap₂ with_rule third c.valued-3.ensures.rule in
    let fifth : app_of c.in_ok-with_clock.with_clock ≡ with_clock = c.in_ok-with_clock.ensures.shape c.flag-2.ensures.local ∙ ap₂ with_rule fourth c.flag-2.ensures.rule in
    let sixth : app_of c.in_ok-with_load.with_load ≡ with_load = c.in_ok-with_load.ensures.shape c.valued-4.ensures.local ∙ ap₂ with_rule fifth c.valued-4.ensures.rule in
    let seventh : app_of c.in_ok-with_components.with_components ≡ with_components = c.in_ok-with_components.ensures.shape c.flag-3.ensures.local ∙ ap₂ with_rule sixth c.flag-3.ensures.rule in
    c.in_ok-whole.ensures.shape c.flag-4.ensures.local ∙ ap₂ with_rule seventh c.flag-4.ensures.rule
