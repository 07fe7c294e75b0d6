-- The names of the rules.
use Rattle.std.specs.Prelude.{ℕ, List, codes}
use Rattle.ws_codec.specs.declared.saved.SavedRule.{SavedRule}
use Rattle.ws_codec.specs.declared.saved.SavedRule.TheVariants.{Magic, Version, Kind, Name, Order, Size, Glyph, Header, Limit, Short, Rest, Offer}

-- the name of a rule
abbrev pub rule_text : SavedRule → List ℕ
rule_text Magic = codes "magic"
rule_text Version = codes "version"
rule_text Kind = codes "kind"
rule_text Name = codes "name"
rule_text Order = codes "order"
rule_text Size = codes "size"
rule_text Glyph = codes "glyph"
rule_text Header = codes "header"
rule_text Limit = codes "limit"
rule_text Short = codes "short"
rule_text Rest = codes "rest"
rule_text Offer = codes "offer"
