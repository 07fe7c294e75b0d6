use Rattle.std.specs.Prelude.{ℕ, List, codes}
use Rattle.bundle_text.specs.declared.refused.BundleRule.{BundleRule}
use Rattle.bundle_text.specs.declared.refused.BundleRule.TheVariants.{Glyph, Newline, Form, Place, Party, Limit, End}
use Rattle.bundle_text.specs.declared.refused.BundleRefused.{BundleRefused}
use Rattle.bundle_text.specs.declared.refused.BundleRefused.TheVariants.{Malformed, WantOfMemory}

-- the name of a rule
abbrev pub rule_text : BundleRule → List ℕ
rule_text Glyph = codes "glyph"
rule_text Newline = codes "newline"
rule_text Form = codes "form"
rule_text Place = codes "place"
rule_text Party = codes "party"
rule_text Limit = codes "limit"
rule_text End = codes "end"

-- what has to be true of the offset and the rule where Malformed is answered; nothing where memory ran out
abbrev pub IsRefusal : BundleRefused → (ℕ → BundleRule → Type 0) → Type 0
IsRefusal (Malformed offset rule) fact = fact offset rule
IsRefusal WantOfMemory fact = Unit {0}

-- what has to be true where Malformed is answered; nothing where memory ran out
abbrev pub IsReason : BundleRefused → Type 0 → Type 0
IsReason (Malformed offset rule) fact = fact
IsReason WantOfMemory fact = Unit {0}
