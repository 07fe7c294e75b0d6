use Rattle.bundle_text.specs.Rules.{PlainBundle}
use Rattle.bundle_text.specs.declared.bundle.BundleParts.{BundleParts}

-- what a bundle has as plain data, whatever room is left
abbrev pub bundle_of_parts : BundleParts → PlainBundle
bundle_of_parts parts = record { users = parts.users.items; order = parts.order.items; files = parts.files.items; clock = parts.clock.items }
