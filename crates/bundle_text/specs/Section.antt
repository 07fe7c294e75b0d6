use Rattle.bundle_text.specs.Draft.{PlainSection, start, of_user, turns, of_file, readings, ended}
use Rattle.bundle_text.specs.User.{plain_user}
use Rattle.bundle_text.specs.declared.section.Section.{Section}
use Rattle.bundle_text.specs.declared.section.Section.TheVariants as sections

-- a section as plain data, whatever room is left
abbrev pub plain_section : Section → PlainSection
plain_section sections.Start = start
plain_section (sections.User one) = of_user (plain_user one)
plain_section sections.Order = turns
plain_section (sections.File one) = of_file (record { name = one.name; bytes = one.bytes.items })
plain_section sections.Clock = readings
plain_section sections.End = ended
