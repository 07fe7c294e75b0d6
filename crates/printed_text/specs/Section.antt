use Rattle.printed_text.specs.Draft.{PlainSection, start, of_user, of_entries, ended}
use Rattle.printed_text.specs.Printed.{plain_printed}
use Rattle.printed_text.specs.declared.draft.Section.{Section}
use Rattle.printed_text.specs.declared.draft.Section.TheVariants as sections

-- a section as plain data, whatever room is left
abbrev pub plain_section : Section → PlainSection
plain_section sections.Start = start
plain_section (sections.User one) = of_user (plain_printed one)
plain_section (sections.Entries journal) = of_entries journal.items
plain_section (sections.End journal) = ended journal.items
