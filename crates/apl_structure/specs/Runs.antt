use Rattle.std.specs.Prelude.{ℤ, unsigned_abs, if◌then◌else◌}
use Rattle.std.specs.Int.{is_negative}
use Rattle.apl_arrays.specs.Array.{PlainItems}
use Rattle.apl_structure.specs.StructureLaws.{first_items, items_after, items_before, last_items}

-- the first items of a vector, as many as a number says, or the last where it is negative
abbrev pub taken_run : ℤ → PlainItems → PlainItems
taken_run number items = if is_negative number then last_items (unsigned_abs number) items else first_items (unsigned_abs number) items

-- the items of a vector without the first, as many as a number says, or without the last where it is negative
abbrev pub remaining_run : ℤ → PlainItems → PlainItems
remaining_run number items = if is_negative number then items_before (unsigned_abs number) items else items_after (unsigned_abs number) items
