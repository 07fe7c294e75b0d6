use Rattle.std.specs.Prelude.{ℕ}

-- the entries with which a journal is full
abbrev pub most_entries : ℕ
most_entries = 200000

-- the elements with which a journal is full
abbrev pub most_journal_elements : ℕ
most_journal_elements = 4194304
