use Rattle.std.specs.Prelude.{ℕ}

-- the most axes of an array
abbrev pub most_axes : ℕ
most_axes = 8

-- the most elements of an array, and the greatest length of an axis
abbrev pub most_elements : ℕ
most_elements = 16384

-- the most glyphs of a name
abbrev pub most_name_glyphs : ℕ
most_name_glyphs = 32

-- the most bytes of a file's name
abbrev pub most_file_name_bytes : ℕ
most_file_name_bytes = 32

-- the most glyphs of a line
abbrev pub most_line_glyphs : ℕ
most_line_glyphs = 1000

-- the most lines of a user
abbrev pub most_user_lines : ℕ
most_user_lines = 10000

-- the most users
abbrev pub most_users : ℕ
most_users = 32

-- the most bytes of an input
abbrev pub most_input_bytes : ℕ
most_input_bytes = 4194304

-- the most offers of one party that stand at a time
abbrev pub most_offers : ℕ
most_offers = 64
