use Rattle.std.specs.Prelude.{ℕ}

-- the most weight of a workspace
abbrev pub most_weight : ℕ
most_weight = 4194304

-- the most frames of functions under way
abbrev pub most_depth : ℕ
most_depth = 100

-- the most lines of a function
abbrev pub most_function_lines : ℕ
most_function_lines = 200

-- the most glyphs of the lines of a user that are counted as they are printed
abbrev pub most_printed : ℕ
most_printed = 4194304
