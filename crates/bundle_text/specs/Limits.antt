use Rattle.std.specs.Prelude.{ℕ, ◌^◌, ◌-◌}

-- the most turns of an order
abbrev pub most_turns : ℕ
most_turns = 100000

-- the most files
abbrev pub most_files : ℕ
most_files = 100

-- the most readings of a clock
abbrev pub most_readings : ℕ
most_readings = 10000

-- the greatest reading of a clock
abbrev pub greatest_reading : ℕ
greatest_reading = 9223372036854775807
