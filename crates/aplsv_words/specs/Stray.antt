-- Words that begin with a hyphen and are no name behind two.
use Rattle.std.specs.Prelude.{ℕ, ◌==◌, Bool, true, false, List, length}
use Rattle.std.specs.Option.{option_map_or}
use Rattle.clap.specs.Lexer.{strip_byte}

-- no second hyphen follows, or nothing behind it
abbrev pub lacks_name : List ℕ → Bool
lacks_name rest = option_map_or (λ name. length name == 0) (strip_byte 45 rest) true

-- the word is `-`, `--`, or goes on behind one hyphen with something else
abbrev pub is_stray : List ℕ → Bool
is_stray word = option_map_or lacks_name (strip_byte 45 word) false
