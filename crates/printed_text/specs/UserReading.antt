-- Reading the heading of a user.
use Rattle.std.specs.Prelude.{ℕ, List, codes}
use Rattle.apl_arrays.specs.Parties.{first_user, last_user}
use Rattle.text_reader.specs.NumberReading.{read_number}
use Rattle.text_reader.specs.Reading.{Reader, Reading, ◌>>=◌, read_literal}

-- the number of a user behind the word
unfoldable pub read_user : Reader ℕ
read_user line = do
  rest ← read_literal (codes "user ") line
  read_number first_user last_user rest
