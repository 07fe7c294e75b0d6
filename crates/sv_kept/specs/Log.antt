use Rattle.std.specs.Prelude.{ℕ, List}
use Rattle.sv_rules.specs.Entries.{Entries}

-- a log as its callers see it: the users, the journal with the newest entry first, and the room for entries
pub record PlainLog : Type 0 where
  pub users : List ℕ
  pub journal : Entries
  pub room : ℕ
