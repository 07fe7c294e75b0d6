-- How long a replay may be.
use Rattle.std.specs.Prelude.{◌≤◌, ◌+◌, ℕ, length, sum_by}
use Rattle.sv_rules.specs.Limits.{most_entries}
use Rattle.bundle_text.specs.Rules.{PlainBundle}
use Rattle.session_rules.specs.Run.{Dealings}
use Rattle.sv_rules.specs.Entries.{Entries}
use Rattle.replay_rules.specs.Turns.{IsJournalOfTurns}

-- the most rounds of a bundle: in each an entry is made, or a line ends, or a user leaves
abbrev pub most_rounds : PlainBundle → ℕ
most_rounds bundle = most_entries + sum_by (λ user. 1 + length user.lines) bundle.users

-- the journal of a bundle's turns with these dealings, behind whose order no more rounds are taken than that
pub record IsReplay (bundle : PlainBundle) (dealings : Dealings) (journal : Entries) : Type 0 where
  pub turns : IsJournalOfTurns bundle dealings journal
  pub few : turns.count ≤ most_rounds bundle
