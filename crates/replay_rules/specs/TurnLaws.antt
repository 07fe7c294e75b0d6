-- What holds of turns.
use Rattle.std.specs.Prelude.{◌≡◌, ℕ, false, List}
use Rattle.apl_arrays.specs.Array.{PlainArray}
use Rattle.bundle_text.specs.Rules.{PlainBundle}
use Rattle.session_rules.specs.Run.{Dealings}
use Rattle.replay_rules.specs.Turns.{Replay, beginning, some_user_stays, ordered, rounds}

-- a replay after the order and so many rounds, where the shelves and the auxiliaries give these replies
abbrev pub replayed : PlainBundle → Dealings → (ℕ → List PlainArray) → ℕ → Replay
replayed bundle dealings replies count = rounds count (ordered bundle.order (beginning bundle dealings replies))

-- with the same replies a bundle's turns have one journal: no more rounds change it once all users have left
abbrev pub TurnsMakeOneJournal : Type 0
TurnsMakeOneJournal =
    (bundle : PlainBundle) (dealings : Dealings) (replies : ℕ → List PlainArray) (count more : ℕ)
    → some_user_stays (replayed bundle dealings replies count) ≡ false → some_user_stays (replayed bundle dealings replies more) ≡ false → replayed bundle dealings replies count ≡ replayed bundle dealings replies more
