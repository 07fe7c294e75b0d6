-- What holds of the meaning of words.
use Rattle.std.specs.Prelude.{◌≡◌, true, false, List, None}
use Rattle.aplsv_words.specs.Meaning.{Asked, Means, Text}

-- words have one meaning and no other
abbrev pub WordsHaveOneMeaning : Type 0
WordsHaveOneMeaning = (words : List Text) (asked other : Asked) → Means words asked → Means words other → asked ≡ other

-- words without a meaning
abbrev pub MeanNothing : List Text → Type 0
MeanNothing words = (asked : Asked) → ¬ Means words asked

-- nothing is asked for
abbrev pub nothing : Asked
nothing = record { replay = false; workers = None; library = None; text = None; clock = false; load = None; components = false; relay = false }

-- a replay alone
abbrev pub replay_alone : Asked
replay_alone = record nothing { replay = true }
