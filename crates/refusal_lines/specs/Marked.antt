-- A line of a text and a place in it.
use Rattle.std.specs.Prelude.{◌≡◌, ◌⊎◌, ℕ, ◌+◌, ◌≤◌, List, [], ◌∷◌, ◌++◌, length}
use Rattle.line_text.specs.Lines.{line_feed, HasNoFeed}

-- nothing stands there, or lines, each with its line feed
abbrev pub EndsLines : List ℕ → Type 0
EndsLines before = (before ≡ []) ⊎ ((front : List ℕ) × (before ≡ front ++ line_feed ∷ []))

-- nothing stands there, or a line feed and more
abbrev pub BeginsWithFeed : List ℕ → Type 0
BeginsWithFeed behind = (behind ≡ []) ⊎ ((rest : List ℕ) × (behind ≡ line_feed ∷ rest))

-- this is the whole line of the bytes in which the offset is, and so many of its bytes stand in front of that
pub record IsLineAt (bytes : List ℕ) (offset : ℕ) (line : List ℕ) (at : ℕ) : Type 0 where
  pub before : List ℕ
  pub behind : List ℕ
  pub whole : bytes ≡ before ++ (line ++ behind)
  pub there : offset ≡ length before + at
  pub within : at ≤ length line
  pub no_feed : HasNoFeed line
  pub begins : EndsLines before
  pub ends : BeginsWithFeed behind
