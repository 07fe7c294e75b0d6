-- What a replier does over time.
use Rattle.std.specs.Prelude.{◌≡◌, ◌⊎◌, ℕ, List, [], ◌∷◌}
use Rattle.apl_arrays.specs.Array.{PlainArray}

-- what happens to a replier: a coupling with a party begins, or a party's value is answered
pub data Event : Type 0 where
  began : ℕ → Event
  answered : ℕ → PlainArray → PlainArray → Event

module _ {S : Type 0} (forgets : S → ℕ → S → Type 0) (replies : S → ℕ → PlainArray → PlainArray → S → Type 0) where
  -- one event leads from one state to another
  abbrev pub EventLeads : Event → S → S → Type 0
  EventLeads (began party) before after = forgets before party after
  EventLeads (answered party value answer) before after = replies before party value answer after

  -- these events, the newest first, lead from the state at the start to the one at the end
  abbrev pub IsReplierRun : S → List Event → S → Type 0
  IsReplierRun start [] end = end ≡ start
  IsReplierRun start (event ∷ earlier) end = (before : S) × IsReplierRun start earlier before × EventLeads event before end

  -- some events lead from one state to another
  pub record RunsTo (start end : S) : Type 0 where
    pub events : List Event
    pub run : IsReplierRun start events end

-- memory ran out over the answer to some party's value
pub record Unanswered {S : Type 0} (wants : S → ℕ → PlainArray → S → Type 0) (before after : S) : Type 0 where
  pub party : ℕ
  pub value : PlainArray
  pub wanted : wants before party value after

-- a replier came from one state to another by events, behind which memory may have run out over one more answer
pub record CameTo {S : Type 0} (forgets : S → ℕ → S → Type 0) (replies : S → ℕ → PlainArray → PlainArray → S → Type 0) (wants : S → ℕ → PlainArray → S → Type 0) (start end : S) : Type 0 where
  pub last : S
  pub runs : RunsTo forgets replies start last
  pub ends : (end ≡ last) ⊎ Unanswered wants last end
