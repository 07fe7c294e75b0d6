-- Repliers that answer in one way.
use Rattle.std.proofs.Common.{◌≡◌, ℕ, List, [], ◌∷◌, ◌++◌, sym, subst₂}
use Rattle.std.specs.Prelude.{◌==◌, option_to_list, if◌then◌else◌}
use Rattle.apl_arrays.specs.Array.{PlainArray}
use Rattle.aux_parties.specs.Auxiliaries.{party_of}
use Rattle.aux_parties.specs.declared.auxiliary.AuxiliaryKind.{AuxiliaryKind}
use Rattle.aux_parties.specs.declared.auxiliary.AuxiliaryKind.TheVariants.{Clock, TextFiles}
use Rattle.auxiliaries.specs.Run.{Event, began, answered, EventLeads, IsReplierRun}
use Rattle.sv_rules.specs.Entries.{Entries}
use Rattle.session_rules.specs.Auxiliaries.{event_of, events_of}
use Rattle.session_rules.specs.Behind.{Behind, forgets_of, replies_of}

-- those that begin so are alike, and from states that are alike a replier comes to states that are alike, with one answer
pub record IsDetermined {S : Type 0} (forgets : S → ℕ → S → Type 0) (replies : S → ℕ → PlainArray → PlainArray → S → Type 0) (Begins : S → Type 0) (Alike : S → S → Type 0) : Type 0 where
  pub begun : (a b : S) → Begins a → Begins b → Alike a b
  pub forgotten : (a b : S) (party : ℕ) (c d : S) → Alike a b → forgets a party c → forgets b party d → Alike c d
  pub replied : (a b : S) (party : ℕ) (value answer other : PlainArray) (c d : S) → Alike a b → replies a party value answer c → replies b party value other d → (answer ≡ other) × Alike c d

module _ {S : Type 0} (forgets : S → ℕ → S → Type 0) (replies : S → ℕ → PlainArray → PlainArray → S → Type 0) (Begins : S → Type 0) where
  -- a replier that went through some events went through those before the last ones
  before_more : (more events : List Event) (start end : S) → IsReplierRun forgets replies start (more ++ events) end → (between : S) × IsReplierRun forgets replies start events between
  before_more [] events start end run = (end, run)
  before_more (event ∷ more) events start end (between, run, lead) = before_more more events start between run

  -- what answers behind a party has a run over a journal, from a state at which it may begin
  abbrev pub Answers : ℕ → Entries → Type 0
  Answers party journal = (start : S) × Begins start × ((end : S) × IsReplierRun forgets replies start (events_of journal party) end)

  -- and so it has over an older one
  pub older_answers : (party : ℕ) (more journal : Entries) → Answers party (more ++ journal) → Answers party journal
  older_answers party [] journal run = run
  older_answers party (e ∷ more) journal (start, begins, (end, run)) =
      older_answers party more journal
      (start, begins, before_more (if e.party == party then option_to_list (event_of (more ++ journal) e) else []) (events_of (more ++ journal) party) start end run)

  module _ (Alike : S → S → Type 0) (one : IsDetermined forgets replies Begins Alike) where
    leads_alike : (event : Event) (a b c d : S) → Alike a b → EventLeads forgets replies event a c → EventLeads forgets replies event b d → Alike c d
    leads_alike (began party) a b c d alike lead other = one.forgotten a b party c d alike lead other
    leads_alike (answered party value answer) a b c d alike lead other = (one.replied a b party value answer answer c d alike lead other).1

    -- the same events lead to states that are alike
    runs_alike : (events : List Event) (a b c d : S) → Alike a b → IsReplierRun forgets replies a events c → IsReplierRun forgets replies b events d → Alike c d
    runs_alike [] a b c d alike run other = subst₂ Alike (sym run) (sym other) alike
    runs_alike (event ∷ events) a b c d alike (between, run, lead) (middle, other, led) =
        leads_alike event between middle c d (runs_alike events a b between middle alike run other) lead led

    -- and so the same value is given one answer
    pub one_answer : (events : List Event) (party : ℕ) (value answer other : PlainArray) (a b c d : S) → Begins a → Begins b → IsReplierRun forgets replies a (answered party value answer ∷ events) c
        → IsReplierRun forgets replies b (answered party value other ∷ events) d → answer ≡ other
    one_answer events party value answer other a b c d begins also (between, run, lead) (middle, ran, led) =
        (one.replied between middle party value answer other c d (runs_alike events a b between middle (one.begun a b begins also) run ran) lead led).0

-- ---- what answers behind each auxiliary

-- the states at which it may begin
abbrev pub begins_of : {X Y : Type 0} → (X → Type 0) → (Y → Type 0) → (kind : AuxiliaryKind) → Behind X Y kind → Type 0
begins_of ten twenty Clock = ten
begins_of ten twenty TextFiles = twenty

-- and those that are alike
abbrev pub alike_of : {X Y : Type 0} → (X → X → Type 0) → (Y → Y → Type 0) → (kind : AuxiliaryKind) → Behind X Y kind → Behind X Y kind → Type 0
alike_of ten twenty Clock = ten
alike_of ten twenty TextFiles = twenty

module _ {X Y : Type 0} (forgets_ten : X → ℕ → X → Type 0) (replies_ten : X → ℕ → PlainArray → PlainArray → X → Type 0) (BeginsTen : X → Type 0)
    (forgets_twenty : Y → ℕ → Y → Type 0) (replies_twenty : Y → ℕ → PlainArray → PlainArray → Y → Type 0) (BeginsTwenty : Y → Type 0) where
  -- it has a run over a journal, from a state at which it may begin
  abbrev pub AnswersBehind : AuxiliaryKind → Entries → Type 0
  AnswersBehind kind journal = Answers (forgets_of forgets_ten forgets_twenty kind) (replies_of replies_ten replies_twenty kind) (begins_of BeginsTen BeginsTwenty kind) (party_of kind) journal
