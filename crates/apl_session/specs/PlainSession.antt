-- A session as its drivers see it, and how far it has come.
use Rattle.std.specs.Prelude.{◌≡◌, ◌++◌, ℕ, List, Option}
use Rattle.apl_io.specs.Content.{Told}
use Rattle.sv_events.specs.Answer.{PlainAnswer}
use Rattle.sv_events.specs.declared.event.Act.{Act}
use Rattle.session_rules.specs.Session.{session_of}
use Rattle.session_rules.specs.Shelf.{Exchange, IsShelfRun, ShelfReply, shelf_replies_in}
use Rattle.apl_session.specs.Standing.{StandsIn, open_act}
use Rattle.apl_session.specs.declared.progress.Progress.{Progress}
use Rattle.apl_session.specs.declared.session.SessionStage.{SessionStage}

-- a user, its lines, the acts that were answered, the answers that they were given, how far the session is, its shelf, and its inside
pub record PlainSession (K : Type 0) : Type 0 where
  pub user : ℕ
  pub lines : List (List ℕ)
  pub acts : List Act
  pub answers : List PlainAnswer
  pub stage : SessionStage
  pub shelf : K
  pub inside : Progress

-- the act of a session that waits for its answer, if one does
abbrev pub asked : {K : Type 0} → PlainSession K → Option Act
asked s = open_act s.inside.under_way

module _ {K : Type 0} (told : K → Option (Told (ℕ × List ℕ))) (faults : K → ℕ) where
  -- a session whose shelf was lent like this has had these exchanges with it: they led the shelf to where it is, the inside stands in the lines with their replies, and, whatever replies follow, its acts are those that were asked
  pub record HasCome (lent : K) (exchanges : List Exchange) (s : PlainSession K) : Type 0 where
    pub served : IsShelfRun told faults s.user lent exchanges s.shelf
    pub acts : (more : List ShelfReply) → s.acts ≡ (session_of s.lines s.answers (shelf_replies_in exchanges ++ more)).acts
    pub stands : StandsIn s.lines s.answers exchanges s.inside

  -- it went on, with some exchanges more, to what it asks of its driver: whatever replies follow, its act is the one that waits, and these are all calls of the shelf
  pub record GoesTo (lent : K) (exchanges : List Exchange) (s : PlainSession K) : Type 0 where
    pub more : List Exchange
    pub come : HasCome lent (more ++ exchanges) s
    pub waits : (rest : List ShelfReply) → asked s ≡ (session_of s.lines s.answers (shelf_replies_in (more ++ exchanges) ++ rest)).waits
    pub calls : (rest : List ShelfReply) → (session_of s.lines s.answers (shelf_replies_in (more ++ exchanges) ++ rest)).exchanges ≡ more ++ exchanges
