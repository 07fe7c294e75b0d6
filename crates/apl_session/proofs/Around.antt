-- The session around its inside, as its drivers see it.
use Rattle.std.proofs.Common.{◌≡◌, ◌≢◌, ℕ, List, [], ◌∷◌, ◌++◌, IsTrue, not, refl, sym, ap, subst, ◌∙◌, append_assoc}
use Rattle.std.specs.Prelude.{IfSome, None, Option, Some, length}
use Rattle.apl_io.specs.Content.{Told}
use Rattle.sv_events.specs.Answer.{PlainAnswer}
use Rattle.sv_events.specs.declared.event.Act.{Act}
use Rattle.sv_rules.specs.Entries.{is_leave}
use Rattle.session_rules.specs.Session.{session_of}
use Rattle.session_rules.specs.Shelf.{Exchange, IsShelfRun, ShelfReply, shelf_replies_in}
use Rattle.session_rules.proofs.Shelves.{replies_behind, run_on}
use Rattle.session_rules.proofs.Taking.{none_leaves}
use Rattle.apl_session.specs.PlainSession.{GoesTo, HasCome, PlainSession}
use Rattle.apl_session.specs.Receipts.{PlainReceipt, acts_in, answers_in}
use Rattle.apl_session.specs.Standing.{SessionComesTo, IsAlive, IsAnswered, IsOpenLine, IsSession, IsThisFar, MayAdvance, StandsIn, WithCalls, open_act}
use Rattle.apl_session.specs.Wants.{HasHeardAll, MayGoOn, stage_by}
use Rattle.apl_session.specs.declared.progress.Progress.{Progress}
use Rattle.apl_session.specs.declared.session.SessionStage.{SessionStage}
use Rattle.apl_session.specs.declared.session.SessionStage.TheVariants as stage
use Rattle.apl_session.proofs.Inside.{IsThere, answered_session, gone_on, heard_all, is_open_line, may_advance, open_waits}

-- what holds of a session unless it failed
abbrev pub IfAlive : List (List ℕ) → List PlainReceipt → Progress → SessionStage → Type 0
IfAlive lines receipts p at = at ≢ stage.Failed → IsAlive lines receipts p at

-- a session as it is seen
abbrev pub seen : {K : Type 0} → ℕ → List (List ℕ) → List PlainReceipt → SessionStage → K → Progress → PlainSession K
seen user lines receipts at shelf p = record { user = user; lines = lines; acts = acts_in receipts; answers = answers_in receipts; stage = at; shelf = shelf; inside = p }

waiting_lives : (at : SessionStage) → at ≡ stage.Waiting → at ≢ stage.Failed
waiting_lives at is failed = let no : stage.Waiting ≡ stage.Failed = sym is ∙ failed in cc

heard_lives : (at : SessionStage) → HasHeardAll at → at ≢ stage.Failed
heard_lives stage.Ready heard failed = heard
heard_lives stage.Waiting heard failed = cc
heard_lives stage.Finished heard failed = cc
heard_lives stage.Failed heard failed = heard

-- ---- it goes on

-- one that may go on is inside where that may go on
pub goes_inside : {K : Type 0} → (s : PlainSession K) (user : ℕ) (lines : List (List ℕ)) (receipts : List PlainReceipt) (p : Progress) (at : SessionStage) (shelf : K) → seen user lines receipts at shelf p ≡ s → MayGoOn s.stage → at ≢ stage.Failed → IfAlive lines receipts p at
    → MayAdvance p.terminal p.under_way
goes_inside s user lines receipts p at shelf is may alive h =
    let k = h alive in may_advance lines receipts k.exchanges p at k.come (subst MayGoOn (sym (ap (λ (one : PlainSession _). one.stage) is)) may)

-- the acts that were asked stay so with more replies
acts_stay : (lines : List (List ℕ)) (acts : List Act) (answers : List PlainAnswer) (exchanges more : List Exchange) → ((rest : List ShelfReply) → acts ≡ (session_of lines answers (shelf_replies_in exchanges ++ rest)).acts) → (rest : List ShelfReply)
    → acts ≡ (session_of lines answers (shelf_replies_in (more ++ exchanges) ++ rest)).acts
acts_stay lines acts answers exchanges more h rest =
    h (shelf_replies_in more ++ rest)
    ∙ ap (λ replies. (session_of lines answers replies).acts) (sym (append_assoc (shelf_replies_in exchanges) (shelf_replies_in more) rest) ∙ ap (λ before. before ++ rest) (sym (replies_behind more exchanges)))

module _ {K : Type 0} (told : K → Option (Told (ℕ × List ℕ))) (faults : K → ℕ) where
  -- it went on inside
  pub still_alive : (user : ℕ) (lines shown : List (List ℕ)) (receipts : List PlainReceipt) (before after : Progress) (at : SessionStage) (old new : K) → shown ≡ lines → IsAlive lines receipts before at
      → ((answers : List PlainAnswer) (exchanges : List Exchange) → StandsIn shown answers exchanges before → WithCalls told faults user old new exchanges (λ all. SessionComesTo shown answers all after))
      → IsAlive lines receipts after (stage_by (open_act after.under_way))
  still_alive user lines shown receipts before after at old new same h goes =
      let moved = goes (answers_in receipts) h.exchanges (subst (λ (list : List (List ℕ)). StandsIn list (answers_in receipts) h.exchanges before) (sym same) h.come.stands) in
      let come : SessionComesTo lines (answers_in receipts) (moved.more ++ h.exchanges) after = subst (λ (list : List (List ℕ)). SessionComesTo list (answers_in receipts) (moved.more ++ h.exchanges) after) same moved.holds in
      record {
        exchanges = moved.more ++ h.exchanges;
        come = record {
          acts = acts_stay lines (acts_in receipts) (answers_in receipts) h.exchanges moved.more h.come.acts;
          stands = come.stands;
          far = (gone_on lines (answers_in receipts) (moved.more ++ h.exchanges) after come).1;
        };
      }

  -- a session that has come somewhere went on to what it asks
  pub went_on : (s now : PlainSession K) (shown : List (List ℕ)) (before : Progress) → s.inside ≡ before → shown ≡ s.lines → now ≡ record s { stage = now.stage; shelf = now.shelf; inside = now.inside }
      → ((answers : List PlainAnswer) (exchanges : List Exchange) → StandsIn shown answers exchanges before → WithCalls told faults s.user s.shelf now.shelf exchanges (λ all. SessionComesTo shown answers all now.inside))
      → (lent : K) (exchanges : List Exchange) → HasCome told faults lent exchanges s → GoesTo told faults lent exchanges now
  went_on s now shown before inside same kept goes lent exchanges h =
      let moved = goes s.answers exchanges (subst (λ (p : Progress). StandsIn shown s.answers exchanges p) inside (subst (λ (list : List (List ℕ)). StandsIn list s.answers exchanges s.inside) (sym same) h.stands)) in
      let come : SessionComesTo s.lines s.answers (moved.more ++ exchanges) now.inside = subst (λ (list : List (List ℕ)). SessionComesTo list s.answers (moved.more ++ exchanges) now.inside) same moved.holds in
      let there = (gone_on s.lines s.answers (moved.more ++ exchanges) now.inside come).0 in
      let after : PlainSession K = record s { stage = now.stage; shelf = now.shelf; inside = now.inside } in
      subst (λ (n : PlainSession K). GoesTo told faults lent exchanges n) (sym kept)
      (record {
        more = moved.more;
        come = record {
          served = run_on told faults s.user lent s.shelf exchanges moved.more now.shelf h.served moved.served;
          acts = acts_stay s.lines s.acts s.answers exchanges moved.more h.acts;
          stands = come.stands;
        };
        waits = λ rest. sym (there.waits rest);
        calls = there.calls;
      })

module _ {K : Type 0} (told : K → Option (Told (ℕ × List ℕ))) (faults : K → ℕ) where
  -- the same of a session as it is seen
  pub next_goes : (s : PlainSession K) (user : ℕ) (lines shown : List (List ℕ)) (receipts : List PlainReceipt) (before after : Progress) (at now : SessionStage) (old new : K) → seen user lines receipts at old before ≡ s → shown ≡ lines
      → ((answers : List PlainAnswer) (exchanges : List Exchange) → StandsIn shown answers exchanges before → WithCalls told faults user old new exchanges (λ all. SessionComesTo shown answers all after))
      → (lent : K) (exchanges : List Exchange) → HasCome told faults lent exchanges s → GoesTo told faults lent exchanges (seen user lines receipts now new after)
  next_goes s user lines shown receipts before after at now old new is same goes lent exchanges h =
      went_on told faults (seen user lines receipts at old before) (seen user lines receipts now new after) shown before refl same refl goes lent exchanges (subst (λ (one : PlainSession K). HasCome told faults lent exchanges one) (sym is) h)

-- the act that waits in a session that lives, if one does, is no leave
pub open_stays : (lines : List (List ℕ)) (receipts : List PlainReceipt) (p : Progress) (at : SessionStage) (found : Option Act) → IsAlive lines receipts p at → found ≡ open_act p.under_way → IfSome found (λ act. IsTrue (not (is_leave act)))
open_stays lines receipts p at None h is = tt
open_stays lines receipts p at (Some act) h is =
    none_leaves lines (answers_in receipts) (shelf_replies_in h.exchanges ++ []) act (open_waits lines (answers_in receipts) h.exchanges p.read p.terminal p.under_way act h.come.stands (sym is) [])

-- ---- it is given an answer

-- one that waits has an open act inside
pub waits_inside : {K : Type 0} → (s : PlainSession K) (user : ℕ) (lines : List (List ℕ)) (receipts : List PlainReceipt) (p : Progress) (at : SessionStage) (shelf : K) → seen user lines receipts at shelf p ≡ s → s.stage ≡ stage.Waiting → IfAlive lines receipts p at → IsOpenLine (length lines) p.read p.terminal p.under_way
waits_inside s user lines receipts p at shelf is waiting h =
    let here : at ≡ stage.Waiting = ap (λ (one : PlainSession _). one.stage) is ∙ waiting in
    let k = h (waiting_lives at here) in is_open_line lines receipts k.exchanges p at here k.come

-- it stands there too with the answer
pub was_answered : (lines shown : List (List ℕ)) (receipts now : List PlainReceipt) (exchanges : List Exchange) (receipt : PlainReceipt) (before after : Progress) (answer : PlainAnswer) → now ≡ receipts ++ receipt ∷ [] → receipt.answer ≡ answer → shown ≡ lines
    → ((more : List ShelfReply) → acts_in receipts ≡ (session_of lines (answers_in receipts) (shelf_replies_in exchanges ++ more)).acts) → StandsIn lines (answers_in receipts) exchanges before
    → ((answers : List PlainAnswer) (had : List Exchange) → StandsIn shown answers had before → IsAnswered shown answers had receipt.act answer after) → IsSession lines now exchanges after stage.Ready
was_answered lines shown receipts now exchanges receipt before after answer added told same acts stands goes =
    let stood : IsAnswered lines (answers_in receipts) exchanges receipt.act receipt.answer after =
    subst (λ (a : PlainAnswer). IsAnswered lines (answers_in receipts) exchanges receipt.act a after) (sym told)
    (subst (λ (list : List (List ℕ)). IsAnswered list (answers_in receipts) exchanges receipt.act answer after) same (goes (answers_in receipts) exchanges (subst (λ (list : List (List ℕ)). StandsIn list (answers_in receipts) exchanges before) (sym same) stands))) in
    subst (λ (list : List PlainReceipt). IsSession lines list exchanges after stage.Ready) (sym added) (answered_session lines receipts exchanges receipt after acts stood)

-- a session that waits has not failed
pub still_waits : {K : Type 0} → (s : PlainSession K) (user : ℕ) (lines : List (List ℕ)) (receipts : List PlainReceipt) (p : Progress) (at : SessionStage) (shelf : K) → seen user lines receipts at shelf p ≡ s → s.stage ≡ stage.Waiting → at ≢ stage.Failed
still_waits s user lines receipts p at shelf is waiting = waiting_lives at (ap (λ (one : PlainSession _). one.stage) is ∙ waiting)

-- it has come where it had, with the answer
pub answer_comes : {K : Type 0} (told : K → Option (Told (ℕ × List ℕ))) (faults : K → ℕ) (s : PlainSession K) (user : ℕ) (lines shown : List (List ℕ)) (receipts now : List PlainReceipt) (receipt : PlainReceipt) (before after : Progress) (at : SessionStage) (shelf : K) (answer : PlainAnswer)
    → seen user lines receipts at shelf before ≡ s → now ≡ receipts ++ receipt ∷ [] → receipt.answer ≡ answer → shown ≡ lines
    → ((answers : List PlainAnswer) (had : List Exchange) → StandsIn shown answers had before → IsAnswered shown answers had receipt.act answer after)
    → (lent : K) (exchanges : List Exchange) → HasCome told faults lent exchanges s → HasCome told faults lent exchanges (seen user lines now stage.Ready shelf after)
answer_comes told faults s user lines shown receipts now receipt before after at shelf answer is added given same goes lent exchanges h =
    let k = subst (λ (one : PlainSession _). HasCome told faults lent exchanges one) (sym is) h in
    let come = was_answered lines shown receipts now exchanges receipt before after answer added given same k.acts k.stands goes in
    record { served = k.served; acts = come.acts; stands = come.stands }

-- ---- what it shows

-- where all answers were heard, its lines are those that were printed
pub shows_all : {K : Type 0} (told : K → Option (Told (ℕ × List ℕ))) (faults : K → ℕ) (s : PlainSession K) (user : ℕ) (lines shown : List (List ℕ)) (receipts : List PlainReceipt) (p : Progress) (at : SessionStage) (shelf : K) → seen user lines receipts at shelf p ≡ s → IfAlive lines receipts p at
    → shown ≡ p.terminal.transcript → HasHeardAll s.stage → (lent : K) (exchanges : List Exchange) → HasCome told faults lent exchanges s → (more : List ShelfReply) → shown ≡ (session_of s.lines s.answers (shelf_replies_in exchanges ++ more)).terminal.transcript
shows_all told faults s user lines shown receipts p at shelf is h printed heard lent exchanges come more =
    let there : HasHeardAll at = subst HasHeardAll (sym (ap (λ (one : PlainSession _). one.stage) is)) heard in
    let alive : IsAlive lines receipts p at = h (heard_lives at there) in
    let stands : StandsIn lines (answers_in receipts) exchanges p = subst (λ (one : PlainSession _). StandsIn one.lines one.answers exchanges one.inside) (sym is) come.stands in
    printed ∙ heard_all lines (answers_in receipts) exchanges p at stands alive.come.far there more ∙ ap (λ (one : PlainSession _). (session_of one.lines one.answers (shelf_replies_in exchanges ++ more)).terminal.transcript) is
