-- A part of a session is tame: it takes its answers one by each act, those that it does not take come back, what is printed only grows, and so it does with more answers. Parts of parts are tame where these are.
use Rattle.std.proofs.Common.{◌≡◌, ℕ, suc, ◌+◌, ◌≤◌, Bool, true, false, cond, List, [], ◌∷◌, ◌++◌, length, refl, sym, ap, subst, ◌∙◌, arith, append-nil, append_assoc}
use Rattle.std.proofs.lemmas.List.{length-append}
use Rattle.std.proofs.lemmas.List.Sums.{count_by-le-length, sum_by-cons}
use Rattle.std.specs.Prelude.{Option, Some, None, count_by, if◌then◌else◌}
use Rattle.apl_arrays.specs.Report.{report_text}
use Rattle.apl_arrays.specs.declared.report.Report.{Report}
use Rattle.sv_events.specs.Answer.{PlainAnswer}
use Rattle.sv_events.specs.Fits.{is_full_kind}
use Rattle.sv_events.specs.Row.{answer_row}
use Rattle.sv_events.specs.declared.event.Act.{Act}
use Rattle.sv_events.specs.declared.row.AnswerKind.{AnswerKind}
use Rattle.sv_events.specs.declared.row.AnswerKind.TheVariants as kind
use Rattle.sv_rules.specs.Entries.{is_leave}
use Rattle.apl_terminal.specs.Commands.{naming_alone}
use Rattle.apl_terminal.specs.Terminal.{PlainTerminal}
use Rattle.session_rules.specs.Commands.{asking_act_by, asking_act, shelf_called, command_end, unless_reported}
use Rattle.session_rules.specs.Course.{Course, with_terminal}
use Rattle.session_rules.specs.SessionLaws.{tells_full}
use Rattle.session_rules.specs.Shelf.{Call, ShelfReply}

-- a session with more answers behind those that are left
abbrev pub and_further : List PlainAnswer → Course → Course
and_further more c = record c { answers = c.answers ++ more }

-- ---- what is printed

-- a transcript begins with another
pub record Grows (before after : List (List ℕ)) : Type 0 where
  pub lines : List (List ℕ)
  pub same : after ≡ before ++ lines

pub stays : (before : List (List ℕ)) → Grows before before
stays before = record { lines = []; same = sym (append-nil before) }

pub by : (before lines : List (List ℕ)) → Grows before (before ++ lines)
by before lines = record { lines = lines; same = refl }

pub grows_on : (before between after : List (List ℕ)) → Grows before between → Grows between after → Grows before after
grows_on before between after h k = record { lines = h.lines ++ k.lines; same = k.same ∙ ap (λ earlier. earlier ++ k.lines) h.same ∙ append_assoc before h.lines k.lines }

-- what is done to a terminal only adds lines
abbrev pub OnlyAdds : (PlainTerminal → PlainTerminal) → Type 0
OnlyAdds g = (t : PlainTerminal) → Grows t.transcript (g t).transcript

-- ---- what is taken

-- one where an act waits
abbrev pub waiting_count : Option Act → ℕ
waiting_count None = 0
waiting_count (Some asked) = 1

-- an act waits where all answers were taken, and it is no leave
abbrev pub InNeed : List PlainAnswer → Option Act → Type 0
InNeed answers None = Unit {0}
InNeed answers (Some asked) = (answers ≡ []) × (is_leave asked ≡ false)

-- from one course to another these answers were taken, one by each act, and no more told that the journal is full than so many
pub record Took (c d : Course) (most : ℕ) : Type 0 where
  pub taken : List PlainAnswer
  pub acts : List Act
  pub answers : c.answers ≡ taken ++ d.answers
  pub asked : d.acts ≡ c.acts ++ acts
  pub one_by_one : length acts ≡ length taken
  pub full : count_by tells_full taken + waiting_count d.waits ≤ most
  pub in_need : InNeed d.answers d.waits

-- where nothing was asked and no act waits nothing is taken
pub took_nothing : (c d : Course) → d.answers ≡ c.answers → d.acts ≡ c.acts → d.waits ≡ None → Took c d 1
took_nothing c d answers acts none = record {
  taken = [];
  acts = [];
  answers = sym answers;
  asked = acts ∙ sym (append-nil c.acts);
  one_by_one = refl;
  full = omega (arith, ap waiting_count none);
  in_need = subst (λ waits. InNeed d.answers waits) (sym none) tt;
}

-- from a course with the same answers and acts the same is taken
pub took_from : (b c d : Course) (most : ℕ) → b.answers ≡ c.answers → b.acts ≡ c.acts → Took b d most → Took c d most
took_from b c d most answers acts k = record {
  taken = k.taken;
  acts = k.acts;
  answers = sym answers ∙ k.answers;
  asked = k.asked ∙ ap (λ before. before ++ k.acts) acts;
  one_by_one = k.one_by_one;
  full = k.full;
  in_need = k.in_need;
}

-- where an act waited, it is the next one that was asked and answered
pub record NextIs (c d : Course) (asked : Act) : Type 0 where
  pub acts : List Act
  pub same : d.acts ≡ c.acts ++ asked ∷ acts

-- ---- tame parts

pub record IsTame (f : Course → Course) : Type 0 where
  pub more : (c : Course) (more : List PlainAnswer) → (f c).waits ≡ None → f (and_further more c) ≡ and_further more (f c)
  pub grows : (c : Course) → Grows c.terminal.transcript (f c).terminal.transcript
  pub further : (c : Course) (more : List PlainAnswer) → Grows (f c).terminal.transcript (f (and_further more c)).terminal.transcript
  pub took : (c : Course) → c.waits ≡ None → Took c (f c) 1
  pub next : (c : Course) (answer : PlainAnswer) (more : List PlainAnswer) (asked : Act) → c.waits ≡ None → (f c).waits ≡ Some asked → NextIs (f c) (f (and_further (answer ∷ more) c)) asked

never_waits : {R : Type 0} (waits : Option Act) (asked : Act) → waits ≡ None → waits ≡ Some asked → R
never_waits waits asked none is = absurd (let no : None ≡ Some asked = sym none ∙ is in cc)

-- nothing is done
pub tame_nothing : IsTame (λ c. c)
tame_nothing = record {
  more = λ c more over. refl;
  grows = λ c. stays c.terminal.transcript;
  further = λ c more. stays c.terminal.transcript;
  took = λ c none. took_nothing c c refl refl none;
  next = λ c answer more asked none is. never_waits c.waits asked none is;
}

-- something is done to the terminal alone
pub tame_terminal : (g : PlainTerminal → PlainTerminal) → OnlyAdds g → IsTame (λ c. with_terminal (g c.terminal) c)
tame_terminal g adds = record {
  more = λ c more over. refl;
  grows = λ c. adds c.terminal;
  further = λ c more. stays (g c.terminal).transcript;
  took = λ c none. took_nothing c (with_terminal (g c.terminal) c) refl refl none;
  next = λ c answer more asked none is. never_waits c.waits asked none is;
}

-- and then a tame part
pub tame_after : (g : PlainTerminal → PlainTerminal) (f : Course → Course) → OnlyAdds g → IsTame f → IsTame (λ c. f (with_terminal (g c.terminal) c))
tame_after g f adds h = record {
  more = λ c more over. h.more (with_terminal (g c.terminal) c) more over;
  grows = λ c. grows_on c.terminal.transcript (g c.terminal).transcript (f (with_terminal (g c.terminal) c)).terminal.transcript (adds c.terminal) (h.grows (with_terminal (g c.terminal) c));
  further = λ c more. h.further (with_terminal (g c.terminal) c) more;
  took = λ c none. took_from (with_terminal (g c.terminal) c) c (f (with_terminal (g c.terminal) c)) 1 refl refl (h.took (with_terminal (g c.terminal) c) none);
  next = λ c answer more asked none is. h.next (with_terminal (g c.terminal) c) answer more asked none is;
}

-- one of two parts
pub tame_by : (b : Bool) (f g : Course → Course) → IsTame f → IsTame g → IsTame (λ c. if b then f c else g c)
tame_by true f g h k = record { more = h.more; grows = h.grows; further = h.further; took = h.took; next = h.next }
tame_by false f g h k = record { more = k.more; grows = k.grows; further = k.further; took = k.took; next = k.next }

-- a part by the terminal
pub tame_by_terminal : (f : PlainTerminal → Course → Course) → ((t : PlainTerminal) → IsTame (f t)) → IsTame (λ c. f c.terminal c)
tame_by_terminal f h = record {
  more = λ c more over. (h c.terminal).more c more over;
  grows = λ c. (h c.terminal).grows c;
  further = λ c more. (h c.terminal).further c more;
  took = λ c none. (h c.terminal).took c none;
  next = λ c answer more asked none is. (h c.terminal).next c answer more asked none is;
}

-- a part by the replies
pub tame_by_replies : (f : List ShelfReply → Course → Course) → ((replies : List ShelfReply) → IsTame (f replies)) → IsTame (λ c. f c.replies c)
tame_by_replies f h = record {
  more = λ c more over. (h c.replies).more c more over;
  grows = λ c. (h c.replies).grows c;
  further = λ c more. (h c.replies).further c more;
  took = λ c none. (h c.replies).took c none;
  next = λ c answer more asked none is. (h c.replies).next c answer more asked none is;
}

-- a part behind a call of the shelf
pub tame_called : (call : Option Call) (f : Course → Course) → IsTame f → IsTame (λ c. f (shelf_called call c))
tame_called None f h = record { more = h.more; grows = h.grows; further = h.further; took = h.took; next = h.next }
tame_called (Some call) f h = record {
  more = λ c more over. h.more (shelf_called (Some call) c) more over;
  grows = λ c. h.grows (shelf_called (Some call) c);
  further = λ c more. h.further (shelf_called (Some call) c) more;
  took = λ c none. took_from (shelf_called (Some call) c) c (f (shelf_called (Some call) c)) 1 refl refl (h.took (shelf_called (Some call) c) none);
  next = λ c answer more asked none is. h.next (shelf_called (Some call) c) answer more asked none is;
}

-- ---- an act of a command

-- an answer may end it
pub tame_unless : (ended : Option Report) (next : Course → Course) → IsTame next → IsTame (unless_reported ended next)
tame_unless None next h = record { more = h.more; grows = h.grows; further = h.further; took = h.took; next = h.next }
tame_unless (Some report) next h =
    let k = tame_terminal (naming_alone report) (λ t. by t.transcript (report_text report ∷ [])) in
    record { more = k.more; grows = k.grows; further = k.further; took = k.took; next = k.next }

-- one that tells that the journal is full does
full_ends : (k : AnswerKind) → command_end k ≡ None → is_full_kind k ≡ false
full_ends kind.Degree none = refl
full_ends kind.Granted none = refl
full_ends kind.Value none = refl
full_ends kind.NoValue none = refl
full_ends kind.Held none = refl
full_ends kind.Abandoned none = refl
full_ends kind.NotShared none = refl
full_ends kind.OfferLimit none = refl
full_ends kind.Full none = absurd cc
full_ends kind.Vector none = refl
full_ends kind.Parties none = refl
full_ends kind.Names none = refl
full_ends kind.Kept none = refl
full_ends kind.Done none = refl

module _ (asked : Act) (leaves : PlainAnswer → PlainTerminal → PlainTerminal) (next : Course → Course) where
  -- what comes behind an answer that does not end the command
  abbrev going : PlainAnswer → Course → Course
  going answer d = next (with_terminal (leaves answer d.terminal) d)

  -- what comes behind an answer
  abbrev told : PlainAnswer → Course → Course
  told answer d = unless_reported (command_end (answer_row answer).row.kind) (going answer) d

  -- with the act asked, and these answers left
  abbrev taking : List PlainAnswer → Course → Course
  taking answers c = record c { acts = c.acts ++ asked ∷ []; answers = answers }

  module _ (stays_there : is_leave asked ≡ false) (adds : (answer : PlainAnswer) → OnlyAdds (leaves answer)) (h : IsTame next) where
    tame_told : (answer : PlainAnswer) → IsTame (told answer)
    tame_told answer = tame_unless (command_end (answer_row answer).row.kind) (going answer) (tame_after (leaves answer) next (adds answer) h)

    more_by : (list : List PlainAnswer) (c : Course) (more : List PlainAnswer) → (asking_act_by list asked leaves next c).waits ≡ None → asking_act_by (list ++ more) asked leaves next (and_further more c) ≡ and_further more (asking_act_by list asked leaves next c)
    more_by [] c more over = absurd (let no : Some asked ≡ None = over in cc)
    more_by (answer ∷ list) c more over = (tame_told answer).more (taking list c) more over

    grows_by : (list : List PlainAnswer) (c : Course) → Grows c.terminal.transcript (asking_act_by list asked leaves next c).terminal.transcript
    grows_by [] c = stays c.terminal.transcript
    grows_by (answer ∷ list) c = (tame_told answer).grows (taking list c)

    further_by : (list : List PlainAnswer) (c : Course) (more : List PlainAnswer) → Grows (asking_act_by list asked leaves next c).terminal.transcript (asking_act_by (list ++ more) asked leaves next (and_further more c)).terminal.transcript
    further_by [] c more = grows_by more (and_further more c)
    further_by (answer ∷ list) c more = (tame_told answer).further (taking list c) more

    -- the answer ended it
    took_end : (c : Course) (answer : PlainAnswer) (list : List PlainAnswer) (report : Report) → c.answers ≡ answer ∷ list → c.waits ≡ None → Took c (unless_reported (Some report) (going answer) (taking list c)) 1
    took_end c answer list report is none = record {
      taken = answer ∷ [];
      acts = asked ∷ [];
      answers = is;
      asked = refl;
      one_by_one = refl;
      full = omega (arith, count_by-le-length tells_full (answer ∷ []), ap waiting_count none);
      in_need = subst (λ waits. InNeed list waits) (sym none) tt;
    }

    -- it did not
    took_on : (c : Course) (answer : PlainAnswer) (list : List PlainAnswer) (d : Course) → c.answers ≡ answer ∷ list → tells_full answer ≡ false → Took (taking list c) d 1 → Took c d 1
    took_on c answer list d is free k = record {
      taken = answer ∷ k.taken;
      acts = asked ∷ k.acts;
      answers = is ∙ ap (λ rest. answer ∷ rest) k.answers;
      asked = k.asked ∙ append_assoc c.acts (asked ∷ []) k.acts;
      one_by_one = ap suc k.one_by_one;
      full = omega (arith, sum_by-cons (λ (found : PlainAnswer). cond (tells_full found) 1 0) answer k.taken, ap {B = ℕ} (λ (b : Bool). cond b 1 0) free, k.full);
      in_need = k.in_need;
    }

    took_told : (ended : Option Report) (c : Course) (answer : PlainAnswer) (list : List PlainAnswer) → command_end (answer_row answer).row.kind ≡ ended → c.answers ≡ answer ∷ list → c.waits ≡ None → Took c (unless_reported ended (going answer) (taking list c)) 1
    took_told None c answer list e is none =
        took_on c answer list (going answer (taking list c)) is (full_ends (answer_row answer).row.kind e) ((tame_after (leaves answer) next (adds answer) h).took (taking list c) none)
    took_told (Some report) c answer list e is none = took_end c answer list report is none

    took_by : (list : List PlainAnswer) (c : Course) → c.answers ≡ list → c.waits ≡ None → Took c (asking_act_by list asked leaves next c) 1
    took_by [] c is none = record {
      taken = [];
      acts = [];
      answers = refl;
      asked = sym (append-nil c.acts);
      one_by_one = refl;
      full = omega arith;
      in_need = (is, stays_there);
    }
    took_by (answer ∷ list) c is none = took_told (command_end (answer_row answer).row.kind) c answer list refl is none

    next_by : (list : List PlainAnswer) (c : Course) (answer : PlainAnswer) (more : List PlainAnswer) (other : Act) → c.waits ≡ None → (asking_act_by list asked leaves next c).waits ≡ Some other
        → NextIs (asking_act_by list asked leaves next c) (asking_act_by (list ++ answer ∷ more) asked leaves next (and_further (answer ∷ more) c)) other
    next_by [] c answer more other none is =
        let same : asked ≡ other = let both : Some asked ≡ Some other = is in cc in
        let k = (tame_told answer).took (taking more c) none in
        record { acts = k.acts; same = k.asked ∙ append_assoc c.acts (asked ∷ []) k.acts ∙ ap (λ a. c.acts ++ a ∷ k.acts) same }
    next_by (first ∷ list) c answer more other none is = (tame_told first).next (taking list c) answer more other none is

    -- an act that is no leave, behind whose answer lines are only added, before a tame part
    pub tame_asking : IsTame (asking_act asked leaves next)
    tame_asking = record {
      more = λ c more over. more_by c.answers c more over;
      grows = λ c. grows_by c.answers c;
      further = λ c more. further_by c.answers c more;
      took = λ c none. took_by c.answers c refl none;
      next = λ c answer more other none is. next_by c.answers c answer more other none is;
    }
