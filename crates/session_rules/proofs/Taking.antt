-- A session takes its answers one by each act.
use Rattle.std.proofs.Common.{◌≡◌, ℕ, suc, ◌+◌, ◌≤◌, Bool, true, false, cond, List, [], ◌∷◌, ◌++◌, length, not, refl, sym, ap, subst, ◌∙◌, arith, append-nil, append_assoc}
use Rattle.std.proofs.lemmas.List.{length-append}
use Rattle.std.proofs.lemmas.List.Sums.{sum_by-append}
use Rattle.std.specs.Prelude.{Option, Some, None, IsSome, count_by}
use Rattle.sv_events.specs.Answer.{PlainAnswer}
use Rattle.sv_events.specs.declared.event.Act.{Act}
use Rattle.sv_rules.specs.Entries.{is_leave}
use Rattle.apl_meaning.specs.Meaning.{most_statements}
use Rattle.session_rules.specs.Course.{Course, course_beginning}
use Rattle.session_rules.specs.Session.{lines_done, next_line, session_of}
use Rattle.session_rules.specs.SessionLaws.{AnswersAreTakenOneByOne, FullEndsItsLine, NoLineLeaves, TheNextAnswerIsTaken, tells_full}
use Rattle.session_rules.specs.Shelf.{ShelfReply}
use Rattle.session_rules.proofs.MoreAnswers.{next_more, waits_on}
use Rattle.session_rules.proofs.Parts.{tame_next}
use Rattle.session_rules.proofs.Tame.{InNeed, IsTame, NextIs, Took, and_further, waiting_count}

-- ---- lines

-- what was taken by one line and then by others
took_both : (c d e : Course) (most : ℕ) → Took c d 1 → d.waits ≡ None → Took d e most → Took c e (suc most)
took_both c d e most k none m = record {
  taken = k.taken ++ m.taken;
  acts = k.acts ++ m.acts;
  answers = k.answers ∙ ap (λ rest. k.taken ++ rest) m.answers ∙ sym (append_assoc k.taken m.taken e.answers);
  asked = m.asked ∙ ap (λ before. before ++ m.acts) k.asked ∙ append_assoc c.acts k.acts m.acts;
  one_by_one = omega (arith, length-append k.acts m.acts, length-append k.taken m.taken, k.one_by_one, m.one_by_one);
  full = omega (arith, sum_by-append (λ (found : PlainAnswer). cond (tells_full found) 1 0) k.taken m.taken, k.full, m.full);
  in_need = m.in_need;
}

-- with room for more
took_more : (c d : Course) (most more : ℕ) → most ≤ more → Took c d most → Took c d more
took_more c d most more le k = record { taken = k.taken; acts = k.acts; answers = k.answers; asked = k.asked; one_by_one = k.one_by_one; full = omega (arith, k.full, le); in_need = k.in_need }

-- what is taken by a line and by those behind it, which take so from wherever no act waits
then_took : (left : ℕ) (lines : List (List ℕ)) (c d : Course) → ((e : Course) → e.waits ≡ None → Took e (lines_done left lines e) (length lines)) → (waits : Option Act) → d.waits ≡ waits → Took c d 1
    → Took c (lines_done left lines d) (suc (length lines))
then_took left lines c d later None is k = took_both c d (lines_done left lines d) (length lines) k is (later d is)
then_took left lines c d later (Some asked) is k = subst (λ (e : Course). Took c e (suc (length lines))) (sym (waits_on left lines d asked is)) (took_more c d 1 (suc (length lines)) (omega arith) k)

-- the next line takes so, where no act waits
next_took : (left : ℕ) (line : List ℕ) (c : Course) (waits : Option Act) (ended : Bool) → c.waits ≡ waits → waits ≡ None → Took c (next_line left waits ended line c) 1
next_took left line c None ended is none = (tame_next left ended line).took c is
next_took left line c (Some asked) ended is none = absurd cc

-- a session takes answers line by line
pub lines_took : (left : ℕ) (lines : List (List ℕ)) (c : Course) → c.waits ≡ None → Took c (lines_done left lines c) (length lines)
lines_took left [] c none = record {
  taken = [];
  acts = [];
  answers = refl;
  asked = sym (append-nil c.acts);
  one_by_one = refl;
  full = omega (arith, ap waiting_count none);
  in_need = subst (λ waits. InNeed c.answers waits) (sym none) tt;
}
lines_took left (line ∷ lines) c none =
    let d : Course = next_line left c.waits c.terminal.ended line c in
    then_took left lines c d (λ e. lines_took left lines e) d.waits refl (next_took left line c c.waits c.terminal.ended refl none)

-- ---- the act that waits

-- where an act waits, all answers were taken
needs : (c : Course) (asked : Act) → c.waits ≡ Some asked → InNeed c.answers c.waits → (c.answers ≡ []) × (is_leave asked ≡ false)
needs c asked is h = subst (λ waits. InNeed c.answers waits) is h

-- so the session took all that it was given
all_taken : (lines : List (List ℕ)) (answers : List PlainAnswer) (replies : List ShelfReply) (asked : Act) → (session_of lines answers replies).waits ≡ Some asked → (k : Took (course_beginning answers replies) (session_of lines answers replies) (length lines)) → answers ≡ k.taken
all_taken lines answers replies asked is k = k.answers ∙ ap (λ rest. k.taken ++ rest) (needs (session_of lines answers replies) asked is k.in_need).0 ∙ append-nil k.taken

some_act : (waits : Option Act) → IsSome waits → (asked : Act) × (waits ≡ Some asked)
some_act None some = absurd (let no : false ≡ true = some in cc)
some_act (Some asked) some = (asked, refl)

-- while an act waits each answer was taken, one by each act
pub one_by_one : AnswersAreTakenOneByOne
one_by_one lines answers replies some =
    let waits = some_act (session_of lines answers replies).waits some in
    let k = lines_took most_statements lines (course_beginning answers replies) refl in
    let whole : answers ≡ k.taken = all_taken lines answers replies waits.0 waits.1 k in
    ((needs (session_of lines answers replies) waits.0 waits.1 k.in_need).0, ap length k.asked ∙ k.one_by_one ∙ ap length (sym whole))

-- no line asks to leave
pub none_leaves : NoLineLeaves
none_leaves lines answers replies asked is =
    let k = lines_took most_statements lines (course_beginning answers replies) refl in ap not (needs (session_of lines answers replies) asked is k.in_need).1

-- while an act waits, fewer answers than lines told that the journal is full
pub full_is_rare : FullEndsItsLine
full_is_rare lines answers replies some =
    let waits = some_act (session_of lines answers replies).waits some in
    let k = lines_took most_statements lines (course_beginning answers replies) refl in
    let whole : answers ≡ k.taken = all_taken lines answers replies waits.0 waits.1 k in
    omega (arith, k.full, ap (count_by tells_full) whole, ap waiting_count waits.1)

-- ---- with an answer more

-- acts are added to those there were
record Added (c d : Course) : Type 0 where
  acts : List Act
  asked : d.acts ≡ c.acts ++ acts

lines_add : (left : ℕ) (lines : List (List ℕ)) (c : Course) (waits : Option Act) → c.waits ≡ waits → Added c (lines_done left lines c)
lines_add left lines c None is = let k = lines_took left lines c is in record { acts = k.acts; asked = k.asked }
lines_add left lines c (Some asked) is = record { acts = []; asked = ap (λ (d : Course). d.acts) (waits_on left lines c asked is) ∙ sym (append-nil c.acts) }

-- and so it is behind further lines
then_next : (left : ℕ) (lines : List (List ℕ)) (d e : Course) (asked : Act) → d.waits ≡ Some asked → NextIs d e asked → NextIs (lines_done left lines d) (lines_done left lines e) asked
then_next left lines d e asked is n =
    let k = lines_add left lines e e.waits refl in
    record {
      acts = n.acts ++ k.acts;
      same = k.asked ∙ ap (λ before. before ++ k.acts) n.same ∙ append_assoc d.acts (asked ∷ n.acts) k.acts ∙ ap (λ (f : Course). f.acts ++ asked ∷ (n.acts ++ k.acts)) (sym (waits_on left lines d asked is));
    }

next_next : (left : ℕ) (line : List ℕ) (c : Course) (answer : PlainAnswer) (more : List PlainAnswer) (waits : Option Act) (ended : Bool) → c.waits ≡ waits → waits ≡ None → (asked : Act) → (next_line left waits ended line c).waits ≡ Some asked
    → NextIs (next_line left waits ended line c) (next_line left waits ended line (and_further (answer ∷ more) c)) asked
next_next left line c answer more None ended is none asked there = (tame_next left ended line).next c answer more asked is there
next_next left line c answer more (Some act) ended is none asked there = absurd cc

-- the lines behind one that was begun with fewer answers and with more
then_on : (left : ℕ) (lines : List (List ℕ)) (d e : Course) (answer : PlainAnswer) (more : List PlainAnswer)
    → ((f : Course) → f.waits ≡ None → (asked : Act) → (lines_done left lines f).waits ≡ Some asked → NextIs (lines_done left lines f) (lines_done left lines (and_further (answer ∷ more) f)) asked)
    → (waits : Option Act) → d.waits ≡ waits → (d.waits ≡ None → e ≡ and_further (answer ∷ more) d) → ((asked : Act) → d.waits ≡ Some asked → NextIs d e asked)
    → (asked : Act) → (lines_done left lines d).waits ≡ Some asked → NextIs (lines_done left lines d) (lines_done left lines e) asked
then_on left lines d e answer more later None is same next asked there =
    subst (λ (f : Course). NextIs (lines_done left lines d) (lines_done left lines f) asked) (sym (same is)) (later d is asked there)
then_on left lines d e answer more later (Some act) is same next asked there =
    let waiting : d.waits ≡ Some asked = sym (ap (λ (f : Course). f.waits) (waits_on left lines d act is)) ∙ there in
    then_next left lines d e asked waiting (next asked waiting)

lines_next : (left : ℕ) (lines : List (List ℕ)) (answer : PlainAnswer) (more : List PlainAnswer) (c : Course) → c.waits ≡ None → (asked : Act) → (lines_done left lines c).waits ≡ Some asked
    → NextIs (lines_done left lines c) (lines_done left lines (and_further (answer ∷ more) c)) asked
lines_next left [] answer more c none asked there = absurd (let no : None ≡ Some asked = sym none ∙ there in cc)
lines_next left (line ∷ lines) answer more c none asked there =
    let d : Course = next_line left c.waits c.terminal.ended line c in
    let e : Course = next_line left c.waits c.terminal.ended line (and_further (answer ∷ more) c) in
    then_on left lines d e answer more (lines_next left lines answer more) d.waits refl (λ over. next_more left line c (answer ∷ more) c.waits c.terminal.ended none over)
    (λ act waiting. next_next left line c answer more c.waits c.terminal.ended refl none act waiting) asked there

nothing_more : (acts : List Act) → length acts ≤ 0 → acts ≡ []
nothing_more [] few = refl
nothing_more (act ∷ acts) few = absurd (omega arith)

-- an act that waits takes the next answer, and no other does
pub next_is_taken : TheNextAnswerIsTaken
next_is_taken lines answers replies answer asked is =
    let n = lines_next most_statements lines answer [] (course_beginning answers replies) refl asked is in
    let k = lines_took most_statements lines (course_beginning (answers ++ answer ∷ []) replies) refl in
    let few : length n.acts ≤ 0 =
    omega (
      arith,
      ap length n.same,
      length-append (session_of lines answers replies).acts (asked ∷ n.acts),
      (one_by_one lines answers replies (subst (λ (waits : Option Act). IsSome waits) (sym is) refl)).1,
      ap length k.asked,
      k.one_by_one,
      ap length k.answers,
      length-append k.taken (session_of lines (answers ++ answer ∷ []) replies).answers,
      length-append answers (answer ∷ []),
    ) in
    n.same ∙ ap (λ acts. (session_of lines answers replies).acts ++ asked ∷ acts) (nothing_more n.acts few)

nothing_taken : (taken rest : List PlainAnswer) → [] ≡ taken ++ rest → taken ≡ []
nothing_taken [] rest e = refl
nothing_taken (answer ∷ taken) rest e = absurd cc

-- without answers no act was answered
pub none_asked : (lines : List (List ℕ)) (replies : List ShelfReply) → (session_of lines [] replies).acts ≡ []
none_asked lines replies =
    let k = lines_took most_statements lines (course_beginning [] replies) refl in
    k.asked ∙ nothing_more k.acts (omega (arith, k.one_by_one, ap length (nothing_taken k.taken (session_of lines [] replies).answers k.answers)))
