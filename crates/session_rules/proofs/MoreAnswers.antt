-- A session that is finished takes no more answers.
use Rattle.std.proofs.Common.{◌≡◌, ℕ, Bool, true, false, List, [], ◌∷◌, ◌++◌, refl, sym, ap, ◌∙◌}
use Rattle.std.specs.Prelude.{Option, Some, None}
use Rattle.sv_events.specs.Answer.{PlainAnswer}
use Rattle.sv_events.specs.declared.event.Act.{Act}
use Rattle.apl_meaning.specs.Meaning.{most_statements}
use Rattle.session_rules.specs.Course.{Course, course_beginning}
use Rattle.session_rules.specs.Session.{lines_done, next_line}
use Rattle.session_rules.specs.SessionLaws.{MoreAnswersComeBack}
use Rattle.session_rules.proofs.Parts.{tame_next}
use Rattle.session_rules.proofs.Tame.{IsTame, and_further}

-- an act that waits is waiting after more lines
pub waits_on : (left : ℕ) (lines : List (List ℕ)) (c : Course) (asked : Act) → c.waits ≡ Some asked → lines_done left lines c ≡ c
waits_on left [] c asked e = refl
waits_on left (line ∷ lines) c asked e =
    ap (λ waits. lines_done left lines (next_line left waits c.terminal.ended line c)) e ∙ waits_on left lines c asked e

next_ended : (left : ℕ) (waits : Option Act) (line : List ℕ) (c : Course) → next_line left waits true line c ≡ c
next_ended left None line c = refl
next_ended left (Some asked) line c = refl

-- once the user has ended the session no line is done
pub ended_on : (left : ℕ) (lines : List (List ℕ)) (c : Course) → c.terminal.ended ≡ true → lines_done left lines c ≡ c
ended_on left [] c e = refl
ended_on left (line ∷ lines) c e =
    ap (λ ended. lines_done left lines (next_line left c.waits ended line c)) e ∙ ap (lines_done left lines) (next_ended left c.waits line c) ∙ ended_on left lines c e

-- so where none waits at the end none waits before
none_before : (left : ℕ) (lines : List (List ℕ)) (c : Course) (waits : Option Act) → c.waits ≡ waits → (lines_done left lines c).waits ≡ None → c.waits ≡ None
none_before left lines c None e over = e
none_before left lines c (Some asked) e over = absurd (let no : None ≡ Some asked = sym over ∙ ap (λ (d : Course). d.waits) (waits_on left lines c asked e) ∙ e in cc)

pub none_waits : (left : ℕ) (lines : List (List ℕ)) (c : Course) → (lines_done left lines c).waits ≡ None → c.waits ≡ None
none_waits left lines c over = none_before left lines c c.waits refl over

pub next_more : (left : ℕ) (line : List ℕ) (c : Course) (more : List PlainAnswer) (waits : Option Act) (ended : Bool) → waits ≡ None → (next_line left waits ended line c).waits ≡ None
    → next_line left waits ended line (and_further more c) ≡ and_further more (next_line left waits ended line c)
next_more left line c more None ended e over = (tame_next left ended line).more c more over
next_more left line c more (Some asked) ended e over = absurd cc

pub lines_more : (left : ℕ) (lines : List (List ℕ)) (c : Course) (more : List PlainAnswer) → (lines_done left lines c).waits ≡ None
    → lines_done left lines (and_further more c) ≡ and_further more (lines_done left lines c)
lines_more left [] c more over = refl
lines_more left (line ∷ lines) c more over =
    let d : Course = next_line left c.waits c.terminal.ended line c in
    ap (lines_done left lines) (next_more left line c more c.waits c.terminal.ended (none_waits left (line ∷ lines) c over) (none_waits left lines d over)) ∙ lines_more left lines d more over

-- a session that is finished takes no more answers
pub more_comes_back : MoreAnswersComeBack
more_comes_back lines answers more replies over = lines_more most_statements lines (course_beginning answers replies) more over
