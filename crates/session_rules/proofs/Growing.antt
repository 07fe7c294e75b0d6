-- What a session echoes and prints only grows.
use Rattle.std.proofs.Common.{◌≡◌, ℕ, Bool, List, [], ◌∷◌, ◌++◌, refl, sym, subst, ◌∙◌}
use Rattle.std.specs.Prelude.{Option, Some, None}
use Rattle.sv_events.specs.Answer.{PlainAnswer}
use Rattle.sv_events.specs.declared.event.Act.{Act}
use Rattle.apl_meaning.specs.Meaning.{most_statements}
use Rattle.session_rules.specs.Course.{Course, course_beginning}
use Rattle.session_rules.specs.Session.{lines_done, next_line}
use Rattle.session_rules.specs.SessionLaws.{TranscriptsGrow}
use Rattle.session_rules.proofs.MoreAnswers.{next_more, waits_on}
use Rattle.session_rules.proofs.Parts.{tame_next}
use Rattle.session_rules.proofs.Tame.{Grows, IsTame, and_further, grows_on, stays}

next_grows : (left : ℕ) (waits : Option Act) (ended : Bool) (line : List ℕ) (c : Course) → Grows c.terminal.transcript (next_line left waits ended line c).terminal.transcript
next_grows left None ended line c = (tame_next left ended line).grows c
next_grows left (Some asked) ended line c = stays c.terminal.transcript

lines_grow : (left : ℕ) (lines : List (List ℕ)) (c : Course) → Grows c.terminal.transcript (lines_done left lines c).terminal.transcript
lines_grow left [] c = stays c.terminal.transcript
lines_grow left (line ∷ lines) c =
    let d : Course = next_line left c.waits c.terminal.ended line c in
    grows_on c.terminal.transcript d.terminal.transcript (lines_done left lines d).terminal.transcript (next_grows left c.waits c.terminal.ended line c) (lines_grow left lines d)

-- ---- with more answers

next_with_more : (left : ℕ) (waits : Option Act) (ended : Bool) (line : List ℕ) (c : Course) (more : List PlainAnswer) → Grows (next_line left waits ended line c).terminal.transcript (next_line left waits ended line (and_further more c)).terminal.transcript
next_with_more left None ended line c more = (tame_next left ended line).further c more
next_with_more left (Some asked) ended line c more = stays c.terminal.transcript

-- the lines behind one that was begun with fewer answers and with more
behind_grow : (left : ℕ) (lines : List (List ℕ)) (d e : Course) (more : List PlainAnswer) → ((f : Course) → Grows (lines_done left lines f).terminal.transcript (lines_done left lines (and_further more f)).terminal.transcript)
    → (waits : Option Act) → d.waits ≡ waits → (d.waits ≡ None → e ≡ and_further more d) → Grows d.terminal.transcript e.terminal.transcript → Grows (lines_done left lines d).terminal.transcript (lines_done left lines e).terminal.transcript
behind_grow left lines d e more later None is same h = subst (λ (f : Course). Grows (lines_done left lines d).terminal.transcript (lines_done left lines f).terminal.transcript) (sym (same is)) (later d)
behind_grow left lines d e more later (Some asked) is same h =
    subst (λ (f : Course). Grows f.terminal.transcript (lines_done left lines e).terminal.transcript) (sym (waits_on left lines d asked is)) (grows_on d.terminal.transcript e.terminal.transcript (lines_done left lines e).terminal.transcript h (lines_grow left lines e))

next_same : (left : ℕ) (line : List ℕ) (c : Course) (more : List PlainAnswer) (waits : Option Act) (ended : Bool) → c.waits ≡ waits → (next_line left waits ended line c).waits ≡ None → next_line left waits ended line (and_further more c) ≡ and_further more (next_line left waits ended line c)
next_same left line c more None ended is over = next_more left line c more None ended refl over
next_same left line c more (Some asked) ended is over = absurd (let no : None ≡ Some asked = sym over ∙ is in cc)

lines_with_more : (left : ℕ) (lines : List (List ℕ)) (more : List PlainAnswer) (c : Course) → Grows (lines_done left lines c).terminal.transcript (lines_done left lines (and_further more c)).terminal.transcript
lines_with_more left [] more c = stays c.terminal.transcript
lines_with_more left (line ∷ lines) more c =
    let d : Course = next_line left c.waits c.terminal.ended line c in
    let e : Course = next_line left c.waits c.terminal.ended line (and_further more c) in
    behind_grow left lines d e more (lines_with_more left lines more) d.waits refl (λ over. next_same left line c more c.waits c.terminal.ended refl over) (next_with_more left c.waits c.terminal.ended line c more)

-- what was echoed and printed with some answers is the beginning of what is with more
pub transcripts_grow : TranscriptsGrow
transcripts_grow lines answers more replies = let h = lines_with_more most_statements lines more (course_beginning answers replies) in (h.lines, h.same)
