-- In each run of a load user 1002 has a line.
use Rattle.std.proofs.Common.{◌≡◌, ◌<◌, ◌^◌, ◌-◌, ◌==◌, ◌∷◌, ◌++◌, ◌∙◌, ℕ, Bool, false, cond, List, [], Option, Some, None, codes, drop, find, get_or, length, map, refl, sym, ap, ap₂, subst, arith}
use Rattle.std.proofs.lemmas.Option.{slice_get-get_or}
use Rattle.std.specs.Option.{option_and_then}
use Rattle.apl_meaning.specs.Meaning.{most_statements}
use Rattle.apl_terminal.specs.Terminal.{free_prompt}
use Rattle.apl_workspace.specs.Header.{header_of, locals_in}
use Rattle.apl_workspace.specs.Names.{all_differ}
use Rattle.bundle_text.specs.Bundle.{BundleText, PlainBundle}
use Rattle.bundle_text.specs.Load.{load_text}
use Rattle.bundle_text.specs.User.{PlainUser}
use Rattle.bundle_text.proofs.LoadTexts.{load_is_text, load_of}
use Rattle.bundle_text.proofs.Reading.{one_bundle}
use Rattle.line_scanner.specs.Role.{role_of}
use Rattle.line_scanner.specs.Scanning.{front_of, scan_from}
use Rattle.sv_events.specs.Answer.{PlainAnswer, full}
use Rattle.sv_events.specs.declared.event.Act.{Act}
use Rattle.sv_journal.specs.Output.{PlainTranscript}
use Rattle.sv_rules.specs.Entries.{Entries}
use Rattle.session_rules.specs.Course.{Course, course_beginning}
use Rattle.session_rules.specs.Run.{AreUserParts, Dealings}
use Rattle.session_rules.specs.Session.{lines_done, next_line, session_of}
use Rattle.session_rules.specs.Shelf.{Exchange, ShelfReply, shelf_replies_in}
use Rattle.session_rules.specs.UserPart.{IsFinished, IsUserPart, answered_entries, answers_of}
use Rattle.session_rules.proofs.Parts.{tame_next}
use Rattle.session_rules.proofs.Tame.{Grows, grows_on, stays}
use Rattle.aplsv_top.specs.Summary.{last_line, last_of}

-- ---- what is printed stays

next_grows : (left : ℕ) (waits : Option Act) (ended : Bool) (line : List ℕ) (c : Course) → Grows c.terminal.transcript (next_line left waits ended line c).terminal.transcript
next_grows left None ended line c = (tame_next left ended line).grows c
next_grows left (Some asked) ended line c = stays c.terminal.transcript

rest_grows : (left : ℕ) (lines : List (List ℕ)) (c : Course) → Grows c.terminal.transcript (lines_done left lines c).terminal.transcript
rest_grows left [] c = stays c.terminal.transcript
rest_grows left (line ∷ lines) c =
    let d : Course = next_line left c.waits c.terminal.ended line c in
    grows_on c.terminal.transcript d.terminal.transcript (lines_done left lines d).terminal.transcript (next_grows left c.waits c.terminal.ended line c) (rest_grows left lines d)

-- ---- the first line of user 1002 opens a definition, and is echoed

abbrev first : List ℕ
first = 153 ∷ 82 ∷ 149 ∷ codes "GET;V"

first_is_echoed : (answers : List PlainAnswer) (replies : List ShelfReply) → (next_line most_statements None false first (course_beginning answers replies)).terminal.transcript ≡ (free_prompt ++ first) ∷ []
unfolding scan_from front_of role_of header_of locals_in all_differ
first_is_echoed answers replies = refl

-- lines whose first one it is print a line
prints : (rest : List (List ℕ)) (answers : List PlainAnswer) (replies : List ShelfReply)
    → (others : List (List ℕ)) × ((session_of (first ∷ rest) answers replies).terminal.transcript ≡ (free_prompt ++ first) ∷ others)
prints rest answers replies =
    let c : Course = next_line most_statements None false first (course_beginning answers replies) in
    let h = rest_grows most_statements rest c in
    (h.lines, h.same ∙ ap (λ (before : List (List ℕ)). before ++ h.lines) (first_is_echoed answers replies))

-- lines of which there is one have a last one
abbrev HasLast : List (List ℕ) → Type 0
HasLast lines = (line : List ℕ) × (last_of lines ≡ Some line)

last_there : (lines : List (List ℕ)) (line : List ℕ) (others : List (List ℕ)) → lines ≡ line ∷ others → HasLast lines
last_there lines line others is =
    let some : length lines ≡ length (line ∷ others) = ap length is in
    (get_or lines (length lines - 1) [], slice_get-get_or lines (length lines - 1) [] (omega (arith, some)))

-- ---- user 1002 among the users of a load

abbrev second : List PlainUser → PlainUser
second [] = record { number = 0; lines = [] }
second (user ∷ []) = user
second (user ∷ other ∷ users) = other

adder_begins : (n : ℕ) → (second (load_of n).users).lines ≡ first ∷ drop 1 (second (load_of n).users).lines
adder_begins n = refl

module _ (dealings : Dealings) (journal : Entries) where
  -- the part of a user whose first line it is has a last line
  part_has_last : (user : PlainUser) (rest : List (List ℕ)) (exchanges : List Exchange) (lines : List (List ℕ)) → user.lines ≡ first ∷ rest → IsUserPart journal user exchanges lines → HasLast lines
  part_has_last user rest exchanges lines begins part = by user.lines begins part.finished where
    by : (given : List (List ℕ)) → given ≡ first ∷ rest → IsFinished given (answered_entries journal user.number) part.refused exchanges lines → HasLast lines
    by given is finished =
        let answers : List PlainAnswer = answers_of (answered_entries journal user.number) ++ map (λ act. full) part.refused in
        let replies : List ShelfReply = shelf_replies_in exchanges in
        let shown = prints rest answers replies in
        last_there lines (free_prompt ++ first) shown.0
        (sym finished.printed ∙ (ap (λ (some : List (List ℕ)). (session_of some answers replies).terminal.transcript) is ∙ shown.1))

  -- the transcripts of a load's users
  users_have_last : (n : ℕ) (transcripts : List PlainTranscript) → AreUserParts dealings journal (load_of n).users transcripts → (line : List ℕ) × (last_line transcripts ≡ Some line)
  users_have_last n [] parts = absurd parts
  users_have_last n (one ∷ []) parts = absurd parts.2
  users_have_last n (one ∷ two ∷ []) parts =
      let found : find (λ transcript. transcript.user == 1002) (one ∷ two ∷ []) ≡ Some two =
      ap₂ (λ (a b : ℕ). cond (a == 1002) (Some one) (cond (b == 1002) (Some two) None)) parts.0 parts.2.0 in
      let has = part_has_last (second (load_of n).users) (drop 1 (second (load_of n).users).lines) (dealings 1002) two.lines (adder_begins n) parts.2.1 in
      (has.0, ap (λ (o : Option PlainTranscript). option_and_then (λ transcript. last_of transcript.lines) o) found ∙ has.1)
  users_have_last n (one ∷ two ∷ other ∷ others) parts = absurd parts.2.2

  -- so in a run of a bundle with the text of a load there is a line of user 1002
  pub load_has_last : (n : ℕ) (bundle : PlainBundle) (transcripts : List PlainTranscript) → n < 2 ^ 64 → BundleText (load_text n) bundle → AreUserParts dealings journal bundle.users transcripts
      → (line : List ℕ) × (last_line transcripts ≡ Some line)
  load_has_last n bundle transcripts fits text parts =
      let same : bundle ≡ load_of n = one_bundle (load_text n) bundle (load_of n) text (load_is_text n fits) in
      users_have_last n transcripts (subst (λ (some : PlainBundle). AreUserParts dealings journal some.users transcripts) same parts)
