-- Entries at their places, the users of an output, and what is handed on.
use Rattle.std.proofs.Common.{◌≡◌, ◌<◌, ◌≤◌, ◌+◌, ◌∷◌, ◌++◌, ◌∙◌, ℕ, zero, suc, List, [], get_or, length, leb, map, take, drop, true, Result, Ok, Err, IfErr, IfOk, ap, sym, refl, arith}
use Rattle.std.proofs.Math.Seq.{split_at}
use Rattle.std.proofs.lemmas.Bool.{and_from, le-leb}
use Rattle.std.proofs.lemmas.List.{length-map, length-take-le, map-append}
use Rattle.std.proofs.lemmas.List.Elements.{All-cons, All-head, All-nil, All-tail}
use Rattle.std.specs.List.{All}
use Rattle.apl_arrays.specs.Parties.{first_user, is_user_number, last_user}
use Rattle.sv_core.specs.Core.{ArePeople}
use Rattle.sv_journal.specs.Output.{PlainTranscript}
use Rattle.printed_text.specs.MayBePrinted.{IsShown}
use Rattle.aplsv_look.specs.Sights.{StandsBehind, users_in}

-- what is not none is one or more
pub is_some : (count : ℕ) → (count ≡ 0 → ⊥) → 1 ≤ count
is_some zero other = absurd (other refl)
is_some (suc count) other = omega arith

-- what stands at a place of a list stands there behind those before it
pub entry_there : {X : Type 0} (place front : ℕ) (entries before : List X) (e : X) → place ≡ front + 1 → front < length entries → before ≡ take front entries → e ≡ get_or entries front e → StandsBehind place entries before e
entry_there place front entries before e at within is_front is_entry =
    let size : length before ≡ front = ap length is_front ∙ length-take-le front entries (omega (arith, within)) in (
      drop (suc front) entries,
      split_at entries front e within ∙ (λ i. sym is_front i ++ sym is_entry i ∷ drop (suc front) entries),
      omega (arith, at, size),
    )

-- and so it does as plain data
pub entry_mapped : {X Y : Type 0} (f : X → Y) (place : ℕ) (entries before : List X) (e : X) → StandsBehind place entries before e → StandsBehind place (map f entries) (map f before) (f e)
entry_mapped f place entries before e at =
    (map f at.0, ap (map f) at.1 ∙ map-append f before (e ∷ at.0), at.2 ∙ ap (λ (n : ℕ). n + 1) (sym (length-map before f)))

-- users of an output have the numbers of users
pub shown_are_people : (transcripts : List PlainTranscript) → All IsShown transcripts → ArePeople (users_in transcripts)
shown_are_people [] each = All-nil (λ (number : ℕ). is_user_number number ≡ true)
shown_are_people (transcript ∷ transcripts) each =
    let number = (All-head IsShown transcript transcripts each).number in
    All-cons (λ (number : ℕ). is_user_number number ≡ true) transcript.user (users_in transcripts)
    (and_from (leb first_user transcript.user) (leb transcript.user last_user) (le-leb first_user transcript.user number.0) (le-leb transcript.user last_user number.1))
    (shown_are_people transcripts (All-tail IsShown transcript transcripts each))

-- what follows from what holds of a result holds of it
pub if_ok : {X E : Type 0} (P Q : X → Type 0) (result : Result X E) → ((x : X) → P x → Q x) → IfOk result P → IfOk result Q
if_ok P Q (Ok x) follows holds = follows x holds
if_ok P Q (Err e) follows holds = tt

pub if_err : {X E : Type 0} (P Q : E → Type 0) (result : Result X E) → ((e : E) → P e → Q e) → IfErr result P → IfErr result Q
if_err P Q (Ok x) follows holds = tt
if_err P Q (Err e) follows holds = follows e holds
