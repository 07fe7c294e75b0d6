-- Reading entries.
use Rattle.std.proofs.Common.{◌≡◌, Some, eqb, cond, ℕ, ◌+◌, ◌-◌, ◌^◌, Bool, true, false, List, [], ◌∷◌, ◌++◌, Ok, Err, codes, length, inl, refl, sym, ap, ◌∙◌, subst, append_assoc, arith}
use Rattle.std.specs.Fmt.{decimal}
use Rattle.std.specs.List.{AllByRecursion}
use Rattle.sv_events.specs.Answer.{PlainAnswer}
use Rattle.sv_events.specs.Entry.{PlainEntry}
use Rattle.sv_events.specs.declared.event.Act.{Act}
use Rattle.sv_events.specs.declared.entry.Pair.{Pair}
use Rattle.sv_events.specs.declared.row.AnswerKind.{AnswerKind}
use Rattle.sv_events.specs.declared.row.AnswerKind.TheVariants as told
use Rattle.apl_arrays.specs.List.{first_of, others_of}
use Rattle.text_reader.specs.Reading.{Reader, Reading, ◌>>=◌, as_read, begins_with, read_literal}
use Rattle.text_reader.specs.NumberReading.{read_number}
use Rattle.text_reader.proofs.NumberForms.{InRange, NoDigit, reads_number}
use Rattle.text_reader.proofs.Told.{second_told}
use Rattle.text_reader.proofs.Readers.{SameFirst, Found, Stopped, Reads, IsReader, AreGlyphs, glyphs_behind, same_behind, same_end, cancelled, reformed, after_text, then_read, then_stopped, made, no_further}
use Rattle.sv_journal.specs.declared.act_word.ActWord.{ActWord}
use Rattle.sv_journal.specs.declared.act_word.ActWord.TheVariants.{Offer, Retract, SetControl, AskControl, AskState, AskDegree, AskParties, AskNames, Set, Use, Leave}
use Rattle.sv_journal.specs.ActReading.{read_act, read_party}
use Rattle.sv_journal.specs.ActWord.{word_of_act, answers_to}
use Rattle.sv_journal.specs.AnswerReading.{read_answer}
use Rattle.sv_journal.specs.EntryReading.{read_pairs, read_entry}
use Rattle.sv_journal.specs.EntryText.{act_text, answer_text, entry_text}
use Rattle.sv_journal.specs.IsEntry.{IsPartyNumber, IsAct, IsPair}
use Rattle.sv_journal.proofs.ActForms.{reads_act, some_act}
use Rattle.sv_journal.proofs.FieldForms.{Ends, party_text, reads_party}
use Rattle.sv_journal.proofs.AnswerForms.{Listed, reads_answer, some_listed}
use Rattle.sv_journal.proofs.ListedForms.{PairsBehind, Farther, same_farther, blank_first}
use Rattle.sv_journal.proofs.SameEntries.{after_party, entry_parts}
use Rattle.sv_journal.proofs.WordForms.{Member}
use Rattle.sv_journal.proofs.PairForms.{Nothing, pair_of, first_pair, pairs_text, reads_pairs, pairs_end, pairs_behind}

-- an answer, and pairs behind it

far_part : (part z rest : List ℕ) → SameFirst z rest → (begins_with 32 (part ++ rest) ≡ true → part ≡ [] → ⊥) → begins_with 32 (part ++ rest) ≡ true → SameFirst (others_of (part ++ z)) (others_of (part ++ rest))
far_part [] z rest same takes blank = absurd (takes blank refl)
far_part (c ∷ part) z rest same takes blank = same_behind part z rest same

far_agreed : (part z rest line : List ℕ) → line ≡ part ++ rest → SameFirst z rest → (begins_with 32 line ≡ true → part ≡ [] → ⊥) → Farther (part ++ z) line
far_agreed part z rest line whole same takes =
    subst (Farther (part ++ z)) (sym whole)
    (record { first = same_behind part z rest same; second = far_part part z rest same (λ blank none. takes (ap (begins_with 32) whole ∙ blank) none) })

far_found : {V E : Type 0} (text : V → List ℕ) (ok : V → Type 0) (first : E → V) (others : E → List ℕ) (right : E → Type 0) → ((e : E) → right e → ok (first e)) → ((e : E) (behind : List ℕ) → right e → Nothing behind → PairsBehind (others e ++ behind)) → (line : List ℕ) (v : V) (rest : List ℕ) → Found text ok PairsBehind Farther line v rest → (read : Reading E) → Reads others (λ e. (first e ≡ v) × right e) Nothing SameFirst rest read → ((e : E) (left : List ℕ) → read ≡ Ok (e, left) → left ≡ []) → ((left : ℕ) (g : Stopped others (λ e. (first e ≡ v) × right e) Nothing rest left) → begins_with 32 rest ≡ true → g.part ≡ [] → ⊥) → Reads (λ e. text (first e) ++ others e) right Nothing SameFirst line read
far_found text ok first others right part_fits follow line v rest h (Ok found) g ends takes = record {
  fits = g.fits.1;
  whole = h.whole ∙ (ap (λ t. text v ++ t) g.whole ∙ (sym (append_assoc (text v) (others found.0) found.1) ∙ ap (λ x. (text x ++ others found.0) ++ found.1) (sym g.fits.0)));
  only = λ w behind z fit next e agree.
      let whole : text (first w) ++ (others w ++ behind) ≡ text v ++ (others found.0 ++ z) =
      sym (append_assoc (text (first w)) (others w) behind) ∙ (e ∙ (ap (λ x. (text x ++ others found.0) ++ z) g.fits.0 ∙ append_assoc (text v) (others found.0) z)) in
      let none : found.1 ≡ [] = ends found.0 found.1 refl in
      let nothing : z ≡ found.1 = same_end z (agree ∙ ap first_of none) ∙ sym none in
      let equal : others found.0 ++ z ≡ rest = ap (λ t. others found.0 ++ t) nothing ∙ sym g.whole in
      let agreed : Farther (others found.0 ++ z) rest = subst (λ t. Farther t rest) (sym equal) (same_farther rest) in
      let same : first w ≡ v = h.only (first w) (others w ++ behind) (others found.0 ++ z) (part_fits w fit) (follow w behind fit next) whole agreed in
      let inner : others w ++ behind ≡ others found.0 ++ z = cancelled (text v) (others w ++ behind) (others found.0 ++ z) (ap (λ x. text x ++ (others w ++ behind)) (sym same) ∙ whole) in
      g.only w behind z (same, fit) next inner agree;
}
far_found text ok first others right part_fits follow line v rest h (Err left) g ends takes = record {
  part = text v ++ g.part;
  rest = g.rest;
  whole = h.whole ∙ (ap (λ t. text v ++ t) g.whole ∙ sym (append_assoc (text v) g.part g.rest));
  left_is = g.left_is;
  value = g.value;
  more = g.more;
  fits = g.fits.1;
  goes_on = ap (λ x. text x ++ others g.value) g.fits.0 ∙ (ap (λ t. text v ++ t) g.goes_on ∙ sym (append_assoc (text v) g.part g.more));
  none = λ w behind z fit next e agree.
      let whole : text (first w) ++ (others w ++ behind) ≡ text v ++ (g.part ++ z) =
      sym (append_assoc (text (first w)) (others w) behind) ∙ (e ∙ append_assoc (text v) g.part z) in
      let agreed : Farther (g.part ++ z) rest = far_agreed g.part z g.rest rest g.whole agree (λ blank none. takes left g blank none) in
      let same : first w ≡ v = h.only (first w) (others w ++ behind) (g.part ++ z) (part_fits w fit) (follow w behind fit next) whole agreed in
      let inner : others w ++ behind ≡ g.part ++ z = cancelled (text v) (others w ++ behind) (g.part ++ z) (ap (λ x. text x ++ (others w ++ behind)) (sym same) ∙ whole) in
      g.none w behind z (same, fit) next inner agree;
}

-- entries

abbrev pub Placed : Type 0
Placed = ℕ × PlainEntry

entry_of : ℕ → ℕ → Act → PlainAnswer → List Pair → Placed
entry_of place party act answer made = (place, record { party = party; act = act; answer = answer; made = made })

abbrev pub IsPlace : ℕ → Type 0
IsPlace place = InRange 1 (2 ^ 64 - 1) place

pub record EntryOk (e : Placed) : Type 0 where
  pub place : IsPlace e.0
  pub party : IsPartyNumber e.1.party
  pub act : IsAct e.1.act
  pub answer : Listed (answers_to (word_of_act e.1.act)) e.1.answer
  pub made : AllByRecursion IsPair e.1.made

AtPlace : ℕ → Placed → Type 0
AtPlace place e = (e.0 ≡ place) × EntryOk e

AtParty : ℕ → ℕ → Placed → Type 0
AtParty place party e = (e.1.party ≡ party) × AtPlace place e

AtAct : ℕ → ℕ → Act → Placed → Type 0
AtAct place party act e = (e.1.act ≡ act) × AtParty place party e

AtAnswer : ℕ → ℕ → Act → PlainAnswer → Placed → Type 0
AtAnswer place party act answer e = (e.1.answer ≡ answer) × AtAct place party act e

-- what is known of the parts that were read before
record Known (place party : ℕ) (act : Act) (answer : PlainAnswer) : Type 0 where
  place_is : IsPlace place
  party_is : IsPartyNumber party
  act_is : IsAct act
  answer_is : Listed (answers_to (word_of_act act)) answer

entry_there : (place party : ℕ) (act : Act) (answer : PlainAnswer) → Known place party act answer → (made : List Pair) → AllByRecursion IsPair made → AtAnswer place party act answer (entry_of place party act answer made)
unfolding entry_of AtAnswer AtAct AtParty AtPlace
entry_there place party act answer k made h =
    (refl, (refl, (refl, (refl, record { place = k.place_is; party = k.party_is; act = k.act_is; answer = k.answer_is; made = h }))))

entry_again : (place party : ℕ) (act : Act) (answer : PlainAnswer) (e : Placed) → AtAnswer place party act answer e → entry_of place party act answer e.1.made ≡ e
unfolding entry_of AtAnswer AtAct AtParty AtPlace
entry_again place party act answer e h =
    ap (λ x. entry_of x party act answer e.1.made) (sym h.1.1.1.0)
    ∙ (ap (λ x. entry_of e.0 x act answer e.1.made) (sym h.1.1.0)
    ∙ (ap (λ x. entry_of e.0 e.1.party x answer e.1.made) (sym h.1.0) ∙ ap (λ x. entry_of e.0 e.1.party e.1.act x e.1.made) (sym h.0)))

made_fits : (place party : ℕ) (act : Act) (answer : PlainAnswer) (e : Placed) → AtAnswer place party act answer e → AllByRecursion IsPair e.1.made
unfolding AtAnswer AtAct AtParty AtPlace
made_fits place party act answer e h = h.1.1.1.1.made

abbrev pub made_part : Placed → List ℕ
made_part e = pairs_text e.1.made

made_at : ℕ → ℕ → Act → PlainAnswer → Reader Placed
made_at place party act answer line = as_read (entry_of place party act answer) (read_pairs line)

reads_made : (place party : ℕ) (act : Act) (answer : PlainAnswer) → Known place party act answer → IsReader made_part (AtAnswer place party act answer) Nothing SameFirst (made_at place party act answer)
unfolding made_at entry_of
reads_made place party act answer k =
    made pairs_text (AllByRecursion IsPair) Nothing SameFirst read_pairs (entry_of place party act answer) (λ e. e.1.made) (AtAnswer place party act answer) reads_pairs (made_fits place party act answer) (entry_again place party act answer) (entry_there place party act answer k) (λ made h. refl)

made_takes : (place party : ℕ) (act : Act) (answer : PlainAnswer) → Known place party act answer → (line : List ℕ) (left : ℕ) (g : Stopped made_part (AtAnswer place party act answer) Nothing line left) → begins_with 32 line ≡ true → g.part ≡ [] → ⊥
unfolding entry_of
made_takes place party act answer k line left g blank none =
    let whole : line ≡ g.rest = g.whole ∙ ap (λ t. t ++ g.rest) none in
    let first : first_of g.rest ≡ Some 32 = ap first_of (sym whole) ∙ blank_first line blank in
    let one : List Pair = pair_of 1 2 ∷ [] in
    g.none (entry_of place party act answer one) [] (pairs_text one ++ []) (entry_there place party act answer k one (first_pair, tt)) refl (ap (λ t. t ++ (pairs_text one ++ [])) (sym none)) (sym first)

as_read_ends : {A B : Type 0} (make : A → B) (read : Reading A) → ((x : A) (left : List ℕ) → read ≡ Ok (x, left) → left ≡ []) → (y : B) (left : List ℕ) → as_read make read ≡ Ok (y, left) → left ≡ []
as_read_ends make (Ok found) ends y left e =
    sym (second_told (make found.0) found.1 y left e) ∙ ends found.0 found.1 refl
as_read_ends make (Err gone) ends y left e = absurd (let none : ⊥ = cc in none)

made_ends : (place party : ℕ) (act : Act) (answer : PlainAnswer) (line : List ℕ) → AreGlyphs line → (e : Placed) (left : List ℕ) → made_at place party act answer line ≡ Ok (e, left) → left ≡ []
unfolding made_at
made_ends place party act answer line a e left same =
    as_read_ends (entry_of place party act answer) (read_pairs line) (pairs_end line a) e left same

-- each act has some answer
some_kind : (w : ActWord) → (kind : AnswerKind) × Member kind (answers_to w)
some_kind Offer = (told.Degree, inl refl)
some_kind Retract = (told.Kept, inl refl)
some_kind SetControl = (told.Vector, inl refl)
some_kind AskControl = (told.Vector, inl refl)
some_kind AskState = (told.Vector, inl refl)
some_kind AskDegree = (told.Degree, inl refl)
some_kind AskParties = (told.Parties, inl refl)
some_kind AskNames = (told.Names, inl refl)
some_kind Set = (told.Granted, inl refl)
some_kind Use = (told.Value, inl refl)
some_kind Leave = (told.Done, inl refl)

answer_and_made_at : ℕ → ℕ → Act → Reader Placed
answer_and_made_at place party act line = read_answer (answers_to (word_of_act act)) line >>= λ found. made_at place party act found.0 found.1

abbrev pub answer_part : Placed → List ℕ
answer_part e = answer_text e.1.answer ++ made_part e

record KnownAct (place party : ℕ) (act : Act) : Type 0 where
  place_is : IsPlace place
  party_is : IsPartyNumber party
  act_is : IsAct act

with_answer : (place party : ℕ) (act : Act) (answer : PlainAnswer) → KnownAct place party act → Listed (answers_to (word_of_act act)) answer → Known place party act answer
with_answer place party act answer k h = record { place_is = k.place_is; party_is = k.party_is; act_is = k.act_is; answer_is = h }

answer_fits : (place party : ℕ) (act : Act) (e : Placed) → AtAct place party act e → Listed (answers_to (word_of_act act)) e.1.answer
unfolding AtAct AtParty AtPlace
answer_fits place party act e h = subst (λ a. Listed (answers_to (word_of_act a)) e.1.answer) h.0 h.1.1.1.answer

some_answered : (place party : ℕ) (act : Act) → KnownAct place party act → (answer : PlainAnswer) → Listed (answers_to (word_of_act act)) answer → (e : Placed) × (e.1.answer ≡ answer) × AtAct place party act e
unfolding entry_of AtAnswer
some_answered place party act k answer h =
    let there = entry_there place party act answer (with_answer place party act answer k h) [] tt in
    (entry_of place party act answer [], there.0, there.1)

answer_reading : (place party : ℕ) (act : Act) → KnownAct place party act → (line : List ℕ) → AreGlyphs line → (read : Reading PlainAnswer) → Reads answer_text (Listed (answers_to (word_of_act act))) PairsBehind Farther line read → Reads answer_part (AtAct place party act) Nothing SameFirst line (read >>= λ found. made_at place party act found.0 found.1)
unfolding AtAnswer
answer_reading place party act k line a (Ok found) h =
    let known = with_answer place party act found.0 k h.fits in
    let rest = glyphs_behind line (answer_text found.0) found.1 h.whole a in
    far_found answer_text (Listed (answers_to (word_of_act act))) (λ e. e.1.answer) made_part (AtAct place party act) (answer_fits place party act) (λ e behind fit nothing. subst (λ t. PairsBehind (made_part e ++ t)) (sym nothing) (pairs_behind e.1.made)) line found.0 found.1 h (made_at place party act found.0 found.1) (reads_made place party act found.0 known found.1 rest) (made_ends place party act found.0 found.1 rest) (made_takes place party act found.0 known found.1)
answer_reading place party act k line a (Err left) h =
    then_stopped answer_text (Listed (answers_to (word_of_act act))) PairsBehind (λ e. e.1.answer) made_part (AtAct place party act) Nothing (answer_fits place party act) (λ e behind fit nothing. subst (λ t. PairsBehind (made_part e ++ t)) (sym nothing) (pairs_behind e.1.made)) (some_answered place party act k) line left h

reads_answered : (place party : ℕ) (act : Act) → KnownAct place party act → IsReader answer_part (AtAct place party act) Nothing SameFirst (answer_and_made_at place party act)
unfolding answer_and_made_at
reads_answered place party act k line a =
    let kind = some_kind (word_of_act act) in
    answer_reading place party act k line a (read_answer (answers_to (word_of_act act)) line) (reads_answer (answers_to (word_of_act act)) kind.0 kind.1 line a)

abbrev pub behind_act_part : Placed → List ℕ
behind_act_part e = codes " : " ++ answer_part e

behind_act_at : ℕ → ℕ → Act → Reader Placed
behind_act_at place party act line = read_literal (codes " : ") line >>= λ behind. answer_and_made_at place party act behind

some_at_act : (place party : ℕ) (act : Act) → KnownAct place party act → (e : Placed) × (e.1.act ≡ act) × AtParty place party e
unfolding AtAct
some_at_act place party act k =
    let kind = some_kind (word_of_act act) in
    let answer = some_listed (answers_to (word_of_act act)) kind.0 kind.1 in
    let e = some_answered place party act k answer.0 answer.2 in
    (e.0, e.2.0, e.2.1)

reads_behind_act : (place party : ℕ) (act : Act) → KnownAct place party act → IsReader behind_act_part (AtAct place party act) Nothing SameFirst (behind_act_at place party act)
unfolding behind_act_at AtAct
reads_behind_act place party act k =
    let e = some_at_act place party act k in
    after_text (codes " : ") answer_part (AtAct place party act) Nothing SameFirst (answer_and_made_at place party act) e.0 (e.1, e.2) (reads_answered place party act k)

abbrev pub act_part : Placed → List ℕ
act_part e = codes " " ++ (act_text e.1.act ++ behind_act_part e)

act_and_more_at : ℕ → ℕ → Reader Placed
act_and_more_at place party line = read_literal (codes " ") line >>= λ rest. (read_act rest >>= λ found. behind_act_at place party found.0 found.1)

act_fits : (place party : ℕ) (e : Placed) → AtParty place party e → IsAct e.1.act
unfolding AtParty AtPlace
act_fits place party e h = h.1.1.act

some_at_party : (place party : ℕ) → IsPlace place → IsPartyNumber party → (e : Placed) × (e.1.party ≡ party) × AtPlace place e
unfolding AtParty
some_at_party place party p q =
    let act = some_act Leave in
    let e = some_at_act place party act.0 (record { place_is = p; party_is = q; act_is = act.2 }) in
    (e.0, e.2.0, e.2.1)

reads_act_part : (place party : ℕ) → IsPlace place → IsPartyNumber party → IsReader act_part (AtParty place party) Nothing SameFirst (act_and_more_at place party)
unfolding act_and_more_at AtAct AtParty
reads_act_part place party p q =
    let e = some_at_party place party p q in
    after_text (codes " ") (λ e. act_text e.1.act ++ behind_act_part e) (AtParty place party) Nothing SameFirst (λ rest. read_act rest >>= λ found. behind_act_at place party found.0 found.1) e.0 (e.1, e.2)
    (then_read act_text IsAct Ends (λ e. e.1.act) behind_act_part (AtParty place party) Nothing SameFirst read_act (behind_act_at place party) no_further reads_act (λ act h. reads_behind_act place party act (record { place_is = p; party_is = q; act_is = h })) (act_fits place party) (λ e behind h nothing. record { digits = refl; names = refl }) (λ act h. some_at_act place party act (record { place_is = p; party_is = q; act_is = h })))

abbrev pub party_part : Placed → List ℕ
party_part e = party_text e.1.party ++ act_part e

party_and_more_at : ℕ → Reader Placed
party_and_more_at place line = read_party line >>= λ found. act_and_more_at place found.0 found.1

party_fits : (place : ℕ) (e : Placed) → AtPlace place e → IsPartyNumber e.1.party
unfolding AtPlace
party_fits place e h = h.1.party

some_at_place : (place : ℕ) → IsPlace place → (e : Placed) × (e.0 ≡ place) × EntryOk e
unfolding AtPlace
some_at_place place p =
    let e = some_at_party place 0 p (omega arith) in
    (e.0, e.2.0, e.2.1)

reads_party_part : (place : ℕ) → IsPlace place → IsReader party_part (AtPlace place) Nothing SameFirst (party_and_more_at place)
unfolding party_and_more_at AtParty
reads_party_part place p =
    then_read party_text IsPartyNumber NoDigit (λ e. e.1.party) act_part (AtPlace place) Nothing SameFirst read_party (act_and_more_at place) no_further reads_party (λ party q. reads_act_part place party p q) (party_fits place) (λ e behind h nothing. refl) (λ party q. some_at_party place party p q)

abbrev pub placed_text : Placed → List ℕ
placed_text e = decimal e.0 ++ party_part e

reads_placed : IsReader placed_text EntryOk Nothing SameFirst read_entry
unfolding read_entry party_and_more_at act_and_more_at behind_act_at answer_and_made_at made_at entry_of AtPlace
reads_placed =
    then_read decimal IsPlace NoDigit (λ e. e.0) party_part EntryOk Nothing SameFirst (read_number 1 (2 ^ 64 - 1)) party_and_more_at no_further (reads_number 1 (2 ^ 64 - 1) (omega arith) (omega arith)) reads_party_part (λ e h. h.place) (λ e behind h nothing. refl) some_at_place

placed_is : (e : Placed) → placed_text e ≡ entry_text e.0 e.1
unfolding after_party
placed_is e = sym (entry_parts e.0 e.1)

-- an entry is read
pub reads_entry : IsReader (λ e. entry_text e.0 e.1) EntryOk Nothing SameFirst read_entry
reads_entry =
    reformed placed_text (λ e. entry_text e.0 e.1) EntryOk EntryOk Nothing Nothing SameFirst read_entry (λ e h. h) (λ e h. h) (λ e h. placed_is e) (λ behind h. h) reads_placed

-- nothing is left behind an entry

ends_behind : {V E : Type 0} (text : V → List ℕ) (ok : V → Type 0) (follows : List ℕ → Type 0) (agrees : List ℕ → List ℕ → Type 0) (next : V → Reader E) → ((v : V) (rest : List ℕ) → AreGlyphs rest → (e : E) (left : List ℕ) → next v rest ≡ Ok (e, left) → left ≡ []) → (line : List ℕ) → AreGlyphs line → (read : Reading V) → Reads text ok follows agrees line read → (e : E) (left : List ℕ) → (read >>= λ found. next found.0 found.1) ≡ Ok (e, left) → left ≡ []
ends_behind text ok follows agrees next inner line a (Ok found) h e left same = inner found.0 found.1 (glyphs_behind line (text found.0) found.1 h.whole a) e left same
ends_behind text ok follows agrees next inner line a (Err gone) h e left same = absurd (let none : ⊥ = cc in none)

text_by : {E : Type 0} (front : List ℕ) (next : Reader E) (x : ℕ) (line : List ℕ) (e : E) (left : List ℕ) → ((read_literal front line >>= next) ≡ Ok (e, left) → left ≡ []) → (b : Bool) → (cond b (read_literal front line) (Err (length (x ∷ line))) >>= next) ≡ Ok (e, left) → left ≡ []
text_by front next x line e left inner true same = inner same
text_by front next x line e left inner false same = absurd (let none : ⊥ = cc in none)

text_ends : {E : Type 0} (front : List ℕ) (next : Reader E) → ((rest : List ℕ) → AreGlyphs rest → (e : E) (left : List ℕ) → next rest ≡ Ok (e, left) → left ≡ []) → (line : List ℕ) → AreGlyphs line → (e : E) (left : List ℕ) → (read_literal front line >>= next) ≡ Ok (e, left) → left ≡ []
text_ends [] next inner line a e left same = inner line a e left same
text_ends (c ∷ front) next inner [] a e left same = absurd (let none : ⊥ = cc in none)
text_ends (c ∷ front) next inner (x ∷ line) a e left same = text_by front next x line e left (text_ends front next inner line a.1 e left) (eqb x c) same

answered_ends : (place party : ℕ) (act : Act) (line : List ℕ) → AreGlyphs line → (e : Placed) (left : List ℕ) → answer_and_made_at place party act line ≡ Ok (e, left) → left ≡ []
unfolding answer_and_made_at
answered_ends place party act line a =
    let kind = some_kind (word_of_act act) in
    ends_behind answer_text (Listed (answers_to (word_of_act act))) PairsBehind Farther (made_at place party act) (λ v rest b. made_ends place party act v rest b) line a (read_answer (answers_to (word_of_act act)) line) (reads_answer (answers_to (word_of_act act)) kind.0 kind.1 line a)

behind_act_ends : (place party : ℕ) (act : Act) (line : List ℕ) → AreGlyphs line → (e : Placed) (left : List ℕ) → behind_act_at place party act line ≡ Ok (e, left) → left ≡ []
unfolding behind_act_at
behind_act_ends place party act line a = text_ends (codes " : ") (answer_and_made_at place party act) (answered_ends place party act) line a

acts_end : (place party : ℕ) (line : List ℕ) → AreGlyphs line → (e : Placed) (left : List ℕ) → (read_act line >>= λ found. behind_act_at place party found.0 found.1) ≡ Ok (e, left) → left ≡ []
acts_end place party line a = ends_behind act_text IsAct Ends SameFirst (behind_act_at place party) (behind_act_ends place party) line a (read_act line) (reads_act line a)

act_part_ends : (place party : ℕ) (line : List ℕ) → AreGlyphs line → (e : Placed) (left : List ℕ) → act_and_more_at place party line ≡ Ok (e, left) → left ≡ []
unfolding act_and_more_at
act_part_ends place party line a = text_ends (codes " ") (λ rest. read_act rest >>= λ found. behind_act_at place party found.0 found.1) (acts_end place party) line a

party_part_ends : (place : ℕ) (line : List ℕ) → AreGlyphs line → (e : Placed) (left : List ℕ) → party_and_more_at place line ≡ Ok (e, left) → left ≡ []
unfolding party_and_more_at
party_part_ends place line a = ends_behind party_text IsPartyNumber NoDigit SameFirst (act_and_more_at place) (act_part_ends place) line a (read_party line) (reads_party line a)

pub entry_ends : (line : List ℕ) → AreGlyphs line → (e : Placed) (left : List ℕ) → read_entry line ≡ Ok (e, left) → left ≡ []
unfolding read_entry party_and_more_at act_and_more_at behind_act_at answer_and_made_at made_at entry_of
entry_ends line a =
    ends_behind decimal IsPlace NoDigit SameFirst party_and_more_at party_part_ends line a (read_number 1 (2 ^ 64 - 1) line) (reads_number 1 (2 ^ 64 - 1) (omega arith) (omega arith) line a)
