-- The entries of a party that follow others, and what they answer.
use Rattle.std.proofs.Common.{◌≡◌, ◌≢◌, ℕ, ◌&&◌, ◌||◌, Bool, true, false, cond, eqb, List, [], ◌∷◌, ◌++◌, length, map, reverse, Option, Some, None, refl, sym, ap, ap₂, ◌∙◌, subst}
use Rattle.std.proofs.lemmas.Bool.{both_ways, eq-eqb, eqb-false, eqb-true, false≢true, not-true}
use Rattle.std.proofs.lemmas.List.{length-map, length-reverse, map-append, reverse-append}
use Rattle.std.proofs.lemmas.List.Elements.{filter-append}
use Rattle.std.proofs.lemmas.Option.{same_Some}
use Rattle.std.specs.List.{AllByRecursion}
use Rattle.std.specs.Prelude.{is_some, if◌then◌else◌}
use Rattle.replay_rules.proofs.Retrying.{waiters_are_answered}
use Rattle.replay_rules.proofs.SoFar.{other_awaits, own_answers, own_awaits, own_leave, own_leave_is_after, own_leave_leaves}
use Rattle.session_rules.proofs.Parties.{other_answers_none, other_before_leave, other_leaves}
use Rattle.session_rules.specs.UserPart.{acts_of, answered_entries, answers_line, answers_of, before_leave}
use Rattle.sv_events.specs.Answer.{PlainAnswer, full}
use Rattle.sv_events.specs.Entry.{PlainEntry}
use Rattle.sv_events.specs.declared.event.Act.{Act}
use Rattle.sv_rules.specs.Entries.{Entries, has_left, is_full, is_held, is_leave, kind_of}
use Rattle.sv_rules.specs.Legal.{IsLegal, MayFollow, act_due, answer_to, may_do}
use Rattle.sv_rules.specs.Outcome.{outcome}
use Rattle.sv_rules.specs.Refused.{awaited}
use Rattle.aux_parties.specs.Auxiliaries.{is_auxiliary}
use Rattle.check_rules.proofs.OneEntry.{room_there}

-- no entry is a party's
abbrev pub AreOthers : ℕ → Entries → Type 0
AreOthers party entries = AllByRecursion (λ e. e.party ≢ party) entries

has_left_stays : (entries journal : Entries) (party : ℕ) → AreOthers party entries → has_left (entries ++ journal) party ≡ has_left journal party
has_left_stays [] journal party others = refl
has_left_stays (e ∷ entries) journal party others = other_leaves e (entries ++ journal) party others.0 ∙ has_left_stays entries journal party others.1

-- ---- entries behind others

pub legal_at : (users : List ℕ) (more : Entries) (e : PlainEntry) (journal : Entries) → IsLegal users (more ++ e ∷ journal) → MayFollow users journal e
legal_at users [] e journal legal = legal.0
legal_at users (f ∷ more) e journal legal = legal_at users more e journal legal.1

pub answered_behind : (more journal : Entries) (party : ℕ) → answered_entries (more ++ journal) party ≡ answered_entries more party ++ answered_entries journal party
answered_behind more journal party = filter-append (answers_line party) more journal

pub answers_behind : (later earlier : Entries) → answers_of (later ++ earlier) ≡ answers_of earlier ++ answers_of later
answers_behind later earlier = ap reverse (map-append (λ (e : PlainEntry). e.answer) later earlier) ∙ reverse-append (map (λ (e : PlainEntry). e.answer) later) (map (λ (e : PlainEntry). e.answer) earlier)

pub acts_behind : (later earlier : Entries) → acts_of (later ++ earlier) ≡ acts_of earlier ++ acts_of later
acts_behind later earlier = ap reverse (map-append (λ (e : PlainEntry). e.act) later earlier) ∙ reverse-append (map (λ (e : PlainEntry). e.act) later) (map (λ (e : PlainEntry). e.act) earlier)

pub as_many : (entries : Entries) → length (acts_of entries) ≡ length (answers_of entries)
as_many entries =
    length-reverse (map (λ (e : PlainEntry). e.act) entries) ∙ (length-map entries (λ (e : PlainEntry). e.act) ∙ sym (length-reverse (map (λ (e : PlainEntry). e.answer) entries) ∙ length-map entries (λ (e : PlainEntry). e.answer)))

-- ---- others behind a leave

module _ (users : List ℕ) (party : ℕ) where
  -- what follows the leave of a party is others'
  pub others_behind : (more : Entries) (e : PlainEntry) (journal : Entries) → e.party ≡ party → is_leave e.act ≡ true → IsLegal users (more ++ e ∷ journal) → AreOthers party more
  others_behind [] e journal own leaves legal = tt
  others_behind (f ∷ more) e journal own leaves legal =
      let others = others_behind more e journal own leaves legal.1 in
      let gone : has_left (more ++ e ∷ journal) party ≡ true = has_left_stays more (e ∷ journal) party others ∙ own_leave_leaves e journal party own leaves in
      ((λ same. false≢true (sym (not-true (has_left (more ++ e ∷ journal) f.party) legal.0.present) ∙ (ap (λ (p : ℕ). has_left (more ++ e ∷ journal) p) same ∙ gone))), others)

answered_by_none : (more journal : Entries) (party : ℕ) → AreOthers party more → answered_entries (more ++ journal) party ≡ answered_entries journal party
answered_by_none [] journal party others = refl
answered_by_none (f ∷ more) journal party others = other_answers_none f (more ++ journal) party others.0 ∙ answered_by_none more journal party others.1

before_same : (more journal : Entries) (party : ℕ) → AreOthers party more → before_leave (more ++ journal) party ≡ before_leave journal party
before_same [] journal party others = refl
before_same (f ∷ more) journal party others = other_before_leave f (more ++ journal) party others.0 ∙ before_same more journal party others.1

-- so a party's leave is behind all its answers
pub answered_at_leave : (more : Entries) (e : PlainEntry) (journal : Entries) (party : ℕ) → AreOthers party more → e.party ≡ party → is_leave e.act ≡ true → answered_entries (more ++ e ∷ journal) party ≡ answered_entries journal party
answered_at_leave more e journal party others own leaves = answered_by_none more (e ∷ journal) party others ∙ own_leave e journal party own leaves

pub before_the_leave : (more : Entries) (e : PlainEntry) (journal : Entries) (party : ℕ) → AreOthers party more → e.party ≡ party → is_leave e.act ≡ true → before_leave (more ++ e ∷ journal) party ≡ journal
before_the_leave more e journal party others own leaves = before_same more (e ∷ journal) party others ∙ own_leave_is_after e journal party own leaves

-- ---- behind an entry that is held

-- what became of an act of a party that was held: the party waits for it still; or it was the next that was answered; or the party left while it waited
pub data HeldThen (party : ℕ) (act : Act) (journal more : Entries) : Type 0 where
  waits_still : awaited journal party ≡ Some act → answered_entries more party ≡ [] → has_left journal party ≡ false → HeldThen party act journal more
  was_answered : (rest : List Act) → acts_of (answered_entries more party) ≡ act ∷ rest → HeldThen party act journal more
  left_waiting : answered_entries more party ≡ [] → awaited (before_leave journal party) party ≡ Some act → has_left journal party ≡ true → HeldThen party act journal more

-- one entry more of the party is behind the answered ones, or is none of them
more_answered : (f : PlainEntry) (more : Entries) (party : ℕ) (act : Act) (rest : List Act) → acts_of (answered_entries more party) ≡ act ∷ rest → (others : List Act) × (acts_of (answered_entries (f ∷ more) party) ≡ act ∷ others)
more_answered f more party act rest is = by (answers_line party f) refl where
  by : (answers : Bool) → answers_line party f ≡ answers → (others : List Act) × (acts_of (cond answers (f ∷ answered_entries more party) (answered_entries more party)) ≡ act ∷ others)
  by true e = (rest ++ f.act ∷ [], acts_behind (f ∷ []) (answered_entries more party) ∙ ap (λ (acts : List Act). acts ++ f.act ∷ []) is)
  by false e = (rest, is)

-- whoever waits does the act that it waits for, or leaves
pub waited_act : (stays : Bool) (act made : Act) → (if stays then made else act) ≡ made → stays ≡ false → act ≡ made
waited_act true act made due goes = absurd (false≢true (sym goes))
waited_act false act made due goes = due

module _ (users : List ℕ) (party : ℕ) (person : is_auxiliary party ≡ false) where
  -- an entry of a party that waits has the act that it waits for, unless it is a leave
  pub due_of : (journal : Entries) (f : PlainEntry) (act : Act) → MayFollow users journal f → f.party ≡ party → awaited journal party ≡ Some act → (if is_leave f.act then f.act else act) ≡ f.act
  due_of journal f act h own is =
      let at : act_due (is_auxiliary party) journal party f.act ≡ Some f.act = subst (λ (p : ℕ). act_due (is_auxiliary p) journal p f.act ≡ Some f.act) own h.due in
      let plain : Some (may_do (awaited journal party) f.act) ≡ Some f.act = subst (λ (b : Bool). act_due b journal party f.act ≡ Some f.act) person at in
      let waiting : Some (may_do (Some act) f.act) ≡ Some f.act = subst (λ (o : Option Act). Some (may_do o f.act) ≡ Some f.act) is plain in
      same_Some (if is_leave f.act then f.act else act) f.act waiting

  -- the act that is waited for is answered at last
  now_free : (journal : Entries) (f : PlainEntry) (act : Act) → MayFollow users journal f → f.party ≡ party → awaited journal party ≡ Some act → act ≡ f.act → is_leave f.act ≡ false → is_held (kind_of f.answer) ≡ false
  now_free journal f act h own is same stays =
      let room : is_full journal ≡ false = room_there (is_leave f.act) (is_full journal) h.room stays in
      let told : answer_to journal party act ≡ f.answer =
      ap (λ (limit : Bool). if limit then full else (outcome journal party act).answer) room ∙ (ap₂ (λ (p : ℕ) (made : Act). (outcome journal p made).answer) (sym own) same ∙ sym h.answer) in
      sym (ap (λ (answer : PlainAnswer). is_held (kind_of answer)) told) ∙ waiters_are_answered journal party act (ap (λ (o : Option Act). is_some o) is)

  after_own : (journal : Entries) (f : PlainEntry) (more : Entries) (act : Act) → MayFollow users journal f → f.party ≡ party → awaited journal party ≡ Some act → answered_entries more party ≡ []
      → (leaves : Bool) → is_leave f.act ≡ leaves → HeldThen party act (f ∷ journal) (f ∷ more)
  after_own journal f more act h own is none true leaves =
      left_waiting (own_leave f more party own leaves ∙ none) (ap (λ (j : Entries). awaited j party) (own_leave_is_after f journal party own leaves) ∙ is) (own_leave_leaves f journal party own leaves)
  after_own journal f more act h own is none false stays =
      let same : act ≡ f.act = waited_act (is_leave f.act) act f.act (due_of journal f act h own is) stays in
      let free = now_free journal f act h own is same stays in
      was_answered [] (ap acts_of (own_answers f more party own stays free ∙ ap (λ (list : Entries). f ∷ list) none) ∙ ap (λ (made : Act). made ∷ []) (sym same))

  own_next : (journal : Entries) (f : PlainEntry) (more : Entries) (act : Act) → MayFollow users journal f → f.party ≡ party → HeldThen party act journal more → HeldThen party act (f ∷ journal) (f ∷ more)
  own_next journal f more act h own (waits_still is none stays) = after_own journal f more act h own is none (is_leave f.act) refl
  own_next journal f more act h own (was_answered rest is) = let m = more_answered f more party act rest is in was_answered m.0 m.1
  own_next journal f more act h own (left_waiting none is gone) =
      absurd (both_ways (has_left journal party) (ap (λ (p : ℕ). has_left journal p) (sym own) ∙ not-true (has_left journal f.party) h.present) gone)

  other_next : (journal : Entries) (f : PlainEntry) (more : Entries) (act : Act) → f.party ≢ party → HeldThen party act journal more → HeldThen party act (f ∷ journal) (f ∷ more)
  other_next journal f more act other (waits_still is none stays) =
      waits_still (other_awaits f journal party other ∙ is) (other_answers_none f more party other ∙ none) (other_leaves f journal party other ∙ stays)
  other_next journal f more act other (was_answered rest is) = let m = more_answered f more party act rest is in was_answered m.0 m.1
  other_next journal f more act other (left_waiting none is gone) =
      left_waiting (other_answers_none f more party other ∙ none) (ap (λ (j : Entries). awaited j party) (other_before_leave f journal party other) ∙ is) (other_leaves f journal party other ∙ gone)

  pub held_then : (more : Entries) (e : PlainEntry) (journal : Entries) → e.party ≡ party → is_leave e.act ≡ false → is_held (kind_of e.answer) ≡ true → IsLegal users (more ++ e ∷ journal) → HeldThen party e.act (more ++ e ∷ journal) more
  held_then [] e journal own stays held legal =
      waits_still (own_awaits e journal party own ∙ ap (λ (b : Bool). if b then Some e.act else None) held) refl
      (ap (λ (same : Bool). (same && is_leave e.act) || has_left journal party) (eq-eqb e.party party own)
      ∙ (ap (λ (leaves : Bool). leaves || has_left journal party) stays ∙ (ap (λ (p : ℕ). has_left journal p) (sym own) ∙ not-true (has_left journal e.party) legal.0.present)))
  held_then (f ∷ more) e journal own stays held legal = by (eqb f.party party) refl (held_then more e journal own stays held legal.1) where
    by : (same : Bool) → eqb f.party party ≡ same → HeldThen party e.act (more ++ e ∷ journal) more → HeldThen party e.act (f ∷ (more ++ e ∷ journal)) (f ∷ more)
    by true is before = own_next (more ++ e ∷ journal) f more e.act legal.0 (eqb-true f.party party is) before
    by false is before = other_next (more ++ e ∷ journal) f more e.act (eqb-false f.party party is) before
