-- How a user goes on: behind entries of others, behind its own, where the journal is full, and where it leaves.
use Rattle.std.proofs.Common.{◌≡◌, ◌≢◌, ℕ, ◌+◌, ◌≤◌, ◌&&◌, ◌||◌, Bool, true, false, not, cond, leb, List, [], ◌∷◌, ◌++◌, map, IsTrue, inl, inr, refl, sym, ap, subst, ◌∙◌, append-nil, append_assoc, arith, if◌then◌else◌}
use Rattle.std.proofs.lemmas.Bool.{eq-eqb, ne_eqb, or_cases, or_left, or_right, leb-true, le-leb}
use Rattle.std.proofs.lemmas.List.{map_push, reverse-append}
use Rattle.std.proofs.lemmas.List.Sums.{sum_by-cons}
use Rattle.std.specs.Prelude.{Option, Some, None, IfSome, is_some, option_and_then, slice_get}
use Rattle.sv_events.specs.Answer.{full}
use Rattle.sv_events.specs.Entry.{PlainEntry}
use Rattle.sv_events.specs.declared.event.Act.{Act}
use Rattle.sv_rules.specs.Entries.{Entries, counted_entries, entry_weight, has_left, held_elements, is_full, is_held, is_leave, kind_of}
use Rattle.sv_rules.specs.Refused.{act_held, awaited, last_entry}
use Rattle.session_rules.specs.Course.{Course}
use Rattle.session_rules.specs.Session.{session_of}
use Rattle.session_rules.specs.Shelf.{Exchange, shelf_replies_in}
use Rattle.session_rules.specs.UserPart.{IsFinished, IsUserPart, acts_of, answered_entries, answers_of, before_leave}
use Rattle.session_rules.proofs.Parties.{other_answers_none}
use Rattle.session_rules.proofs.Taking.{next_is_taken}
use Rattle.replay_rules.specs.SoFar.{IsSoFar, IsWaitedFor}
use Rattle.replay_rules.specs.SoFarLaws.{Asks, IsActEntryOf, user_with_answer}
use Rattle.replay_rules.specs.Turns.{Participant}

-- ---- one entry more

module _ (e : PlainEntry) (journal : Entries) (party : ℕ) where
  -- an entry of another does not change what a party waits for
  pub other_awaits : e.party ≢ party → awaited (e ∷ journal) party ≡ awaited journal party
  other_awaits other = ap (λ (same : Bool). option_and_then act_held (if same then Some e else last_entry journal party)) (ne_eqb e.party party other)

  -- its own last entry says it
  pub own_awaits : e.party ≡ party → awaited (e ∷ journal) party ≡ act_held e
  own_awaits own = ap (λ (same : Bool). option_and_then act_held (if same then Some e else last_entry journal party)) (eq-eqb e.party party own)

  -- an entry of its own answers its lines, or is held
  pub own_answers : e.party ≡ party → is_leave e.act ≡ false → is_held (kind_of e.answer) ≡ false → answered_entries (e ∷ journal) party ≡ e ∷ answered_entries journal party
  own_answers own stays free =
      ap (λ (same : Bool). cond (same && not (is_leave e.act) && not (is_held (kind_of e.answer))) (e ∷ answered_entries journal party) (answered_entries journal party)) (eq-eqb e.party party own)
      ∙ ap (λ (leaves : Bool). cond (not leaves && not (is_held (kind_of e.answer))) (e ∷ answered_entries journal party) (answered_entries journal party)) stays
      ∙ ap (λ (held : Bool). cond (not held) (e ∷ answered_entries journal party) (answered_entries journal party)) free

  pub own_held : e.party ≡ party → is_leave e.act ≡ false → is_held (kind_of e.answer) ≡ true → answered_entries (e ∷ journal) party ≡ answered_entries journal party
  own_held own stays held =
      ap (λ (same : Bool). cond (same && not (is_leave e.act) && not (is_held (kind_of e.answer))) (e ∷ answered_entries journal party) (answered_entries journal party)) (eq-eqb e.party party own)
      ∙ ap (λ (leaves : Bool). cond (not leaves && not (is_held (kind_of e.answer))) (e ∷ answered_entries journal party) (answered_entries journal party)) stays
      ∙ ap (λ (held : Bool). cond (not held) (e ∷ answered_entries journal party) (answered_entries journal party)) held

  -- its leave answers none of them
  pub own_leave : e.party ≡ party → is_leave e.act ≡ true → answered_entries (e ∷ journal) party ≡ answered_entries journal party
  own_leave own leaves =
      ap (λ (same : Bool). cond (same && not (is_leave e.act) && not (is_held (kind_of e.answer))) (e ∷ answered_entries journal party) (answered_entries journal party)) (eq-eqb e.party party own)
      ∙ ap (λ (leave : Bool). cond (not leave && not (is_held (kind_of e.answer))) (e ∷ answered_entries journal party) (answered_entries journal party)) leaves

  -- and the journal before it is the one before the party left
  pub own_leave_is_after : e.party ≡ party → is_leave e.act ≡ true → before_leave (e ∷ journal) party ≡ journal
  own_leave_is_after own leaves =
      ap (λ (same : Bool). if same && is_leave e.act then journal else before_leave journal party) (eq-eqb e.party party own)
      ∙ ap (λ (leave : Bool). if leave then journal else before_leave journal party) leaves

  -- after it the party has left
  pub own_leave_leaves : e.party ≡ party → is_leave e.act ≡ true → has_left (e ∷ journal) party ≡ true
  own_leave_leaves own leaves =
      ap (λ (same : Bool). (same && is_leave e.act) || has_left journal party) (eq-eqb e.party party own)
      ∙ ap (λ (leave : Bool). leave || has_left journal party) leaves

-- a number of which so much is known is at least as large with more
more_is_enough : (limit small more large : ℕ) → large ≡ more + small → leb limit small ≡ true → leb limit large ≡ true
more_is_enough limit small more large sum enough = let least : limit ≤ small = leb-true limit small enough in le-leb limit large (omega arith)

-- a full journal stays full
pub full_stays : (e : PlainEntry) (journal : Entries) → IsTrue (is_full journal) → IsTrue (is_full (e ∷ journal))
full_stays e journal h = elim (or_cases (leb 200000 (counted_entries journal)) (leb 4194304 (held_elements journal)) h) [
  | inl many ↦ or_left _ _ (more_is_enough 200000 (counted_entries journal) (cond (not (is_leave e.act)) 1 0) (counted_entries (e ∷ journal)) (sum_by-cons (λ (o : PlainEntry). cond (not (is_leave o.act)) 1 0) e journal) many)
  | inr large ↦ or_right _ _ (more_is_enough 4194304 (held_elements journal) (entry_weight e) (held_elements (e ∷ journal)) (sum_by-cons entry_weight e journal) large)
]

-- ---- entries of others

pub others_keep : (journal : Entries) (user : Participant) (waiting : Bool) (e : PlainEntry) → e.party ≢ user.number → IsSoFar journal user waiting → IsSoFar (e ∷ journal) user waiting
others_keep journal user waiting e other h =
    let entries : answered_entries journal user.number ≡ answered_entries (e ∷ journal) user.number = sym (other_answers_none e journal user.number other) in
    let same : awaited journal user.number ≡ awaited (e ∷ journal) user.number = sym (other_awaits e journal user.number other) in
    record {
      refused = h.refused;
      answers = h.answers ∙ ap (λ (es : Entries). answers_of es ++ map (λ act. full) h.refused) entries;
      acts = h.acts ∙ ap (λ (es : Entries). acts_of es ++ h.refused) entries;
      at_limit = λ some. full_stays e journal (h.at_limit some);
      waited = subst (λ (act : Option Act). IfSome act (IsWaitedFor user waiting h.refused)) same h.waited;
      going = λ is. ((h.going is).0, ap (λ (act : Option Act). is_some act) (sym same) ∙ (h.going is).1);
    }

-- ---- entries of its own

-- in a journal that is not full nothing was refused so
none_refused : (refused : List Act) (journal : Entries) → is_full journal ≡ false → (refused ≢ [] → IsTrue (is_full journal)) → refused ≡ []
none_refused [] journal room limit = refl
none_refused (act ∷ refused) journal room limit = absurd (let no : true ≡ false = sym (limit (λ e. cc e)) ∙ room in cc)

-- the newest entry comes last, with the oldest first
last_answer : (e : PlainEntry) (entries : Entries) → answers_of (e ∷ entries) ≡ answers_of entries ++ e.answer ∷ []
last_answer e entries = reverse-append (e.answer ∷ []) (map (λ (f : PlainEntry). f.answer) entries)

last_act : (e : PlainEntry) (entries : Entries) → acts_of (e ∷ entries) ≡ acts_of entries ++ e.act ∷ []
last_act e entries = reverse-append (e.act ∷ []) (map (λ (f : PlainEntry). f.act) entries)

-- an act that was answered
pub answered_on : (journal : Entries) (user : Participant) (waiting : Bool) (e : PlainEntry) → IsSoFar journal user waiting → is_full journal ≡ false → IsActEntryOf user e → is_held (kind_of e.answer) ≡ false → Asks user e.act
    → IsSoFar (e ∷ journal) (user_with_answer user e.answer) false
answered_on journal user waiting e h room act free asks =
    let entries : Entries = answered_entries journal user.number in
    let none : h.refused ≡ [] = none_refused h.refused journal room h.at_limit in
    let grown : e ∷ entries ≡ answered_entries (e ∷ journal) user.number = sym (own_answers e journal user.number act.own act.stays free) in
    let given : user.answers ≡ answers_of entries = h.answers ∙ ap (λ (refused : List Act). answers_of entries ++ map (λ act. full) refused) none ∙ append-nil (answers_of entries) in
    let asked : (session_of user.lines user.answers user.replies).acts ≡ acts_of entries = h.acts ∙ ap (λ (refused : List Act). acts_of entries ++ refused) none ∙ append-nil (acts_of entries) in
    record {
      refused = [];
      answers = ap (λ answers. answers ++ e.answer ∷ []) given ∙ sym (last_answer e entries) ∙ ap answers_of grown ∙ sym (append-nil (answers_of (answered_entries (e ∷ journal) user.number)));
      acts = next_is_taken user.lines user.answers user.replies e.answer e.act asks ∙ ap (λ acts. acts ++ e.act ∷ []) asked ∙ sym (last_act e entries) ∙ ap acts_of grown ∙ sym (append-nil (acts_of (answered_entries (e ∷ journal) user.number)));
      at_limit = λ some. absurd (some refl);
      waited = subst (λ (act : Option Act). IfSome act (IsWaitedFor (user_with_answer user e.answer) false [])) (sym (own_awaits e journal user.number act.own ∙ ap (λ (held : Bool). if held then Some e.act else None) free)) tt;
      going = λ is. absurd cc;
    }

-- an act that is held
pub held_on : (journal : Entries) (user : Participant) (waiting : Bool) (e : PlainEntry) → IsSoFar journal user waiting → is_full journal ≡ false → IsActEntryOf user e → is_held (kind_of e.answer) ≡ true → Asks user e.act
    → IsSoFar (e ∷ journal) user true
held_on journal user waiting e h room act held asks =
    let none : h.refused ≡ [] = none_refused h.refused journal room h.at_limit in
    let same : answered_entries journal user.number ≡ answered_entries (e ∷ journal) user.number = sym (own_held e journal user.number act.own act.stays held) in
    let now : awaited (e ∷ journal) user.number ≡ Some e.act = own_awaits e journal user.number act.own ∙ ap (λ (is : Bool). if is then Some e.act else None) held in
    record {
      refused = [];
      answers = h.answers ∙ ap (λ (refused : List Act). answers_of (answered_entries journal user.number) ++ map (λ act. full) refused) none ∙ ap (λ (es : Entries). answers_of es ++ []) same;
      acts = h.acts ∙ ap (λ (refused : List Act). acts_of (answered_entries journal user.number) ++ refused) none ∙ ap (λ (es : Entries). acts_of es ++ []) same;
      at_limit = λ some. absurd (some refl);
      waited = subst (λ (act : Option Act). IfSome act (IsWaitedFor user true [])) (sym now) (refl, asks);
      going = λ is. (refl, ap (λ (act : Option Act). is_some act) now);
    }

-- ---- a full journal

some_is : (act other : Act) → Some act ≡ Some other → act ≡ other
some_is act other e = cc e

-- the first that was refused is the act that was waited for
first_refused : (user after : Participant) (waiting : Bool) (refused : List Act) (act : Act) (awaits : Option Act) → (session_of user.lines user.answers user.replies).waits ≡ Some act → IfSome awaits (IsWaitedFor user waiting refused)
    → IfSome awaits (IsWaitedFor after false (refused ++ act ∷ []))
first_refused user after waiting refused act None asks h = tt
first_refused user after waiting [] act (Some other) asks h = some_is act other (sym asks ∙ h.1)
first_refused user after waiting (first ∷ refused) act (Some other) asks h = h

-- an act is answered full
pub refused_on : (journal : Entries) (user : Participant) (waiting : Bool) (act : Act) → IsSoFar journal user waiting → IsTrue (is_full journal) → (session_of user.lines user.answers user.replies).waits ≡ Some act → IsSoFar journal (user_with_answer user full) false
refused_on journal user waiting act h limit asks =
    let entries : Entries = answered_entries journal user.number in
    record {
      refused = h.refused ++ act ∷ [];
      answers = ap (λ answers. answers ++ full ∷ []) h.answers ∙ append_assoc (answers_of entries) (map (λ act. full) h.refused) (full ∷ []) ∙ ap (λ fulls. answers_of entries ++ fulls) (sym (map_push (λ (a : Act). full) h.refused act));
      acts = next_is_taken user.lines user.answers user.replies full act asks ∙ ap (λ acts. acts ++ act ∷ []) h.acts ∙ append_assoc (acts_of entries) h.refused (act ∷ []);
      at_limit = λ some. limit;
      waited = first_refused user (user_with_answer user full) waiting h.refused act (awaited journal user.number) asks h.waited;
      going = λ is. absurd cc;
    }

-- ---- a leave

head_refused : (user : Participant) (waiting : Bool) (refused : List Act) (awaits : Option Act) → (session_of user.lines user.answers user.replies).waits ≡ None → IfSome awaits (IsWaitedFor user waiting refused) → IfSome awaits (λ act. slice_get refused 0 ≡ Some act)
head_refused user waiting refused None over h = tt
head_refused user waiting [] (Some act) over h = absurd (let no : None ≡ Some act = sym over ∙ h.1 in cc)
head_refused user waiting (first ∷ refused) (Some act) over h = ap (λ (a : Act). Some a) h

-- a user that leaves at the end of its lines has its part
pub left_on : (journal : Entries) (user : Participant) (waiting : Bool) (exchanges : List Exchange) (e : PlainEntry) → IsSoFar journal user waiting → e.party ≡ user.number → is_leave e.act ≡ true → (session_of user.lines user.answers user.replies).waits ≡ None
    → user.replies ≡ shelf_replies_in exchanges → (session_of user.lines user.answers user.replies).exchanges ≡ exchanges
    → IsUserPart (e ∷ journal) (record { number = user.number; lines = user.lines }) exchanges (session_of user.lines user.answers user.replies).terminal.transcript
left_on journal user waiting exchanges e h own leaves over replies calls =
    let same : answered_entries journal user.number ≡ answered_entries (e ∷ journal) user.number = sym (own_leave e journal user.number own leaves) in
    let before : journal ≡ before_leave (e ∷ journal) user.number = sym (own_leave_is_after e journal user.number own leaves) in
    let given : session_of user.lines (answers_of (answered_entries journal user.number) ++ map (λ act. full) h.refused) (shelf_replies_in exchanges) ≡ session_of user.lines user.answers user.replies =
    ap (λ answers. session_of user.lines answers (shelf_replies_in exchanges)) (sym h.answers) ∙ ap (λ list. session_of user.lines user.answers list) (sym replies) in
    let finished : IsFinished user.lines (answered_entries journal user.number) h.refused exchanges (session_of user.lines user.answers user.replies).terminal.transcript = record {
      acts = ap (λ (c : Course). c.acts) given ∙ h.acts;
      waits = ap (λ (c : Course). c.waits) given ∙ over;
      calls = ap (λ (c : Course). c.exchanges) given ∙ calls;
      printed = ap (λ (c : Course). c.terminal.transcript) given;
    } in
    record {
      left = own_leave_leaves e journal user.number own leaves;
      refused = h.refused;
      finished = subst (λ (es : Entries). IsFinished user.lines es h.refused exchanges (session_of user.lines user.answers user.replies).terminal.transcript) same finished;
      at_limit = λ some. subst (λ (earlier : Entries). IsTrue (is_full earlier)) before (h.at_limit some);
      waited = subst (λ (earlier : Entries). IfSome (awaited earlier user.number) (λ act. slice_get h.refused 0 ≡ Some act)) before (head_refused user waiting h.refused (awaited journal user.number) over h.waited);
    }
