-- What a core keeps is kept by an entry more.
use Rattle.std.proofs.Common.{◌&&◌, ◌+◌, ◌||◌, ◌∙◌, ◌∷◌, ◌≡◌, ◌≤◌, Bool, Err, List, None, Ok, OnErr, OnOk, Result, [], ap, arith, false, is_ok, length, not, refl, subst, sym, true, ℕ}
use Rattle.std.proofs.lemmas.List.Elements.{filter_agree}
use Rattle.std.proofs.lemmas.List.Sums.{count_by-le-length, length-filter}
use Rattle.std.specs.Prelude.{◌==◌, All, count_by}
use Rattle.sv_cell_laws.proofs.TouchSteps.{cells_stay}
use Rattle.sv_cell_laws.specs.Fits.{FitCells}
use Rattle.sv_cell_laws.specs.Steps.{Stays, TouchesNothing}
use Rattle.sv_kept.specs.Cells.{KeepsCells, cell_at}
use Rattle.sv_kept.specs.declared.cells.Cells.{Cells}
use Rattle.sv_events.specs.Answer.{PlainAnswer}
use Rattle.sv_events.specs.Entry.{PlainEntry}
use Rattle.sv_events.specs.declared.entry.Pair.{Pair}
use Rattle.sv_events.specs.declared.event.Act.{Act}
use Rattle.sv_kept.specs.Log.{PlainLog}
use Rattle.sv_rules.specs.Coupling.{couplings}
use Rattle.sv_rules.specs.Entries.{Entries, has_left, is_leave}
use Rattle.sv_rules.specs.Legal.{IsLegal, MayFollow, entry_for}
use Rattle.sv_rules.specs.Outcome.{outcome}
use Rattle.sv_rules.specs.Standing.{standing}
use Rattle.sv_core.specs.Core.{ArePeople, IsSpare, PlainCore, core_after, present}
use Rattle.sv_core.proofs.CellPlaces.{keeps_add_none, no_other_later, no_other_still}
use Rattle.sv_core.specs.Invariant.{IsWholeCore, CoreParts}
use Rattle.sv_core.specs.Updating.{AddsNone, HasNoOther}

and-false : (b : Bool) → (b && false) ≡ false
and-false true = refl
and-false false = refl

-- an entry that is no leave leaves everybody where they are
pub has_left-stay : (journal : Entries) (e : PlainEntry) (party : ℕ) → is_leave e.act ≡ false → has_left (e ∷ journal) party ≡ has_left journal party
has_left-stay journal e party h = ap (λ b. (e.party == party && b) || has_left journal party) h ∙ ap (λ b. b || has_left journal party) (and-false (e.party == party))

-- what holds on success holds where there was success
pub on_success : {T E : Type 0} (r : Result T E) (P : Type 0) → is_ok r ≡ true → OnOk r P → P
on_success (Ok x) P ok h = h
on_success (Err e) P ok h = cc

-- and on failure where there was none
pub on_failure : {T E : Type 0} (r : Result T E) (P : Type 0) → is_ok r ≡ false → OnErr r P → P
on_failure (Ok x) P failed h = cc
on_failure (Err e) P failed h = h

-- no more users are present than there are
pub present-le-length : (users : List ℕ) (journal : Entries) → present users journal ≤ length users
present-le-length users journal = count_by-le-length (λ user. not (has_left journal user)) users

-- tests that agree count alike
count_by_agree : {X : Type 0} (p q : X → Bool) → ((x : X) → p x ≡ q x) → (xs : List X) → count_by p xs ≡ count_by q xs
count_by_agree p q same xs = sym (length-filter p xs) ∙ ap length (filter_agree p q same xs) ∙ length-filter q xs

pub present-stay : (users : List ℕ) (journal : Entries) (e : PlainEntry) → is_leave e.act ≡ false → present users (e ∷ journal) ≡ present users journal
present-stay users journal e h =
    count_by_agree (λ user. not (has_left (e ∷ journal) user)) (λ user. not (has_left journal user)) (λ user. ap not (has_left-stay journal e user h)) users

-- a log with one entry more, and room for a leave of each user
pub record IsEntered (old new : PlainLog) (e : PlainEntry) : Type 0 where
  pub users : new.users ≡ old.users
  pub journal : new.journal ≡ e ∷ old.journal
  pub room : length old.users ≤ new.room

-- room was made, and then the entry was added
pub entered : (old between new : PlainLog) (added e : PlainEntry) → between.users ≡ old.users → between.journal ≡ old.journal → length old.users + 1 ≤ between.room →
    new.users ≡ between.users → new.journal ≡ added ∷ between.journal → new.room + 1 ≡ between.room → added ≡ e → IsEntered old new e
entered old between new added e users journal room users' journal' room' is = record {
  users = users' ∙ users;
  journal = journal' ∙ ap (λ j. added ∷ j) journal ∙ ap (λ x. x ∷ old.journal) is;
  room = omega (arith, room, room');
}

-- the entry of an act, by its answer and its pairs
pub entry_is : (journal : Entries) (party : ℕ) (act : Act) (given : PlainAnswer) (made : List Pair) → given ≡ (outcome journal party act).answer → made ≡ (outcome journal party act).made →
    (let e : PlainEntry = record { party = party; act = act; answer = given; made = made } in e) ≡ entry_for journal party act
entry_is journal party act given made answer pairs =
    ap (λ (a : PlainAnswer). let e : PlainEntry = record { party = party; act = act; answer = a; made = made } in e) answer
    ∙ ap (λ (ps : List Pair). let e : PlainEntry = record { party = party; act = act; answer = (outcome journal party act).answer; made = ps } in e) pairs

-- the same of an entry with an equal act
pub entry_as : (journal : Entries) (party : ℕ) (act kept : Act) (given : PlainAnswer) (made : List Pair) → kept ≡ act → given ≡ (outcome journal party act).answer → made ≡ (outcome journal party act).made →
    (let e : PlainEntry = record { party = party; act = kept; answer = given; made = made } in e) ≡ entry_for journal party act
entry_as journal party act kept given made same answer pairs =
    ap (λ (a : Act). let e : PlainEntry = record { party = party; act = a; answer = given; made = made } in e) same ∙ entry_is journal party act given made answer pairs

-- the core is the one after the act
pub core_is : (core : PlainCore) (old new : PlainLog) (party : ℕ) (act : Act) → (let c : PlainCore = record { users = old.users; journal = old.journal } in c) ≡ core →
    new.users ≡ old.users → new.journal ≡ entry_for old.journal party act ∷ old.journal → (let c : PlainCore = record { users = new.users; journal = new.journal } in c) ≡ core_after core party act
core_is core old new party act is users journal =
    ap (λ (us : List ℕ). let c : PlainCore = record { users = us; journal = new.journal } in c) users
    ∙ ap (λ (j : Entries). let c : PlainCore = record { users = old.users; journal = j } in c) journal
    ∙ ap (λ (c : PlainCore). core_after c party act) is

-- equal cells fit alike
fit_kept : (journal : Entries) (cells cells' : Cells) → KeepsCells cells cells' → FitCells journal cells → FitCells journal cells'
fit_kept journal cells cells' keeps fit offer has = let old = fit offer has in (old.0, keeps offer.place ∙ old.1, old.2)

-- what a core keeps, after an entry more
pub whole_core : (core new : CoreParts) (e : PlainEntry) → IsWholeCore core → MayFollow core.users core.journal e → new.users ≡ core.users → new.journal ≡ e ∷ core.journal →
    new.offers ≡ standing (e ∷ core.journal) → new.coupled ≡ couplings (e ∷ core.journal) → FitCells (e ∷ core.journal) new.cells → HasNoOther (e ∷ core.journal) new.cells →
    present core.users (e ∷ core.journal) ≤ new.room → present core.users (e ∷ core.journal) ≤ length new.spares → All IsSpare new.spares → IsWholeCore new
whole_core core new e k may users journal stand couple fit no_other room count spare =
    let here : present new.users new.journal ≡ present core.users (e ∷ core.journal) = ap (λ us. present us new.journal) users ∙ ap (present core.users) journal in
    record {
      people = subst ArePeople (sym users) k.people;
      legal = subst (λ us. IsLegal us new.journal) (sym users) (subst (IsLegal core.users) (sym journal) (may, k.legal));
      stand = stand ∙ ap standing (sym journal);
      couple = couple ∙ ap couplings (sym journal);
      fit = subst (λ j. FitCells j new.cells) (sym journal) fit;
      no_other = subst (λ j. HasNoOther j new.cells) (sym journal) no_other;
      entries_room = omega (arith, here, room);
      spare_count = omega (arith, here, count);
      spare_room = spare;
    }

-- after an entry that is no leave, and opens and ends no offers
pub entry_core : (core new : CoreParts) (e : PlainEntry) → IsWholeCore core → MayFollow core.users core.journal e → is_leave e.act ≡ false → Stays core.journal e → new.users ≡ core.users → new.journal ≡ e ∷ core.journal →
    new.offers ≡ core.offers → new.coupled ≡ core.coupled → new.spares ≡ core.spares → FitCells (e ∷ core.journal) new.cells → AddsNone core.cells new.cells → length core.users ≤ new.room → IsWholeCore new
entry_core core new e k may leaves stays users journal offers coupled spares fit adds room =
    let stay = present-stay core.users core.journal e leaves in
    whole_core core new e k may users journal (offers ∙ k.stand ∙ sym stays.offers) (coupled ∙ k.couple ∙ sym stays.coupled) fit
    (no_other_later core.journal e core.cells new.cells stays.offers adds k.no_other)
    (omega (arith, stay, present-le-length core.users core.journal, room)) (omega (arith, stay, k.spare_count, ap length spares)) (subst (All IsSpare) (sym spares) k.spare_room)

-- after an entry that touches nothing
pub quiet_core : (core new : CoreParts) (e : PlainEntry) → IsWholeCore core → MayFollow core.users core.journal e → is_leave e.act ≡ false → TouchesNothing core.journal e → new.users ≡ core.users → new.journal ≡ e ∷ core.journal →
    new.offers ≡ core.offers → new.coupled ≡ core.coupled → new.spares ≡ core.spares → KeepsCells core.cells new.cells → length core.users ≤ new.room → IsWholeCore new
quiet_core core new e k may leaves nothing users journal offers coupled spares cells room =
    entry_core core new e k may leaves nothing.stays users journal offers coupled spares
    (cells_stay core.users core.journal e (may, k.legal) nothing new.cells (fit_kept core.journal core.cells new.cells cells k.fit))
    (keeps_add_none core.cells new.cells cells) room

-- where nothing was entered
pub same_core : (core new : CoreParts) → IsWholeCore core → new.users ≡ core.users → new.journal ≡ core.journal → new.offers ≡ core.offers → new.coupled ≡ core.coupled → new.spares ≡ core.spares →
    KeepsCells core.cells new.cells → core.room ≤ new.room → IsWholeCore new
same_core core new k users journal offers coupled spares cells room =
    let here : present new.users new.journal ≡ present core.users core.journal = ap (λ us. present us new.journal) users ∙ ap (present core.users) journal in
    record {
      people = subst ArePeople (sym users) k.people;
      legal = subst (λ us. IsLegal us new.journal) (sym users) (subst (IsLegal core.users) (sym journal) k.legal);
      stand = offers ∙ k.stand ∙ ap standing (sym journal);
      couple = coupled ∙ k.couple ∙ ap couplings (sym journal);
      fit = subst (λ j. FitCells j new.cells) (sym journal) (fit_kept core.journal core.cells new.cells cells k.fit);
      no_other = subst (λ j. HasNoOther j new.cells) (sym journal) (no_other_still core.journal core.cells new.cells (keeps_add_none core.cells new.cells cells) k.no_other);
      entries_room = omega (arith, here, k.entries_room, room);
      spare_count = omega (arith, here, k.spare_count, ap length spares);
      spare_room = subst (All IsSpare) (sym spares) k.spare_room;
    }

-- what a core keeps that is new
pub new_core : (core : CoreParts) (users : List ℕ) → ArePeople users → core.users ≡ users → core.journal ≡ [] → core.offers ≡ [] → core.coupled ≡ [] → ((at : ℕ) → cell_at core.cells at ≡ None) → length users ≤ core.room →
    length users ≤ length core.spares → All IsSpare core.spares → IsWholeCore core
new_core core users people same none offers coupled cells room count spare = record {
  people = subst ArePeople (sym same) people;
  legal = subst (IsLegal core.users) (sym none) tt;
  stand = offers ∙ ap standing (sym none);
  couple = coupled ∙ ap couplings (sym none);
  fit = subst (λ (j : Entries). FitCells j core.cells) (sym none) (λ offer has. absurd (omega (arith, has.1)));
  no_other = λ at vacant. cells at;
  entries_room = omega (arith, present-le-length core.users core.journal, ap length same, room);
  spare_count = omega (arith, present-le-length core.users core.journal, ap length same, count);
  spare_room = spare;
}
