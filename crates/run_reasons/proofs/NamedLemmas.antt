-- The entries that are named did what they are named for.
use Rattle.std.proofs.Common.{◌≡◌, refl, sym, ap, ◌∙◌, ◌+◌, ◌⊎◌, ℕ, true, false, ltb, [], ◌∷◌, length, Option, Some, None, inl, inr}
use Rattle.std.specs.Option.{option_or}
use Rattle.std.proofs.lemmas.Bool.{cases_Bool}
use Rattle.std.proofs.lemmas.Option.{same_Some, none-some}
use Rattle.apl_arrays.specs.Array.{PlainArray}
use Rattle.sv_access.specs.Access.{is_set}
use Rattle.sv_access.specs.declared.control.Control.{Control}
use Rattle.sv_events.specs.Entry.{PlainEntry}
use Rattle.sv_rules.specs.Control.{control_on}
use Rattle.sv_rules.specs.Entries.{Entries}
use Rattle.sv_rules.specs.Story.{GrantedAccess, access_on, handed_in}
use Rattle.sv_rules.specs.declared.standing.Standing.{Standing}
use Rattle.run_reasons.specs.Laws.{StandsAt}
use Rattle.run_reasons.specs.Placed.{Placed, control_at, placed, placed_after, placed_control, placed_known}
use Rattle.run_reasons.specs.declared.placed.PlacedControl.{PlacedControl}

-- an entry of a journal with an entry more
still_there : (x : PlainEntry) (journal : Entries) (at : ℕ) (e : PlainEntry) → StandsAt journal at e → StandsAt (x ∷ journal) at e
still_there x journal at e h = record { behind = x ∷ h.behind; before = h.before; whole = ap (λ (j : Entries). x ∷ j) h.whole; there = h.there }

newest : (e : PlainEntry) (journal : Entries) (at : ℕ) → at ≡ length journal + 1 → StandsAt (e ∷ journal) at e
newest e journal at is = record { behind = []; before = journal; whole = refl; there = is }

control-later : (e : PlainEntry) (journal : Entries) (offer : Standing) → ltb offer.place (length journal + 1) ≡ true →
    placed_control (e ∷ journal) offer ≡ option_or (control_at (length journal + 1) (control_on offer e)) (placed_control journal offer)
control-later e journal offer later = rw (later, placed_control) refl

control-first : (e : PlainEntry) (journal : Entries) (offer : Standing) → ltb offer.place (length journal + 1) ≡ false → placed_control (e ∷ journal) offer ≡ None
control-first e journal offer first = rw (first, placed_control) refl

pub controls : (journal : Entries) (offer : Standing) (set : PlacedControl) → placed_control journal offer ≡ Some set →
    (e : PlainEntry) × StandsAt journal set.at e × (control_on offer e ≡ Some set.control)
controls [] offer set is = absurd (none-some set is)
controls (e ∷ journal) offer set is = elim (cases_Bool (ltb offer.place (length journal + 1))) [
  | inl later ↦ by (controls journal offer set) (control_on offer e) refl (sym (control-later e journal offer later) ∙ is)
  | inr first ↦ absurd (none-some set (sym (control-first e journal offer first) ∙ is))
]
  where
    by : (placed_control journal offer ≡ Some set → (e' : PlainEntry) × StandsAt journal set.at e' × (control_on offer e' ≡ Some set.control)) →
        (control : Option Control) → control_on offer e ≡ control → option_or (control_at (length journal + 1) control) (placed_control journal offer) ≡ Some set →
        (e' : PlainEntry) × StandsAt (e ∷ journal) set.at e' × (control_on offer e' ≡ Some set.control)
    by before None sets found = let older = before found in (older.0, still_there e journal set.at older.0 older.1, older.2)
    by before (Some control) sets found =
        let same : (let s : PlacedControl = record { at = length journal + 1; control = control } in s) ≡ set = same_Some _ _ found in
        (e, newest e journal set.at (sym (ap (λ (s : PlacedControl). s.at) same)), sets ∙ ap (λ (s : PlacedControl). Some s.control) same)

known-later : (e : PlainEntry) (journal : Entries) (offer : Standing) → ltb offer.place (length journal + 1) ≡ true →
    placed_known (e ∷ journal) offer ≡ placed_after (length journal + 1) (access_on offer e) (placed_known journal offer)
known-later e journal offer later = rw (later, placed_known) refl

known-first : (e : PlainEntry) (journal : Entries) (offer : Standing) → ltb offer.place (length journal + 1) ≡ false →
    placed_known (e ∷ journal) offer ≡ placed (length journal + 1) (handed_in e.act)
known-first e journal offer first = rw (first, placed_known) refl

pub values : (journal : Entries) (offer : Standing) (one : Placed) → placed_known journal offer ≡ Some one →
    (e : PlainEntry) × StandsAt journal one.at e × ((placed_after one.at (access_on offer e) None ≡ Some one) ⊎ (placed one.at (handed_in e.act) ≡ Some one))
values [] offer one is = absurd (none-some one is)
values (e ∷ journal) offer one is = elim (cases_Bool (ltb offer.place (length journal + 1))) [
  | inl later ↦ by (values journal offer one) (access_on offer e) refl (sym (known-later e journal offer later) ∙ is)
  | inr first ↦ of_offer (handed_in e.act) refl (sym (known-first e journal offer first) ∙ is)
]
  where
    by : (placed_known journal offer ≡ Some one →
        (e' : PlainEntry) × StandsAt journal one.at e' × ((placed_after one.at (access_on offer e') None ≡ Some one) ⊎ (placed one.at (handed_in e'.act) ≡ Some one))) →
        (got : Option GrantedAccess) → access_on offer e ≡ got → placed_after (length journal + 1) got (placed_known journal offer) ≡ Some one →
        (e' : PlainEntry) × StandsAt (e ∷ journal) one.at e' × ((placed_after one.at (access_on offer e') None ≡ Some one) ⊎ (placed one.at (handed_in e'.act) ≡ Some one))
    by before None gets found = let older = before found in (older.0, still_there e journal one.at older.0 older.1, older.2)
    by before (Some access) gets found =
        let at : length journal + 1 ≡ one.at = ap (λ (p : Placed). p.at) (same_Some (let p : Placed = record { at = length journal + 1; is_set = is_set access.kind; value = access.value } in p) one found) in (
          e,
          newest e journal one.at (sym at),
          inl (ap (λ (n : ℕ). placed_after n (access_on offer e) None) (sym at) ∙ ap (λ (g : Option GrantedAccess). placed_after (length journal + 1) g None) gets ∙ found),
        )

    of_offer : (handed : Option PlainArray) → handed_in e.act ≡ handed → placed (length journal + 1) handed ≡ Some one →
        (e' : PlainEntry) × StandsAt (e ∷ journal) one.at e' × ((placed_after one.at (access_on offer e') None ≡ Some one) ⊎ (placed one.at (handed_in e'.act) ≡ Some one))
    of_offer None hands found = absurd (none-some one found)
    of_offer (Some value) hands found =
        let at : length journal + 1 ≡ one.at = ap (λ (p : Placed). p.at) (same_Some (let p : Placed = record { at = length journal + 1; is_set = false; value = value } in p) one found) in
        (e, newest e journal one.at (sym at), inr (ap (λ (n : ℕ). placed n (handed_in e.act)) (sym at) ∙ ap (placed (length journal + 1)) hands ∙ found))
