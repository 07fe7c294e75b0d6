-- The work that is due, by the offers that are found.
use Rattle.std.proofs.Common.{◌≡◌, refl, sym, ap, ◌∙◌, ℕ, suc, ◌+◌, ◌<◌, Bool, true, false, not, cond, List, [], ◌∷◌, ◌++◌, length, get_or, take, drop, drop-cons, Option, Some, None}
use Rattle.std.specs.Option.{option_or}
use Rattle.std.proofs.lemmas.List.{take-append-drop, take_more}
use Rattle.std.proofs.lemmas.List.Folds.{find-append}
use Rattle.std.specs.Prelude.{find, unwrap_or}
use Rattle.std.specs.Option.{option_map_or}
use Rattle.sv_events.specs.declared.work.Work.TheVariants.{Idle}
use Rattle.sv_rules.specs.Coupling.{couplings, coupling_at, is_coupled}
use Rattle.sv_rules.specs.Entries.{Entries}
use Rattle.sv_rules.specs.Standing.{standing}
use Rattle.sv_rules.specs.Work.{first_work, has_unseen, lacks_control, own_offers, owes_reply, to_counter, work_due}
use Rattle.sv_rules.specs.declared.coupling.Made.{Made}
use Rattle.sv_rules.specs.declared.standing.Standing.{Standing}

pub work_by_offers : (journal : Entries) (party : ℕ) (offers : List Standing) (coupled : List Made) (own : List Standing) (open' lacking owing waiting unseen : Option Standing) →
    offers ≡ standing journal → coupled ≡ couplings journal → own ≡ own_offers journal party →
    open' ≡ find (λ offer. not (is_coupled coupled offer.place)) own →
    lacking ≡ find (λ offer. option_map_or (lacks_control journal offer) (coupling_at offers coupled offer.place) false) own →
    owing ≡ find (λ offer. option_map_or (owes_reply journal offer) (coupling_at offers coupled offer.place) false) own →
    waiting ≡ to_counter journal party →
    unseen ≡ find (λ offer. option_map_or (has_unseen journal offer) (coupling_at offers coupled offer.place) false) own →
    unwrap_or (first_work open' lacking owing waiting unseen) Idle ≡ unwrap_or (work_due journal party) Idle
work_by_offers journal party offers coupled own open' lacking owing waiting unseen stand now mine is_open is_lacking is_owing is_waiting is_unseen =
    rw (is_open, is_lacking, is_owing, is_waiting, is_unseen, stand, now, mine) refl

-- the first of some offers, where one more may be had
pub first_where : (b : Bool) (offers : List Standing) → find (λ _. b) offers ≡ cond b (find (λ _. true) offers) None
first_where true offers = refl
first_where false [] = refl
first_where false (o ∷ offers) = first_where false offers

-- the first of a list that passes, where none before it does
pub found_here : {X : Type 0} (p : X → Bool) (xs : List X) (i : ℕ) (x : X) → i < length xs → x ≡ get_or xs i x → find p (take i xs) ≡ None → p x ≡ true →
    find p xs ≡ Some x
found_here p xs i x within is none passes =
    ap (find p) (sym (take-append-drop i xs)) ∙ find-append p (take i xs) (drop i xs) ∙ ap (λ o. option_or o (find p (drop i xs))) none
    ∙ ap (find p) (drop-cons xs i x within ∙ ap (λ y. y ∷ drop (suc i) xs) (sym is)) ∙ ap (λ b. cond b (Some x) (find p (drop (suc i) xs))) passes

-- none passes among the first, nor among these and one that does not
pub none_more : {X : Type 0} (p : X → Bool) (xs : List X) (i : ℕ) (x : X) → i < length xs → x ≡ get_or xs i x → find p (take i xs) ≡ None → p x ≡ false →
    find p (take (i + 1) xs) ≡ None
none_more p xs i x within is none fails =
    ap (find p) (take_more xs i x within ∙ ap (λ y. take i xs ++ y ∷ []) (sym is)) ∙ find-append p (take i xs) (x ∷ [])
    ∙ ap (λ o. option_or o (cond (p x) (Some x) None)) none ∙ ap (λ b. cond b (Some x) None) fails
