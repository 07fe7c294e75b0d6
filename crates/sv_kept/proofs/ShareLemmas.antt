-- The story of one side alone, and what a share makes of it.
use Rattle.std.proofs.Common.{◌≡◌, ◌∷◌, [], Bool, true, false, Option, Some, None, refl, sym, ap, ◌∙◌, subst}
use Rattle.std.specs.Option.{is_some}
use Rattle.std.proofs.lemmas.List.Elements.{All-head, All-tail}
use Rattle.apl_arrays.specs.Array.{PlainArray}
use Rattle.sv_access.specs.declared.access.Side.{Side}
use Rattle.sv_access.specs.declared.access.Side.TheVariants.{A, B}
use Rattle.sv_access.specs.declared.access.Kind.{Kind}
use Rattle.sv_access.specs.declared.access.Kind.TheVariants.{Set, Use}
use Rattle.sv_access.specs.declared.state.AccessState.{AccessState}
use Rattle.sv_access.specs.Access.{Access}
use Rattle.sv_access.specs.State.{state_after}
use Rattle.sv_access.specs.Story.{Story, last_value, state_of_story}
use Rattle.sv_kept.specs.Laws.{IsBy, SidesKnowTheirLast, value_given, known_since, share_since}
use Rattle.sv_kept.specs.Share.{IsShareOf, PlainShare, after_access, giver, known_to, share_of, unseen_by_other}

-- a set leaves the same state, whatever the state was
set_from_any : (state : AccessState) (side : Side) → state_after state side Set ≡ unseen_by_other side true
set_from_any state A = refl
set_from_any state B = refl

-- a use by the side whose set is unseen changes nothing
own_use : (side : Side) (known : Bool) → state_after (unseen_by_other side known) side Use ≡ unseen_by_other side known
own_use A true = refl
own_use B true = refl
own_use A false = refl
own_use B false = refl

next_state : (side : Side) (kind : Kind) (value : PlainArray) (story : Story PlainArray)
    → state_of_story story ≡ unseen_by_other side (is_some (last_value story))
    → state_of_story (record { side = side; kind = kind; value = value } ∷ story) ≡ unseen_by_other side (is_some (last_value {V = PlainArray} (record { side = side; kind = kind; value = value } ∷ story)))
next_state side Set value story so_far = set_from_any (state_of_story story) side
next_state side Use value story so_far =
    ap (λ (state : AccessState). state_after state side Use) so_far ∙ own_use side (is_some (last_value story))

-- an access by this side
abbrev IsOf : Side → Access PlainArray → Type 0
IsOf side access = access.side ≡ side

-- the state of a story in which one side alone set and used
pub state_of_one : (side : Side) (story : Story PlainArray) → IsBy side story → state_of_story story ≡ unseen_by_other side (is_some (last_value story))
state_of_one side [] by = refl
state_of_one side (access ∷ story) by =
    subst (λ (who : Side). state_of_story (record { side = who; kind = access.kind; value = access.value } ∷ story) ≡ unseen_by_other side (is_some (last_value {V = PlainArray} (record { side = who; kind = access.kind; value = access.value } ∷ story))))
    (sym (All-head (IsOf side) access story by)) (next_state side access.kind access.value story (state_of_one side story (All-tail (IsOf side) access story by)))

-- two offers that couple have the giver's story
pub begins : (story : Story PlainArray) (a b : Option PlainArray) → IsBy (giver a) story → last_value story ≡ value_given a b → IsShareOf story (share_of a b)
begins story (Some value) b by is = record {
  state = sym (state_of_one A story by ∙ ap (λ (last : Option PlainArray). unseen_by_other A (is_some last)) is);
  value = sym is;
}
begins story None b by is = record {
  state = sym (state_of_one B story by ∙ ap (λ (last : Option PlainArray). unseen_by_other B (is_some last)) is);
  value = sym is;
}

-- after an access its side knows its value, and the other what it knew
known_next : (share : PlainShare) (first : Option PlainArray) (story : Story PlainArray) (who : Side) (kind : Kind) (value : PlainArray) (side : Side) → known_to share side ≡ known_since first side story
    → known_to (after_access share who kind value) side ≡ known_since first side (record { side = who; kind = kind; value = value } ∷ story)
known_next share first story A Set value A before = refl
known_next share first story A Use value A before = refl
known_next share first story B Set value B before = refl
known_next share first story B Use value B before = refl
known_next share first story A Set value B before = before
known_next share first story A Use value B before = before
known_next share first story B Set value A before = before
known_next share first story B Use value A before = before

pub sides_know : SidesKnowTheirLast
sides_know a b [] side = refl
sides_know a b (access ∷ story) side =
    known_next (share_since a b story) (known_to (share_of a b) side) story access.side access.kind access.value side (sides_know a b story side)
