use Rattle.std.proofs.Common.{◌≡◌, refl, ◌∙◌, ap, sym, Bool, true, false, ◌&&◌, not, cond, [], ◌∷◌, IsTrue}
use Rattle.std.proofs.Math.Bool.{and-false, or_comm}
use Rattle.std.specs.Prelude.{◌↔◌, Some, None}
use Rattle.std.specs.Option.{option_map_or}
use Rattle.sv_access.specs.declared.access.Side.{Side}
use Rattle.sv_access.specs.declared.access.Side.TheVariants.{A, B}
use Rattle.sv_access.specs.declared.access.Kind.{Kind}
use Rattle.sv_access.specs.declared.access.Kind.TheVariants.{Set, Use}
use Rattle.sv_access.specs.declared.control.Control.{Control}
use Rattle.sv_access.specs.declared.state.AccessState.{AccessState}
use Rattle.sv_access.specs.declared.state.AccessState.TheVariants.{Quiet, UnseenA, UnseenB}
use Rattle.sv_access.specs.declared.verdict.Verdict.TheVariants.{Granted, Held}
use Rattle.sv_access.specs.Access.{other_side, same_side}
use Rattle.sv_access.specs.Control.{has_element, swapped, combined}
use Rattle.sv_access.specs.State.{state_after, vector_of_state, quiet_vector, own_unseen_vector, partners_unseen_vector}
use Rattle.sv_access.specs.Table.{element_of, verdict_of}
use Rattle.sv_access.specs.Story.{Story, is_last_setter, is_unseen, is_early, verdict_of_story, vector_of_story, state_of_story}
use Rattle.sv_access.specs.Law.{SaysWhoseSetIsUnseen}

-- a state says whether a set of this side is unseen
abbrev pub says_unseen : AccessState → Side → Bool
says_unseen Quiet side = false
says_unseen UnseenA A = true
says_unseen UnseenA B = false
says_unseen UnseenB A = false
says_unseen UnseenB B = true

-- after a set only its own side's is unseen
pub is_unseen_set : {V : Type 0} (by side : Side) (value : V) (story : Story V) → is_unseen side (record { side = by; kind = Set; value = value } ∷ story) ≡ same_side by side
is_unseen_set A A value story = refl
is_unseen_set A B value story = refl
is_unseen_set B A value story = refl
is_unseen_set B B value story = refl

-- a use by the side itself leaves its set as unseen as it was
pub is_unseen_own_use : {V : Type 0} (side : Side) (value : V) (story : Story V) → is_unseen side (record { side = side; kind = Use; value = value } ∷ story) ≡ is_unseen side story
is_unseen_own_use A value story = refl
is_unseen_own_use B value story = refl

-- after a use by the other side no set of this side is unseen
pub is_unseen_others_use : {V : Type 0} (side : Side) (value : V) (story : Story V) → is_unseen side (record { side = other_side side; kind = Use; value = value } ∷ story) ≡ false
is_unseen_others_use A value story = and-false (is_last_setter A story)
is_unseen_others_use B value story = and-false (is_last_setter B story)

-- the table moves a state as an access moves what is unseen
pub says_unseen_set : (state : AccessState) (by side : Side) → says_unseen (state_after state by Set) side ≡ same_side by side
says_unseen_set state A A = refl
says_unseen_set state A B = refl
says_unseen_set state B A = refl
says_unseen_set state B B = refl

pub says_unseen_own_use : (state : AccessState) (side : Side) → says_unseen (state_after state side Use) side ≡ says_unseen state side
says_unseen_own_use Quiet A = refl
says_unseen_own_use Quiet B = refl
says_unseen_own_use UnseenA A = refl
says_unseen_own_use UnseenA B = refl
says_unseen_own_use UnseenB A = refl
says_unseen_own_use UnseenB B = refl

pub says_unseen_others_use : (state : AccessState) (side : Side) → says_unseen (state_after state (other_side side) Use) side ≡ false
says_unseen_others_use Quiet A = refl
says_unseen_others_use Quiet B = refl
says_unseen_others_use UnseenA A = refl
says_unseen_others_use UnseenA B = refl
says_unseen_others_use UnseenB A = refl
says_unseen_others_use UnseenB B = refl

-- where the state says what is unseen, it says so after one access more
pub is_unseen_more : {V : Type 0} (by : Side) (kind : Kind) (value : V) (story : Story V) (side : Side) →
    is_unseen side story ≡ says_unseen (state_of_story story) side →
    is_unseen side (record { side = by; kind = kind; value = value } ∷ story) ≡ says_unseen (state_after (state_of_story story) by kind) side
is_unseen_more by Set value story side before = is_unseen_set by side value story ∙ sym (says_unseen_set (state_of_story story) by side)
is_unseen_more A Use value story A before = before ∙ sym (says_unseen_own_use (state_of_story story) A)
is_unseen_more A Use value story B before = is_unseen_others_use B value story ∙ sym (says_unseen_others_use (state_of_story story) B)
is_unseen_more B Use value story A before = is_unseen_others_use A value story ∙ sym (says_unseen_others_use (state_of_story story) A)
is_unseen_more B Use value story B before = before ∙ sym (says_unseen_own_use (state_of_story story) B)

-- the state of a story says what is unseen in it
pub is_unseen_by_state : {V : Type 0} (story : Story V) (side : Side) → is_unseen side story ≡ says_unseen (state_of_story story) side
is_unseen_by_state [] side = refl
is_unseen_by_state (access ∷ story) side =
    is_unseen_more access.side access.kind access.value story side (is_unseen_by_state story side)

-- an access is early exactly where the state's vector has 1 at its element in A's view
pub is_early_by_state : {V : Type 0} (story : Story V) (side : Side) (kind : Kind) →
    is_early story side kind ≡ has_element (vector_of_state (state_of_story story) A) (element_of side kind)
is_early_by_state story A Set = is_unseen_by_state story A ∙ own_set (state_of_story story)
  where
    own_set : (state : AccessState) → says_unseen state A ≡ has_element (vector_of_state state A) 1
    own_set Quiet = refl
    own_set UnseenA = refl
    own_set UnseenB = refl
is_early_by_state story B Set = is_unseen_by_state story B ∙ own_set (state_of_story story)
  where
    own_set : (state : AccessState) → says_unseen state B ≡ has_element (vector_of_state state A) 2
    own_set Quiet = refl
    own_set UnseenA = refl
    own_set UnseenB = refl
is_early_by_state story A Use = ap not (is_unseen_by_state story B) ∙ no_others (state_of_story story)
  where
    no_others : (state : AccessState) → not (says_unseen state B) ≡ has_element (vector_of_state state A) 3
    no_others Quiet = refl
    no_others UnseenA = refl
    no_others UnseenB = refl
is_early_by_state story B Use = ap not (is_unseen_by_state story A) ∙ no_others (state_of_story story)
  where
    no_others : (state : AccessState) → not (says_unseen state A) ≡ has_element (vector_of_state state A) 4
    no_others Quiet = refl
    no_others UnseenA = refl
    no_others UnseenB = refl

-- the verdict by the state's vector is the verdict by what is early
pub verdict_by_state : {V : Type 0} (joint : Control) (story : Story V) (side : Side) (kind : Kind) →
    verdict_of joint (state_of_story story) side kind ≡ verdict_of_story joint story side kind
verdict_by_state joint story side kind = rw (← is_early_by_state story side kind) (held_where (has_element joint (element_of side kind) && is_early story side kind))
  where
    held_where : (b : Bool) → cond b (Held (element_of side kind)) Granted ≡ option_map_or Held (cond b (Some (element_of side kind)) None) Granted
    held_where true = refl
    held_where false = refl

-- the vector by the state is the vector by what is unseen
pub vector_by_state : {V : Type 0} (story : Story V) (side : Side) → vector_of_state (state_of_story story) side ≡ vector_of_story story side
vector_by_state story side = rw (is_unseen_by_state story side, is_unseen_by_state story (other_side side)) (vector_where (state_of_story story) side)
  where
    vector_where : (state : AccessState) (side : Side) →
        vector_of_state state side ≡ cond (says_unseen state side) own_unseen_vector (cond (says_unseen state (other_side side)) partners_unseen_vector quiet_vector)
    vector_where Quiet side = refl
    vector_where UnseenA A = refl
    vector_where UnseenA B = refl
    vector_where UnseenB A = refl
    vector_where UnseenB B = refl

-- the state is the one that says what is unseen
pub state_by_unseen : {V : Type 0} (story : Story V) → SaysWhoseSetIsUnseen V story
state_by_unseen story = record {
  of_a = rw (is_unseen_by_state story A) (of_a_where (state_of_story story));
  of_b = rw (is_unseen_by_state story B) (of_b_where (state_of_story story));
  of_neither = rw (is_unseen_by_state story A, is_unseen_by_state story B) (of_neither_where (state_of_story story));
}
  where
    of_a_where : (state : AccessState) → (state ≡ UnseenA) ↔ IsTrue (says_unseen state A)
    of_a_where Quiet = ((λ h. cc), (λ h. cc))
    of_a_where UnseenA = ((λ h. refl), (λ h. refl))
    of_a_where UnseenB = ((λ h. cc), (λ h. cc))

    of_b_where : (state : AccessState) → (state ≡ UnseenB) ↔ IsTrue (says_unseen state B)
    of_b_where Quiet = ((λ h. cc), (λ h. cc))
    of_b_where UnseenA = ((λ h. cc), (λ h. cc))
    of_b_where UnseenB = ((λ h. refl), (λ h. refl))

    of_neither_where : (state : AccessState) → (state ≡ Quiet) ↔ (IsTrue (not (says_unseen state A)) × IsTrue (not (says_unseen state B)))
    of_neither_where Quiet = ((λ h. (refl, refl)), (λ h. refl))
    of_neither_where UnseenA = ((λ h. cc), (λ h. cc))
    of_neither_where UnseenB = ((λ h. cc), (λ h. cc))

-- what B sees of the control in force is what A would, were the two vectors exchanged
pub joined_alike : (a b : Control) → swapped (combined a b) ≡ combined b a
joined_alike a b =
    let first = or_comm (has_element a 2) (has_element b 1) in
    let second = or_comm (has_element a 1) (has_element b 2) in
    let third = or_comm (has_element a 4) (has_element b 3) in
    let fourth = or_comm (has_element a 3) (has_element b 4) in
    cc
