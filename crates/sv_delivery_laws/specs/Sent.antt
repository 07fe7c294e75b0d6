-- What a side sends in a stretch of a story, what the other side uses of it, and what it sets over. Lists have the newest first.
use Rattle.std.specs.Prelude.{Bool, true, false, ◌&&◌, not, if◌then◌else◌, List, [], ◌∷◌, ◌++◌, map, filter, option_to_list}
use Rattle.sv_access.specs.declared.access.Side.{Side}
use Rattle.sv_access.specs.declared.access.Kind.{Kind}
use Rattle.sv_access.specs.declared.access.Kind.TheVariants.{Set, Use}
use Rattle.sv_access.specs.Access.{Access, other_side, same_side, same_kind}
use Rattle.sv_access.specs.Story.{Story, last_value, is_unseen}

-- the access is this side's, and of this kind
abbrev pub is_by : {V : Type 0} → Side → Kind → Access V → Bool
is_by side kind access = same_side access.side side && same_kind access.kind kind

-- the values that a side set
abbrev pub set_by : {V : Type 0} → Side → Story V → List V
set_by side story = map (λ access. access.value) (filter (is_by side Set) story)

-- the values that a side used
abbrev pub used_by : {V : Type 0} → Side → Story V → List V
used_by side story = map (λ access. access.value) (filter (is_by side Use) story)

-- the value of a side's set that is unseen, if one is
abbrev pub unseen_value : {V : Type 0} → Side → Story V → List V
unseen_value side story = if is_unseen side story then option_to_list (last_value story) else []

-- a value that a side sent, and whether the other side set over it while it was unseen
pub record Sent (V : Type 0) : Type 0 where
  pub value : V
  pub set_over : Bool

-- a value that was just sent
abbrev pub just_sent : {V : Type 0} → V → Sent V
just_sent value = record { value = value; set_over = false }

-- what was sent, where the other side has set over the newest of it
abbrev pub with_set_over : {V : Type 0} → List (Sent V) → List (Sent V)
with_set_over [] = []
with_set_over (newest ∷ older) = record newest { set_over = true } ∷ older

-- what a side sent after one access more, by whether a set of it was unseen: its own set sends a value, and a set by the
-- other side is over the one that was unseen
abbrev pub sent_after : {V : Type 0} → Side → Access V → Bool → List (Sent V) → List (Sent V)
sent_after side access unseen sent =
    if is_by side Set access then just_sent access.value ∷ sent
    else (if is_by (other_side side) Set access && unseen then with_set_over sent else sent)

-- what a side sent in a stretch of a story: the value that was unseen at its start, if one was, and what it set since
abbrev pub sent : {V : Type 0} → Side → Story V → Story V → List (Sent V)
sent side [] before = map just_sent (unseen_value side before)
sent side (access ∷ stretch) before = sent_after side access (is_unseen side (stretch ++ before)) (sent side stretch before)

-- all values that a side sent
abbrev pub values_sent : {V : Type 0} → Side → Story V → Story V → List V
values_sent side stretch before = map (λ one. one.value) (sent side stretch before)

-- those that are taken out, since the other side set over them
abbrev pub taken_out : {V : Type 0} → Side → Story V → Story V → List V
taken_out side stretch before = map (λ one. one.value) (filter (λ one. one.set_over) (sent side stretch before))

-- those that remain
abbrev pub values_remaining : {V : Type 0} → Side → Story V → Story V → List V
values_remaining side stretch before = map (λ one. one.value) (filter (λ one. not one.set_over) (sent side stretch before))
