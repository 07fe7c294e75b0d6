-- Workspaces as plain data, what their names stand for, and what each call leaves.
use Rattle.std.specs.Prelude.{◌≡◌, ◌≤◌, ◌<◌, ◌+◌, ◌++◌, ◌==◌, ◌&&◌, ◌||◌, ◌⊎◌, ℕ, Bool, true, false, not, List, [], ◌∷◌, Option, Some, None, All, IfSome, length, filter, drop, is_some, map, nat_le, nat_lt, reverse, sum_by, unwrap_or, if◌then◌else◌}
use Rattle.std.specs.Bool.{MatchBool}
use Rattle.std.specs.List.Sorted.{IsStrictlySortedBy}
use Rattle.std.specs.Map.{keys_of, values_of}
use Rattle.std.specs.Option.{option_or}
use Rattle.apl_arrays.specs.Array.{PlainArray}
use Rattle.apl_arrays.specs.Limits.{most_offers}
use Rattle.apl_arrays.specs.Parties.{is_user_number}
use Rattle.aux_parties.specs.Auxiliaries.{is_auxiliary}
use Rattle.apl_arrays.specs.declared.report.Fail.{Fail}
use Rattle.apl_arrays.specs.declared.report.Fail.TheVariants.{Report, WantOfMemory}
use Rattle.apl_arrays.specs.declared.report.Report.TheVariants.{Syntax, WsFull}
use Rattle.apl_workspace.specs.Frame.{AreArgumentsOf, frame_of}
use Rattle.apl_workspace.specs.Limits.{most_weight, most_depth, most_printed}
use Rattle.apl_workspace.specs.Meaning.{IsGlobal, IsLocal, NameTable, is_shared_in, meaning_in, own_copy_in, table_weight, with_meaning, with_value_or_none, without_name, without_names}
use Rattle.apl_arrays.specs.Name.{name_order, same_name}
use Rattle.apl_workspace.specs.Names.{all_differ}
use Rattle.apl_workspace.specs.declared.args.Args.{Args}
use Rattle.apl_workspace.specs.declared.meaning.Meaning.{Meaning}
use Rattle.apl_workspace.specs.declared.meaning.Meaning.TheVariants.{Nothing, Value, Function, Label, Shared}
use Rattle.apl_workspace.specs.declared.remake.Remake.{Remake}

-- a workspace: its global names, the frames of functions under way with the innermost first, the offers that are listed, and how many glyphs were printed
pub record PlainWorkspace : Type 0 where
  pub globals : NameTable
  pub frames : List NameTable
  pub offers : List Remake
  pub printed : ℕ

-- an empty workspace
abbrev pub empty_workspace : PlainWorkspace
empty_workspace = record { globals = []; frames = []; offers = []; printed = 0 }

-- what a workspace weighs: its global names and its frames
abbrev pub workspace_weight : PlainWorkspace → ℕ
workspace_weight w = table_weight w.globals + sum_by table_weight w.frames

-- what a name stands for in the first of these tables that has it
abbrev pub innermost : List NameTable → List ℕ → Option Meaning
innermost [] name = None
innermost (table ∷ tables) name = option_or (meaning_in table name) (innermost tables name)

-- what a name stands for where the frames and the global names have this of it
abbrev pub seen_by : Option Meaning → Option Meaning → Meaning
seen_by None None = Nothing
seen_by None (Some global) = global
seen_by (Some local) global = local

-- what a name stands for: in the innermost frame that has it, else globally
abbrev pub look : PlainWorkspace → List ℕ → Meaning
look w name = seen_by (innermost w.frames name) (meaning_in w.globals name)

-- some frame has the name
abbrev pub is_local : PlainWorkspace → List ℕ → Bool
is_local w name = is_some (innermost w.frames name)

-- the global name is shared
abbrev pub is_shared : PlainWorkspace → List ℕ → Bool
is_shared w name = is_shared_in w.globals name

-- a global name is this one, and no frame hides it
abbrev pub is_unhidden : PlainWorkspace → List ℕ → List ℕ → Bool
is_unhidden w name other = same_name name other && not (is_local w other)

-- the workspace with a global name that stands for this
abbrev pub with_global : PlainWorkspace → List ℕ → Meaning → PlainWorkspace
with_global w name meaning = record w { globals = with_meaning w.globals name meaning }

-- whom an offer may be made to: to any, to an auxiliary, or to a user
abbrev pub is_addressee : ℕ → Bool
is_addressee to = to == 0 || is_auxiliary to || is_user_number to

-- the offer is of another name
abbrev pub is_of_another : List ℕ → Remake → Bool
is_of_another name offer = not (same_name name offer.local)

-- an offer of the name is listed: the name is not shared yet, and fewer than 64 offers are listed
abbrev pub takes_offer : PlainWorkspace → List ℕ → Bool
takes_offer w name = not (is_shared w name) && nat_lt (length w.offers) most_offers

-- the offers with one more at the end, where it is listed
abbrev pub offers_with : PlainWorkspace → Remake → List Remake
offers_with w offer = if takes_offer w offer.local then w.offers ++ offer ∷ [] else w.offers

-- a name is shared, with its own copy of the value, and its offer is listed
abbrev pub marked : PlainWorkspace → Remake → Option PlainArray → PlainWorkspace
marked w offer copy = record w { globals = with_meaning w.globals offer.local (Shared copy); offers = offers_with w offer }

-- a name is shared no more, and has this value
abbrev pub unshared : PlainWorkspace → List ℕ → Option PlainArray → PlainWorkspace
unshared w name value = record w { globals = with_value_or_none w.globals name value; offers = filter (is_of_another name) w.offers }

-- a name is shared no more; it has the value handed in, or its own copy where the workspace would weigh too much with that
abbrev pub unmarked : PlainWorkspace → List ℕ → Option PlainArray → PlainWorkspace
unmarked w name value =
    if nat_le (workspace_weight (unshared w name value)) most_weight then unshared w name value
    else unshared w name (own_copy_in w.globals name)

-- a name is shared no more, and has its own copy of the value
abbrev pub unmarked_with_copy : PlainWorkspace → List ℕ → PlainWorkspace
unmarked_with_copy w name = unshared w name (own_copy_in w.globals name)

-- the frames with this value of a name in the innermost of them that has it
abbrev pub in_innermost : List NameTable → List ℕ → Meaning → List NameTable
in_innermost [] name meaning = []
in_innermost (table ∷ tables) name meaning = if is_some (meaning_in table name) then with_meaning table name meaning ∷ tables else table ∷ in_innermost tables name meaning

-- a name stands for this where a look-up finds the name: in a frame, or as a global
abbrev pub given : PlainWorkspace → List ℕ → Meaning → PlainWorkspace
given w name meaning =
    if is_local w name then record w { frames = in_innermost w.frames name meaning }
    else with_global w name meaning

-- a name has this value
abbrev pub assigned : PlainWorkspace → List ℕ → PlainArray → PlainWorkspace
assigned w name value = given w name (Value value)

-- more glyphs were printed
abbrev pub with_printed : PlainWorkspace → ℕ → PlainWorkspace
with_printed w glyphs = record w { printed = w.printed + glyphs }

-- the local names of offers
abbrev pub names_offered : List Remake → List (List ℕ)
names_offered offers = map (λ offer. offer.local) offers

-- offers that may be listed beside these global names: not too many, no name twice, each of a shared name, and to whom one may offer
pub record AreOffers (globals : NameTable) (offers : List Remake) : Type 0 where
  pub count : length offers ≤ most_offers
  pub differ : all_differ (names_offered offers) ≡ true
  pub shared : All (λ offer. is_shared_in globals offer.local ≡ true) offers
  pub addressees : All (λ offer. is_addressee offer.to ≡ true) offers

-- what holds of every workspace: global names ascend and stand for values, functions and shares, local ones for none but values and lines, the listed offers are in order, and all limits are kept
pub record IsWorkspace (w : PlainWorkspace) : Type 0 where
  pub ascending : IsStrictlySortedBy name_order (keys_of w.globals)
  pub globals : (name : List ℕ) → IfSome (meaning_in w.globals name) (IsGlobal name)
  pub locals : All (λ frame. All IsLocal (values_of frame)) w.frames
  pub offers : AreOffers w.globals w.offers
  pub weight : workspace_weight w ≤ most_weight
  pub depth : length w.frames ≤ most_depth
  pub printed : w.printed ≤ most_printed

-- what a workspace keeps beside: the weight of its frames
pub record IsInside (frames_weight : ℕ) (w : PlainWorkspace) : Type 0 where
  pub counted : frames_weight ≡ sum_by table_weight w.frames
  pub rules : IsWorkspace w

-- a value may be assigned to what a name stands for: to no function and no label
abbrev pub is_assignable : Meaning → Bool
is_assignable Nothing = true
is_assignable (Value value) = true
is_assignable (Function function) = false
is_assignable (Label line) = false
is_assignable (Shared copy) = true

-- why a workspace was not made: it would weigh more than it may, or it may weigh so much and memory ran out
abbrev pub IsFull : PlainWorkspace → Fail → Type 0
IsFull w (Report report) = (report ≡ WsFull) × (most_weight < workspace_weight w)
IsFull w WantOfMemory = workspace_weight w ≤ most_weight

-- why a workspace was not changed where that takes no memory: it would weigh more than it may
abbrev pub IsTooHeavy : PlainWorkspace → Fail → Type 0
IsTooHeavy w fail = (fail ≡ Report WsFull) × (most_weight < workspace_weight w)

-- what the global name stands for
abbrev pub global_in : PlainWorkspace → List ℕ → Meaning
global_in w name = unwrap_or (meaning_in w.globals name) Nothing

-- the workspace without these global names
abbrev pub without_globals : PlainWorkspace → List (List ℕ) → PlainWorkspace
without_globals w names = record w { globals = without_names w.globals names }

-- the workspace without a global name
abbrev pub without_global : PlainWorkspace → List ℕ → PlainWorkspace
without_global w name = record w { globals = without_name w.globals name }

-- a look-up finds the name, in a frame or as a global, be there a value or none
abbrev pub is_there : PlainWorkspace → List ℕ → Bool
is_there w name = is_local w name || is_some (meaning_in w.globals name)

-- why an assignment was refused: the name is a label or a function, else the workspace would weigh more than it may, else memory ran out for a name that was not there
abbrev pub IsNotAssigned : Bool → Bool → PlainWorkspace → Fail → Type 0
IsNotAssigned there assignable w (Report report) = MatchBool assignable ((report ≡ WsFull) × (most_weight < workspace_weight w)) (report ≡ Syntax)
IsNotAssigned there assignable w WantOfMemory = (assignable ≡ true) × (there ≡ false) × (workspace_weight w ≤ most_weight)

-- the innermost table that has a name stands behind so many outer ones
pub record IsInnermostAt (frames : List NameTable) (name : List ℕ) (at : ℕ) : Type 0 where
  pub outer : List NameTable
  pub table : NameTable
  pub inner : List NameTable
  pub whole : frames ≡ outer ++ table ∷ inner
  pub place : length outer ≡ at
  pub has : is_some (meaning_in table name) ≡ true
  pub lacking : innermost (reverse inner) name ≡ None

-- why frames were not changed, which takes no memory: they would weigh more than they may
abbrev pub AreTooHeavy : ℕ → List NameTable → Fail → Type 0
AreTooHeavy most frames fail = (fail ≡ Report WsFull) × (most < sum_by table_weight frames)

-- a workspace in which a frame more stands before the others, where the name stands for a function
abbrev pub with_frame_by : Meaning → PlainWorkspace → Args → PlainWorkspace
with_frame_by Nothing w args = w
with_frame_by (Value value) w args = w
with_frame_by (Function function) w args = record w { frames = frame_of function args ∷ w.frames }
with_frame_by (Label line) w args = w
with_frame_by (Shared copy) w args = w

-- a function is entered: its frame stands before the others
abbrev pub with_frame : PlainWorkspace → List ℕ → Args → PlainWorkspace
with_frame w name args = with_frame_by (look w name) w args

-- the arguments are those of the function that a name stands for
abbrev pub AreArgumentsFor : Meaning → Args → Type 0
AreArgumentsFor Nothing args = ⊥
AreArgumentsFor (Value value) args = ⊥
AreArgumentsFor (Function function) args = AreArgumentsOf function.header args
AreArgumentsFor (Label line) args = ⊥
AreArgumentsFor (Shared copy) args = ⊥

-- why a function was not entered: as many are under way as may be, or the workspace would weigh more than it may, or, where fewer are, memory ran out
abbrev pub IsNotEntered : PlainWorkspace → PlainWorkspace → Fail → Type 0
IsNotEntered before after (Report report) = (report ≡ WsFull) × ((most_depth ≤ length before.frames) ⊎ (most_weight < workspace_weight after))
IsNotEntered before after WantOfMemory = length before.frames < most_depth

-- the innermost frame is left
abbrev pub without_frame : PlainWorkspace → PlainWorkspace
without_frame w = record w { frames = drop 1 w.frames }

-- a frame is that of the function that a name stands for
abbrev pub IsFrameFor : Meaning → Args → NameTable → Type 0
IsFrameFor Nothing args frame = ⊥
IsFrameFor (Value value) args frame = ⊥
IsFrameFor (Function function) args frame = frame ≡ frame_of function args
IsFrameFor (Label line) args frame = ⊥
IsFrameFor (Shared copy) args frame = ⊥
