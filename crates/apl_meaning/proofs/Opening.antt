-- Where no name is shared, the first act of a part is an offer or a query.
use Rattle.std.proofs.Common.{◌≡◌, ℕ, ◌+◌, ◌⊎◌, Bool, true, false, cond, List, [], ◌∷◌, ◌++◌, drop, inl, inr, refl, ap, ◌∙◌, append_assoc}
use Rattle.std.specs.Prelude.{Option, Some, None, Result, Ok, Err, nat_le, fold, is_some, unwrap_or, if◌then◌else◌}
use Rattle.std.specs.Map.{lookup}
use Rattle.std.specs.Option.{option_or, option_to_list}
use Rattle.std.specs.Ordering.{match_ordering}
use Rattle.std.specs.declared.cmp.Ordering.{Ordering}
use Rattle.std.specs.declared.cmp.Ordering.TheVariants.{Less, Equal, Greater}
use Rattle.apl_arrays.specs.Array.{PlainArray}
use Rattle.apl_arrays.specs.declared.report.Report.{Report}
use Rattle.apl_arrays.specs.declared.report.Report.TheVariants.{WsFull}
use Rattle.apl_workspace.specs.Frame.{frame_of, header_names, with_argument, with_label_of_line, with_labels, with_local_name}
use Rattle.apl_workspace.specs.Function.{PlainFunction}
use Rattle.apl_workspace.specs.Label.{label_of}
use Rattle.apl_workspace.specs.Limits.{most_weight}
use Rattle.apl_workspace.specs.Meaning.{NameTable, is_shared_meaning, meaning_in, meaning_of, with_meaning}
use Rattle.apl_arrays.specs.Name.{name_order, same_name}
use Rattle.apl_workspace.specs.Workspace.{PlainWorkspace, assigned, in_innermost, innermost, is_local, is_shared, look, seen_by, with_frame, with_frame_by, with_global, without_frame, workspace_weight}
use Rattle.apl_workspace.specs.declared.args.Args.{Args}
use Rattle.apl_workspace.specs.declared.meaning.Meaning.{Meaning}
use Rattle.apl_workspace.specs.declared.meaning.Meaning.TheVariants as meaning
use Rattle.sv_events.specs.Answer.{PlainAnswer}
use Rattle.sv_events.specs.Fits.{ends_all}
use Rattle.sv_events.specs.Row.{act_row, answer_row}
use Rattle.sv_events.specs.declared.event.Act.{Act}
use Rattle.sv_events.specs.declared.event.Act.TheVariants as act
use Rattle.apl_meaning.specs.State.{State, Outcome, gives, refuses, asks, and_then, state_of, outcome_of, with_workspace}
use Rattle.apl_meaning.specs.Answers.{answered_act, report_of_kind, answer_taken_from, unless_ended}
use Rattle.apl_meaning.specs.Laws.{IsAfter, IsOpening, NoneShared, NoneSharedIn, SharesNothing}
use Rattle.apl_meaning.proofs.Steady.{IsSteady, answered, both, by_workspace, given as steady_given, refused}

-- ---- tables

-- a name of a table that stands for something is not shared
abbrev pub FoundUnshared : Option Meaning → Type 0
FoundUnshared None = Unit {0}
FoundUnshared (Some m) = is_shared_meaning m ≡ false

found_by : (b : Bool) (m : Meaning) (o : Option Meaning) → is_shared_meaning m ≡ false → FoundUnshared o → FoundUnshared (cond b (Some m) o)
found_by true m o h k = h
found_by false m o h k = k

found : (names : NameTable) (name : List ℕ) → NoneShared names → FoundUnshared (meaning_in names name)
found [] name h = tt
found (entry ∷ names) name h = found_by (same_name name entry.0) entry.1 (lookup (same_name name) names) h.0 (found names name h.1)

either_unshared : (first second : Option Meaning) → FoundUnshared first → FoundUnshared second → FoundUnshared (option_or first second)
either_unshared None second h k = k
either_unshared (Some m) second h k = h

innermost_unshared : (tables : List NameTable) (name : List ℕ) → NoneSharedIn tables → FoundUnshared (innermost tables name)
innermost_unshared [] name h = tt
innermost_unshared (table ∷ tables) name h = either_unshared (meaning_in table name) (innermost tables name) (found table name h.0) (innermost_unshared tables name h.1)

seen_unshared : (local global : Option Meaning) → FoundUnshared local → FoundUnshared global → is_shared_meaning (seen_by local global) ≡ false
seen_unshared None None h k = refl
seen_unshared None (Some m) h k = k
seen_unshared (Some m) global h k = h

-- what a name stands for is not shared
pub look_unshared : (w : PlainWorkspace) (name : List ℕ) → SharesNothing w → is_shared_meaning (look w name) ≡ false
look_unshared w name h = seen_unshared (innermost w.frames name) (meaning_in w.globals name) (innermost_unshared w.frames name h.frames) (found w.globals name h.globals)

global_unshared_by : (o : Option Meaning) → FoundUnshared o → is_shared_meaning (unwrap_or o meaning.Nothing) ≡ false
global_unshared_by None h = refl
global_unshared_by (Some m) h = h

pub not_shared : (w : PlainWorkspace) (name : List ℕ) → SharesNothing w → is_shared w name ≡ false
not_shared w name h = global_unshared_by (meaning_in w.globals name) (found w.globals name h.globals)

put_by : (o : Ordering) (first second third : NameTable) → NoneShared first → NoneShared second → NoneShared third → NoneShared (match_ordering o first second third)
put_by Less first second third h k l = h
put_by Equal first second third h k l = k
put_by Greater first second third h k l = l

-- a name that is put in and is not shared leaves none shared
pub put : (names : NameTable) (name : List ℕ) (m : Meaning) → NoneShared names → is_shared_meaning m ≡ false → NoneShared (with_meaning names name m)
put [] name m h k = (k, tt)
put (entry ∷ names) name m h k =
    put_by (name_order name entry.0) ((name, m) ∷ entry ∷ names) ((entry.0, m) ∷ names) (entry ∷ with_meaning names name m) (k, h) (k, h.1) (h.0, put names name m h.1 k)

put_inside_by : (b : Bool) (first second : List NameTable) → NoneSharedIn first → NoneSharedIn second → NoneSharedIn (cond b first second)
put_inside_by true first second h k = h
put_inside_by false first second h k = k

put_inside : (tables : List NameTable) (name : List ℕ) (m : Meaning) → NoneSharedIn tables → is_shared_meaning m ≡ false → NoneSharedIn (in_innermost tables name m)
put_inside [] name m h k = tt
put_inside (table ∷ tables) name m h k =
    put_inside_by (is_some (meaning_in table name)) (with_meaning table name m ∷ tables) (table ∷ in_innermost tables name m) (put table name m h.0 k, h.1) (h.0, put_inside tables name m h.1 k)

given_by : (b : Bool) (first second : PlainWorkspace) → SharesNothing first → SharesNothing second → SharesNothing (cond b first second)
given_by true first second h k = h
given_by false first second h k = k

-- an assignment leaves none shared
pub assigned_unshared : (w : PlainWorkspace) (name : List ℕ) (value : PlainArray) → SharesNothing w → SharesNothing (assigned w name value)
assigned_unshared w name value h =
    given_by (is_local w name) (record w { frames = in_innermost w.frames name (meaning.Value value) }) (with_global w name (meaning.Value value))
    (record { globals = h.globals; frames = put_inside w.frames name (meaning.Value value) h.frames refl }) (record { globals = put w.globals name (meaning.Value value) h.globals refl; frames = h.frames })

-- ---- frames

argument_unshared : (value : Option PlainArray) → is_shared_meaning (meaning_of value) ≡ false
argument_unshared None = refl
argument_unshared (Some value) = refl

with_argument_unshared : (names : NameTable) (name : Option (List ℕ)) (value : Option PlainArray) → NoneShared names → NoneShared (with_argument names name value)
with_argument_unshared names None value h = h
with_argument_unshared names (Some name) value h = put names name (meaning_of value) h (argument_unshared value)

locals_unshared : (names : NameTable) (list : List (List ℕ)) → NoneShared names → NoneShared (fold with_local_name names list)
locals_unshared names [] h = h
locals_unshared names (name ∷ list) h = locals_unshared (with_local_name names name) list (put names name meaning.Nothing h refl)

label_unshared : (label : Option (List ℕ)) (line : ℕ) (names : NameTable) → NoneShared names → NoneShared (with_label_of_line label line names)
label_unshared None line names h = h
label_unshared (Some label) line names h = put names label (meaning.Label line) h refl

labels_unshared : (number : ℕ) (lines : List (List ℕ)) (names : NameTable) → NoneShared names → NoneShared (with_labels number lines names)
labels_unshared number [] names h = h
labels_unshared number (line ∷ lines) names h = label_unshared (label_of line) number (with_labels (number + 1) lines names) (labels_unshared (number + 1) lines names h)

frame_unshared : (function : PlainFunction) (args : Args) → NoneShared (frame_of function args)
frame_unshared function args =
    labels_unshared 1 function.lines (header_names function.header args)
    (locals_unshared (with_argument (with_argument [] function.header.left args.left) function.header.right args.right) (option_to_list function.header.result ++ function.header.locals)
    (with_argument_unshared (with_argument [] function.header.left args.left) function.header.right args.right (with_argument_unshared [] function.header.left args.left tt)))

entered_unshared_by : (m : Meaning) (w : PlainWorkspace) (args : Args) → SharesNothing w → SharesNothing (with_frame_by m w args)
entered_unshared_by meaning.Nothing w args h = h
entered_unshared_by (meaning.Value value) w args h = h
entered_unshared_by (meaning.Function function) w args h = record { globals = h.globals; frames = (frame_unshared function args, h.frames) }
entered_unshared_by (meaning.Label line) w args h = h
entered_unshared_by (meaning.Shared copy) w args h = h

pub entered_unshared : (w : PlainWorkspace) (name : List ℕ) (args : Args) → SharesNothing w → SharesNothing (with_frame w name args)
entered_unshared w name args h = entered_unshared_by (look w name) w args h

left_frames : (tables : List NameTable) → NoneSharedIn tables → NoneSharedIn (drop 1 tables)
left_frames [] h = tt
left_frames (table ∷ tables) h = h.1

pub left_unshared : (w : PlainWorkspace) → SharesNothing w → SharesNothing (without_frame w)
left_unshared w h = record { globals = h.globals; frames = left_frames w.frames h.frames }

-- ---- parts

-- no act was asked yet, and no name is shared, or the act that is asked is an opening one
abbrev pub AsksNoneYet : {T : Type 0} → State → Outcome T → Type 0
AsksNoneYet s (gives v t) = (t.asked ≡ s.asked) × SharesNothing t.workspace
AsksNoneYet s (refuses r t) = t.asked ≡ s.asked
AsksNoneYet s (asks a t) = (t.asked ≡ s.asked) × IsOpening a

-- the first act that was asked is an opening one
pub record AskedOpening (s t : State) : Type 0 where
  pub first : Act
  pub acts : List Act
  pub asked : t.asked ≡ s.asked ++ first ∷ acts
  pub opening : IsOpening first

abbrev pub OpensFirst : {T : Type 0} → State → Outcome T → Type 0
OpensFirst s o = AsksNoneYet s o ⊎ AskedOpening s (state_of o)

-- where no name is shared, the first act of a part is an opening one
abbrev pub Opens : {T : Type 0} → (State → Outcome T) → Type 0
Opens f = (s : State) → SharesNothing s.workspace → OpensFirst s (f s)

weighed_opens : (b : Bool) (w : PlainWorkspace) (s : State) → SharesNothing w → OpensFirst {T = Unit {0}} s (if b then gives tt (record s { workspace = w }) else refuses WsFull s)
weighed_opens true w s h = inl (refl, h)
weighed_opens false w s h = inl refl

-- another workspace in which none is shared
pub opens_weighed : (w : PlainWorkspace → PlainWorkspace) → ((v : PlainWorkspace) → SharesNothing v → SharesNothing (w v)) → Opens {T = Unit {0}} (λ (s : State). with_workspace (w s.workspace) s)
opens_weighed w keeps s h = weighed_opens (nat_le (workspace_weight (w s.workspace)) most_weight) (w s.workspace) s (keeps s.workspace h)

-- what is asked after an opening act does not change that
grown : {s t u : State} → AskedOpening s t → IsAfter t u → AskedOpening s u
grown {s} {t} {u} k h = record {
  first = k.first;
  acts = k.acts ++ h.acts;
  asked = h.asked ∙ ap (λ (before : List Act). before ++ h.acts) k.asked ∙ append_assoc s.asked (k.first ∷ k.acts) h.acts;
  opening = k.opening;
}

pub moved : {T : Type 0} (s t : State) → t.asked ≡ s.asked → (o : Outcome T) → OpensFirst t o → OpensFirst s o
moved s t e (gives v u) k =
    elim k [
      | inl h ↦ inl (h.0 ∙ e, h.1)
      | inr a ↦ inr (record { first = a.first; acts = a.acts; asked = a.asked ∙ ap (λ (before : List Act). before ++ a.first ∷ a.acts) e; opening = a.opening })
    ]
moved s t e (refuses r u) k =
    elim k [
      | inl h ↦ inl (h ∙ e)
      | inr a ↦ inr (record { first = a.first; acts = a.acts; asked = a.asked ∙ ap (λ (before : List Act). before ++ a.first ∷ a.acts) e; opening = a.opening })
    ]
moved s t e (asks b u) k =
    elim k [
      | inl h ↦ inl (h.0 ∙ e, h.1)
      | inr a ↦ inr (record { first = a.first; acts = a.acts; asked = a.asked ∙ ap (λ (before : List Act). before ++ a.first ∷ a.acts) e; opening = a.opening })
    ]

opens_joined : {A B : Type 0} (s : State) (o : Outcome A) (g : A → State → Outcome B) → ((v : A) → IsSteady (g v)) → ((v : A) → Opens (g v)) → OpensFirst s o → OpensFirst s (and_then o g)
opens_joined s (gives v t) g steady h k = elim k [ inl x ↦ moved s t x.0 (g v t) (h v t x.1) | inr a ↦ inr (grown a ((steady v).after t)) ]
opens_joined s (refuses r t) g steady h k = k
opens_joined s (asks a t) g steady h k = k

-- an opening act was asked, unless the line ended or the act waits
abbrev pub OpensSurely : {T : Type 0} → State → Outcome T → Type 0
OpensSurely s (gives v t) = AskedOpening s t
OpensSurely s (refuses r t) = AskedOpening s t
OpensSurely s (asks a t) = (t.asked ≡ s.asked) × IsOpening a

surely_joined : {B : Type 0} (s : State) (o : Outcome PlainAnswer) (g : PlainAnswer → State → Outcome B) → ((v : PlainAnswer) → IsSteady (g v)) → OpensSurely s o → OpensFirst s (and_then o g)
surely_joined s (gives v t) g steady k = inr (grown k ((steady v).after t))
surely_joined s (refuses r t) g steady k = inr k
surely_joined s (asks a t) g steady k = inl k

surely_by : (ended : Option Report) (answer : PlainAnswer) (s : State) (a : Act) (list : List PlainAnswer) → IsOpening a → OpensSurely s (unless_ended ended answer (record s { asked = s.asked ++ a ∷ []; answers = list }))
surely_by None answer s a list h = record { first = a; acts = []; asked = refl; opening = h }
surely_by (Some report) answer s a list h = record { first = a; acts = []; asked = refl; opening = h }

surely : (list : List PlainAnswer) (s : State) (a : Act) → IsOpening a → OpensSurely s (and_then (answer_taken_from list a s) (λ answer t. unless_ended (report_of_kind (answer_row answer).row.kind) answer t))
surely [] s a h = (refl, h)
surely (answer ∷ list) s a h = surely_by (report_of_kind (answer_row answer).row.kind) answer s a list h

-- ---- parts that are steady and open

-- a part is steady, and where no name is shared its first act is an opening one
pub record IsGood {T : Type 0} (f : State → Outcome T) : Type 0 where
  pub steady : IsSteady f
  pub opens : Opens f

pub opens_given : {T : Type 0} (v : T) → Opens (λ (s : State). gives v s)
opens_given v s h = inl (refl, h)

pub opens_refused : (T : Type 0) (r : Report) → Opens {T = T} (λ (s : State). refuses r s)
opens_refused T r s h = inl refl

pub good_given : {T : Type 0} (v : T) → IsGood (λ (s : State). gives v s)
good_given v = record { steady = steady_given v; opens = λ s h. inl (refl, h) }

pub good_refused : {T : Type 0} (r : Report) → IsGood {T = T} (λ (s : State). refuses r s)
good_refused r = record { steady = refused r; opens = λ s h. inl refl }

pub good_resulting : {T : Type 0} (r : Result T Report) → IsGood (λ (s : State). outcome_of r s)
good_resulting (Ok v) = good_given v
good_resulting (Err r) = good_refused r

pub good_both : {A B : Type 0} {f : State → Outcome A} {g : A → State → Outcome B} → IsGood f → ((v : A) → IsGood (g v)) → IsGood (λ (s : State). and_then (f s) g)
good_both {A} {B} {f} {g} hf hg = record { steady = both hf.steady (λ v. (hg v).steady); opens = λ s h. opens_joined s (f s) g (λ v. (hg v).steady) (λ v. (hg v).opens) (hf.opens s h) }

-- an opening act is no leave
opening_stays : (a : Act) → IsOpening a → ends_all (act_row a).row.ends ≡ false
opening_stays (act.Offer to local surrogate value) h = refl
opening_stays (act.Retract name) h = absurd h
opening_stays (act.SetControl name control) h = absurd h
opening_stays (act.AskControl name) h = absurd h
opening_stays (act.AskState name) h = absurd h
opening_stays (act.AskDegree name) h = absurd h
opening_stays act.AskParties h = refl
opening_stays (act.AskNames party) h = refl
opening_stays (act.Set name value) h = absurd h
opening_stays (act.Use name) h = absurd h
opening_stays act.Leave h = absurd h

-- an opening act, and whatever follows
pub good_opening : {B : Type 0} {g : PlainAnswer → State → Outcome B} (a : Act) → IsOpening a → ((v : PlainAnswer) → IsSteady (g v)) → IsGood (λ (s : State). and_then (answered_act a s) g)
good_opening {B} {g} a h steady = record { steady = both (answered a (opening_stays a h)) steady; opens = λ s none. surely_joined s (answered_act a s) g steady (surely s.answers s a h) }

pub good_by_workspace : {T : Type 0} {f : PlainWorkspace → State → Outcome T} → ((w : PlainWorkspace) → IsSteady (f w)) → ((w : PlainWorkspace) → SharesNothing w → Opens (f w)) → IsGood (λ (s : State). f s.workspace s)
good_by_workspace {T} {f} steady opens = record { steady = by_workspace steady; opens = λ s h. opens s.workspace h s h }

pub opens_by_bool : {T : Type 0} (b : Bool) (f g : State → Outcome T) → Opens f → Opens g → Opens (λ (s : State). if b then f s else g s)
opens_by_bool true f g hf hg = hf
opens_by_bool false f g hf hg = hg
