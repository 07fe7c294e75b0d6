-- What a name stands for, given in a frame.
use Rattle.std.proofs.Common.{◌≡◌, ℕ, ◌+◌, ◌-◌, ◌≤◌, Bool, true, false, cond, List, [], ◌∷◌, ◌++◌, Option, Some, None, reverse, sum_by, refl, sym, ap, ◌∙◌, arith}
use Rattle.std.specs.Prelude.{is_some}
use Rattle.std.specs.Option.{option_or}
use Rattle.std.proofs.lemmas.Bool.{false≢true}
use Rattle.apl_arrays.specs.declared.report.Fail.{Fail}
use Rattle.apl_arrays.specs.declared.report.Fail.TheVariants.{Report, WantOfMemory}
use Rattle.apl_workspace.specs.declared.meaning.Meaning.{Meaning}
use Rattle.apl_workspace.specs.declared.remake.Remake.{Remake}
use Rattle.apl_workspace.specs.Limits.{most_weight}
use Rattle.apl_workspace.specs.Meaning.{NameTable, meaning_in, table_weight}
use Rattle.apl_workspace.specs.Workspace.{AreTooHeavy, IsFull, IsInnermostAt, PlainWorkspace, given, in_innermost, innermost, with_global, workspace_weight}
use Rattle.apl_workspace.proofs.Innermost.{reversed, weight_reversed}

first_is_some : (first second : Option Meaning) → is_some first ≡ true → is_some (option_or first second) ≡ true
first_is_some None second e = absurd cc
first_is_some (Some meaning) second e = refl

later_is_some : (first second : Option Meaning) → is_some second ≡ true → is_some (option_or first second) ≡ true
later_is_some None second e = e
later_is_some (Some meaning) second e = refl

found_past : (lacking : List NameTable) (table : NameTable) (others : List NameTable) (name : List ℕ) → is_some (meaning_in table name) ≡ true → is_some (innermost (lacking ++ table ∷ others) name) ≡ true
found_past [] table others name has = first_is_some (meaning_in table name) (innermost others name) has
found_past (first ∷ lacking) table others name has = later_is_some (meaning_in first name) (innermost (lacking ++ table ∷ others) name) (found_past lacking table others name has)

-- a name that some frame has is local
local_at : (frames : List NameTable) (name : List ℕ) (at : ℕ) → IsInnermostAt frames name at → is_some (innermost (reverse frames) name) ≡ true
local_at frames name at h =
    ap (λ (all : List NameTable). is_some (innermost (reverse all) name)) h.whole ∙ ap (λ (all : List NameTable). is_some (innermost all name)) (reversed h.outer h.table h.inner)
    ∙ found_past (reverse h.inner) h.table (reverse h.outer) name h.has

local_case : (b : Bool) (here there : PlainWorkspace) → b ≡ true → cond b here there ≡ here
local_case true here there e = refl
local_case false here there e = absurd (false≢true e)

-- the workspace with these frames
abbrev pub with_frames : NameTable → List Remake → ℕ → List NameTable → PlainWorkspace
with_frames globals offers printed frames = record { globals = globals; frames = frames; offers = offers; printed = printed }

given_here : (globals : NameTable) (offers : List Remake) (printed : ℕ) (frames : List NameTable) (name : List ℕ) (meaning : Meaning) (at : ℕ) → IsInnermostAt frames name at
    → given (with_frames globals offers printed (reverse frames)) name meaning ≡ with_frames globals offers printed (in_innermost (reverse frames) name meaning)
given_here globals offers printed frames name meaning at h =
    local_case (is_some (innermost (reverse frames) name)) (with_frames globals offers printed (in_innermost (reverse frames) name meaning)) (with_global (with_frames globals offers printed (reverse frames)) name meaning) (local_at frames name at h)

pub frames_counted : (weight : ℕ) (frames items : List NameTable) → weight ≡ sum_by table_weight (reverse items) → frames ≡ items → weight ≡ sum_by table_weight frames
frames_counted weight frames items counted e = counted ∙ weight_reversed items ∙ ap (sum_by table_weight) (sym e)

pub given_local : (globals : NameTable) (offers : List Remake) (printed : ℕ) (frames items made : List NameTable) (name : List ℕ) (meaning : Meaning) (at : ℕ) (w : PlainWorkspace) → with_frames globals offers printed (reverse items) ≡ w → frames ≡ items
    → IsInnermostAt frames name at → reverse made ≡ in_innermost (reverse frames) name meaning → with_frames globals offers printed (reverse made) ≡ given w name meaning
given_local globals offers printed frames items made name meaning at w view e h put =
    ap (with_frames globals offers printed) put ∙ sym (given_here globals offers printed frames name meaning at h)
    ∙ ap (λ (all : List NameTable). given (with_frames globals offers printed (reverse all)) name meaning) e ∙ ap (λ (x : PlainWorkspace). given x name meaning) view

-- what the workspace weighs then
pub given_weight : (globals : NameTable) (offers : List Remake) (printed : ℕ) (frames items : List NameTable) (name : List ℕ) (meaning : Meaning) (at : ℕ) (w : PlainWorkspace) → with_frames globals offers printed (reverse items) ≡ w → frames ≡ items
    → IsInnermostAt frames name at → workspace_weight (given w name meaning) ≡ table_weight globals + sum_by table_weight (in_innermost (reverse frames) name meaning)
given_weight globals offers printed frames items name meaning at w view e h =
    sym (ap workspace_weight (sym (given_here globals offers printed frames name meaning at h) ∙ ap (λ (all : List NameTable). given (with_frames globals offers printed (reverse all)) name meaning) e ∙ ap (λ (x : PlainWorkspace). given x name meaning) view))

pub given_fits : (globals : NameTable) (offers : List Remake) (printed : ℕ) (frames items : List NameTable) (name : List ℕ) (meaning : Meaning) (at : ℕ) (w : PlainWorkspace) (weight own : ℕ) → with_frames globals offers printed (reverse items) ≡ w → frames ≡ items
    → IsInnermostAt frames name at → weight ≡ sum_by table_weight (in_innermost (reverse frames) name meaning) → weight ≤ most_weight - own → own ≡ table_weight globals → own ≤ most_weight → workspace_weight (given w name meaning) ≤ most_weight
given_fits globals offers printed frames items name meaning at w weight own view e h is fits o bound = omega (arith, given_weight globals offers printed frames items name meaning at w view e h, is, fits, o, bound)

pub given_full : (globals : NameTable) (offers : List Remake) (printed : ℕ) (frames items : List NameTable) (name : List ℕ) (meaning : Meaning) (at : ℕ) (w : PlainWorkspace) (own : ℕ) (fail : Fail) → with_frames globals offers printed (reverse items) ≡ w → frames ≡ items
    → IsInnermostAt frames name at → own ≡ table_weight globals → own ≤ most_weight → AreTooHeavy (most_weight - own) (in_innermost (reverse frames) name meaning) fail → IsFull (given w name meaning) fail
given_full globals offers printed frames items name meaning at w own (Report report) view e h o bound full = (cc (full.0), omega (arith, given_weight globals offers printed frames items name meaning at w view e h, full.1, o, bound))
given_full globals offers printed frames items name meaning at w own WantOfMemory view e h o bound full = absurd (cc (full.0))
