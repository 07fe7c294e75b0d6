-- Functions that are entered and left.
use Rattle.std.proofs.Common.{◌≡◌, ℕ, ◌+◌, ◌<◌, List, ◌∷◌, ◌++◌, Option, length, take, get_or, fold, reverse, sum_by, sym, ap, ◌∙◌, arith}
use Rattle.std.specs.Option.{option_to_list}
use Rattle.std.proofs.lemmas.List.Sums.{fold-append, fold_more, sum_by-cons}
use Rattle.apl_workspace.specs.declared.args.Args.{Args}
use Rattle.apl_workspace.specs.declared.label.LabelledLine.{LabelledLine}
use Rattle.apl_workspace.specs.declared.meaning.Meaning.{Meaning}
use Rattle.apl_workspace.specs.declared.meaning.Meaning.TheVariants.{Nothing, Value, Function, Label, Shared}
use Rattle.apl_workspace.specs.declared.remake.Remake.{Remake}
use Rattle.apl_workspace.specs.Frame.{with_labelled_line, with_local_name}
use Rattle.apl_workspace.specs.Meaning.{NameTable, table_weight}
use Rattle.apl_workspace.specs.Workspace.{IsFrameFor, PlainWorkspace, with_frame_by, workspace_weight}
use Rattle.apl_workspace.proofs.Giving.{with_frames}

-- ---- the frame of a function

-- a label more
pub labels_on : (names before after : NameTable) (labels : List LabelledLine) (i : ℕ) (labelled : LabelledLine) → i < length labels → labelled ≡ get_or labels i labelled → after ≡ with_labelled_line before labelled → before ≡ fold with_labelled_line names (take i labels)
    → after ≡ fold with_labelled_line names (take (i + 1) labels)
labels_on names before after labels i labelled lt is put so =
    put ∙ ap (λ n. with_labelled_line n labelled) so ∙ ap (with_labelled_line (fold with_labelled_line names (take i labels))) is ∙ sym (fold_more with_labelled_line names labels i labelled lt)

-- a local name more
pub locals_on : (names before after : NameTable) (locals : List (List ℕ)) (i : ℕ) (name : List ℕ) → i < length locals → name ≡ get_or locals i name → after ≡ with_local_name before name → before ≡ fold with_local_name names (take i locals)
    → after ≡ fold with_local_name names (take (i + 1) locals)
locals_on names before after locals i name lt is put so =
    put ∙ ap (λ n. with_local_name n name) so ∙ ap (with_local_name (fold with_local_name names (take i locals))) is ∙ sym (fold_more with_local_name names locals i name lt)

-- the result and the local names together
pub result_and_locals : (names : NameTable) (outcome : Option (List ℕ)) (locals : List (List ℕ)) → fold with_local_name (fold with_local_name names (option_to_list outcome)) locals ≡ fold with_local_name names (option_to_list outcome ++ locals)
result_and_locals names outcome locals = sym (fold-append with_local_name names (option_to_list outcome) locals)

-- ---- a frame more, and one less

-- what stands before the others
pub framed : (globals : NameTable) (offers : List Remake) (printed : ℕ) (frames : List NameTable) (frame : NameTable) (meaning : Meaning) (args : Args) → IsFrameFor meaning args frame
    → with_frames globals offers printed (frame ∷ frames) ≡ with_frame_by meaning (with_frames globals offers printed frames) args
framed globals offers printed frames frame Nothing args h = absurd h
framed globals offers printed frames frame (Value value) args h = absurd h
framed globals offers printed frames frame (Function function) args h = ap (λ (f : NameTable). with_frames globals offers printed (f ∷ frames)) h
framed globals offers printed frames frame (Label line) args h = absurd h
framed globals offers printed frames frame (Shared copy) args h = absurd h

-- what a workspace with a frame more weighs
pub entered_weight : (globals : NameTable) (offers : List Remake) (printed weight : ℕ) (items : List NameTable) (frame : NameTable) (w : PlainWorkspace) (meaning : Meaning) (args : Args) → with_frames globals offers printed (reverse items) ≡ w → weight ≡ sum_by table_weight (reverse items)
    → IsFrameFor meaning args frame → workspace_weight (with_frame_by meaning w args) ≡ table_weight globals + (weight + table_weight frame)
entered_weight globals offers printed weight items frame w meaning args view counted h =
    let whole = framed globals offers printed (reverse items) frame meaning args h ∙ ap (λ (x : PlainWorkspace). with_frame_by meaning x args) view in
    sym (ap workspace_weight whole) ∙ omega (arith, sum_by-cons table_weight frame (reverse items), counted)
