-- What a name of a frame stands for.
use Rattle.std.proofs.Common.{◌≡◌, ℕ, ◌+◌, Bool, true, false, cond, not, List, [], ◌∷◌, ◌++◌, Option, Some, None, fold, refl, sym, ap, ◌∙◌}
use Rattle.std.specs.Prelude.{is_some}
use Rattle.std.specs.List.{list_any}
use Rattle.std.specs.Map.{keys_of}
use Rattle.std.specs.Option.{option_map, option_or, option_to_list}
use Rattle.std.proofs.lemmas.Bool.{and_parts, false≢true}
use Rattle.apl_arrays.specs.Array.{PlainArray}
use Rattle.apl_workspace.specs.Frame.{header_names, with_argument, with_label_of_line, with_labelled_line, with_labels, with_local_name}
use Rattle.apl_workspace.specs.Header.{PlainHeader}
use Rattle.apl_workspace.specs.Label.{AreLabels, label_of, labelled_line, line_among, this_or_later}
use Rattle.apl_workspace.specs.Names.{all_differ}
use Rattle.apl_workspace.specs.declared.args.Args.{Args}
use Rattle.apl_workspace.specs.declared.label.LabelledLine.{LabelledLine}
use Rattle.apl_workspace.specs.Meaning.{NameTable, meaning_in, meaning_of}
use Rattle.apl_arrays.specs.Name.{same_name}
use Rattle.apl_workspace.specs.declared.meaning.Meaning.{Meaning}
use Rattle.apl_workspace.specs.declared.meaning.Meaning.TheVariants.{Label, Nothing}
use Rattle.apl_workspace.proofs.Ascending.{Ascend, found_with, none_ascend, told_by_look_ups, with_ascends}
use Rattle.apl_workspace.proofs.Labelled.{is_among, names_of_labels}
use Rattle.apl_workspace.proofs.NameLaw.{equal_names, from_not}

-- the line of a label, else what stands behind
abbrev pub line_or : Option ℕ → Option Meaning → Option Meaning
line_or line behind = option_or (option_map Label line) behind

here_or_later : (b : Bool) (number : ℕ) (later : Option ℕ) (was behind : Option Meaning) → was ≡ line_or later behind → cond b (Some (Label number)) was ≡ line_or (cond b (Some number) later) behind
here_or_later true number later was behind e = refl
here_or_later false number later was behind e = e

one_label : (label : Option (List ℕ)) (number : ℕ) (names : NameTable) (name : List ℕ) (later : Option ℕ) (behind : Option Meaning) → meaning_in names name ≡ line_or later behind
    → meaning_in (with_label_of_line label number names) name ≡ line_or (this_or_later label name number later) behind
one_label None number names name later behind e = e
one_label (Some label) number names name later behind e = found_with names label (Label number) name ∙ here_or_later (same_name label name) number later (meaning_in names name) behind e

pub labels_first : (number : ℕ) (lines : List (List ℕ)) (names : NameTable) (name : List ℕ) → meaning_in (with_labels number lines names) name ≡ line_or (labelled_line number lines name) (meaning_in names name)
labels_first number [] names name = refl
labels_first number (line ∷ lines) names name = one_label (label_of line) number (with_labels (number + 1) lines names) name (labelled_line (number + 1) lines name) (meaning_in names name) (labels_first (number + 1) lines names name)

-- ---- labels that are kept

label_by : (b : Bool) (line : ℕ) (behind : Option ℕ) (was : Option Meaning) → (b ≡ true → is_some behind ≡ false) → line_or behind (cond b (Some (Label line)) was) ≡ line_or (cond b (Some line) behind) was
label_by true line None was apart = refl
label_by true line (Some later) was apart = absurd (false≢true (sym (apart refl)))
label_by false line behind was apart = refl

-- a label that is put in stands for its line, where all labels differ
labels_stand : (labels : List LabelledLine) (names : NameTable) (name : List ℕ) → all_differ (names_of_labels labels) ≡ true → meaning_in (fold with_labelled_line names labels) name ≡ line_or (line_among labels name) (meaning_in names name)
unfolding all_differ
labels_stand [] names name h = refl
labels_stand (labelled ∷ labels) names name h =
    let parts = and_parts (not (list_any (same_name labelled.label) (names_of_labels labels))) (all_differ (names_of_labels labels)) h in
    let none : is_some (line_among labels labelled.label) ≡ false = sym (is_among labels labelled.label) ∙ from_not (list_any (same_name labelled.label) (names_of_labels labels)) parts.0 in
    labels_stand labels (with_labelled_line names labelled) name parts.1 ∙ ap (line_or (line_among labels name)) (found_with names labelled.label (Label labelled.line) name)
    ∙ label_by (same_name labelled.label name) labelled.line (line_among labels name) (meaning_in names name)
    (λ (e : same_name labelled.label name ≡ true). ap (λ (n : List ℕ). is_some (line_among labels n)) (sym (equal_names labelled.label name e)) ∙ none)

kept_ascend : (labels : List LabelledLine) (names : NameTable) → Ascend (keys_of names) → Ascend (keys_of (fold with_labelled_line names labels))
kept_ascend [] names s = s
kept_ascend (labelled ∷ labels) names s = kept_ascend labels (with_labelled_line names labelled) (with_ascends names labelled.label (Label labelled.line) s)

label_ascends : (label : Option (List ℕ)) (number : ℕ) (names : NameTable) → Ascend (keys_of names) → Ascend (keys_of (with_label_of_line label number names))
label_ascends None number names s = s
label_ascends (Some label) number names s = with_ascends names label (Label number) s

pub lines_ascend : (number : ℕ) (lines : List (List ℕ)) (names : NameTable) → Ascend (keys_of names) → Ascend (keys_of (with_labels number lines names))
lines_ascend number [] names s = s
lines_ascend number (line ∷ lines) names s = label_ascends (label_of line) number (with_labels (number + 1) lines names) (lines_ascend (number + 1) lines names s)

argument_ascends : (names : NameTable) (name : Option (List ℕ)) (value : Option PlainArray) → Ascend (keys_of names) → Ascend (keys_of (with_argument names name value))
argument_ascends names None value s = s
argument_ascends names (Some name) value s = with_ascends names name (meaning_of value) s

locals_ascend : (locals : List (List ℕ)) (names : NameTable) → Ascend (keys_of names) → Ascend (keys_of (fold with_local_name names locals))
locals_ascend [] names s = s
locals_ascend (name ∷ locals) names s = locals_ascend locals (with_local_name names name) (with_ascends names name Nothing s)

pub header_ascends : (header : PlainHeader) (args : Args) → Ascend (keys_of (header_names header args))
header_ascends header args =
    let left = with_argument [] header.left args.left in
    locals_ascend (option_to_list header.result ++ header.locals) (with_argument left header.right args.right) (argument_ascends left header.right args.right (argument_ascends [] header.left args.left none_ascend))

-- the labels that are kept, put in, are those of the lines
pub labels_put : (lines : List (List ℕ)) (labels : List LabelledLine) (header : PlainHeader) (args : Args) → AreLabels lines labels → fold with_labelled_line (header_names header args) labels ≡ with_labels 1 lines (header_names header args)
labels_put lines labels header args h =
    let names = header_names header args in
    let s = header_ascends header args in
    told_by_look_ups (fold with_labelled_line names labels) (with_labels 1 lines names) (kept_ascend labels names s) (lines_ascend 1 lines names s)
    (λ name. labels_stand labels names name h.differ ∙ ap (λ (o : Option ℕ). line_or o (meaning_in names name)) (h.first name) ∙ sym (labels_first 1 lines names name))
