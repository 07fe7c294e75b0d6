-- The labels of lines, gathered line by line.
use Rattle.std.proofs.Common.{◌≡◌, ℕ, ◌+◌, ◌<◌, Bool, true, false, cond, ◌||◌, List, [], ◌∷◌, ◌++◌, Option, Some, None, length, take, get_or, map, refl, sym, ap, ◌∙◌, subst, arith, length-take}
use Rattle.std.specs.Prelude.{is_some}
use Rattle.std.specs.List.{list_any}
use Rattle.std.specs.Option.{option_or}
use Rattle.std.proofs.lemmas.Bool.{false≢true}
use Rattle.std.proofs.lemmas.List.{length-map, map-append, take_more}
use Rattle.apl_arrays.specs.List.{Listed, glyphs_in}
use Rattle.apl_arrays.specs.Name.{same_name}
use Rattle.apl_workspace.specs.declared.label.LabelledLine.{LabelledLine}
use Rattle.apl_workspace.specs.Label.{AreLabels, label_of, labelled_line, line_among, this_or_later, with_label}
use Rattle.apl_workspace.specs.Names.{all_differ}
use Rattle.apl_workspace.proofs.NameLaw.{differ_push, equal_names, name_flips}

-- the labels themselves
abbrev pub names_of_labels : List LabelledLine → List (List ℕ)
names_of_labels labels = map (λ labelled. labelled.label) labels

none_or : (first : Option ℕ) → option_or first None ≡ first
none_or None = refl
none_or (Some line) = refl

some_or : (first second : Option ℕ) → is_some first ≡ true → option_or first second ≡ first
some_or None second e = absurd (false≢true e)
some_or (Some line) second e = refl

-- ---- a line more

later_by : (b : Bool) (number : ℕ) (first second : Option ℕ) → cond b (Some number) (option_or first second) ≡ option_or (cond b (Some number) first) second
later_by true number first second = refl
later_by false number first second = refl

later_or : (label : Option (List ℕ)) (name : List ℕ) (number : ℕ) (first second : Option ℕ) → this_or_later label name number (option_or first second) ≡ option_or (this_or_later label name number first) second
later_or None name number first second = refl
later_or (Some label) name number first second = later_by (same_name label name) number first second

-- the first line with a label, where one more comes last
one_last : (lines : List (List ℕ)) (last : List ℕ) (number : ℕ) (name : List ℕ) → labelled_line number (lines ++ last ∷ []) name ≡ option_or (labelled_line number lines name) (this_or_later (label_of last) name (length lines + number) None)
one_last [] last number name =
    let e : number ≡ length {A = List ℕ} [] + number = omega arith in
    ap (λ (n : ℕ). this_or_later (label_of last) name n None) e
one_last (line ∷ lines) last number name =
    let e : length lines + (number + 1) ≡ length (line ∷ lines) + number = omega arith in
    ap (this_or_later (label_of line) name number)
    (one_last lines last (number + 1) name ∙ ap (λ (n : ℕ). option_or (labelled_line (number + 1) lines name) (this_or_later (label_of last) name n None)) e)
    ∙ later_or (label_of line) name number (labelled_line (number + 1) lines name) (this_or_later (label_of last) name (length (line ∷ lines) + number) None)

-- ---- a label more

among_last : (labels : List LabelledLine) (last : LabelledLine) (name : List ℕ) → line_among (labels ++ last ∷ []) name ≡ option_or (line_among labels name) (cond (same_name last.label name) (Some last.line) None)
among_last [] last name = refl
among_last (labelled ∷ labels) last name =
    ap (λ (o : Option ℕ). cond (same_name labelled.label name) (Some labelled.line) o) (among_last labels last name)
    ∙ later_by (same_name labelled.label name) labelled.line (line_among labels name) (cond (same_name last.label name) (Some last.line) None)

among_by : (b : Bool) (line : ℕ) (any : Bool) (behind : Option ℕ) → any ≡ is_some behind → b || any ≡ is_some (cond b (Some line) behind)
among_by true line any behind e = refl
among_by false line any behind e = e

-- a label is one of these where a walk over them finds it
pub any_among : (labels : List LabelledLine) (name : List ℕ) → list_any (λ labelled. same_name labelled.label name) labels ≡ is_some (line_among labels name)
any_among [] name = refl
any_among (labelled ∷ labels) name =
    among_by (same_name labelled.label name) labelled.line (list_any (λ other. same_name other.label name) labels) (line_among labels name) (any_among labels name)

-- a label is one of these exactly where it has a line among them
pub is_among : (labels : List LabelledLine) (name : List ℕ) → list_any (same_name name) (names_of_labels labels) ≡ is_some (line_among labels name)
is_among [] name = refl
is_among (labelled ∷ labels) name =
    ap (λ (b : Bool). b || list_any (same_name name) (names_of_labels labels)) (name_flips name labelled.label)
    ∙ among_by (same_name labelled.label name) labelled.line (list_any (same_name name) (names_of_labels labels)) (line_among labels name) (is_among labels name)

covered : (c : Bool) (labels : List LabelledLine) (label name : List ℕ) (number : ℕ) → same_name label name ≡ c → is_some (line_among labels label) ≡ true → line_among labels name ≡ option_or (line_among labels name) (cond c (Some number) None)
covered true labels label name number e there = sym (some_or (line_among labels name) (Some number) (ap (λ (n : List ℕ). is_some (line_among labels n)) (sym (equal_names label name e)) ∙ there))
covered false labels label name number e there = sym (none_or (line_among labels name))

line_more : (b : Bool) (labels : List LabelledLine) (label name : List ℕ) (number : ℕ) → is_some (line_among labels label) ≡ b
    → line_among (cond b labels (labels ++ record { label = label; line = number } ∷ [])) name ≡ option_or (line_among labels name) (cond (same_name label name) (Some number) None)
line_more true labels label name number there = covered (same_name label name) labels label name number refl there
line_more false labels label name number absent = among_last labels (record { label = label; line = number }) name

found_more : (labels : List LabelledLine) (label : Option (List ℕ)) (number : ℕ) (name : List ℕ) → line_among (with_label labels label number) name ≡ option_or (line_among labels name) (this_or_later label name number None)
found_more labels None number name = sym (none_or (line_among labels name))
found_more labels (Some label) number name = line_more (is_some (line_among labels label)) labels label name number refl

differ_by : (b : Bool) (labels : List LabelledLine) (label : List ℕ) (number : ℕ) → is_some (line_among labels label) ≡ b → all_differ (names_of_labels labels) ≡ true
    → all_differ (names_of_labels (cond b labels (labels ++ record { label = label; line = number } ∷ []))) ≡ true
differ_by true labels label number there h = h
differ_by false labels label number absent h =
    ap all_differ (map-append (λ (labelled : LabelledLine). labelled.label) labels (record { label = label; line = number } ∷ []))
    ∙ differ_push (names_of_labels labels) label h (is_among labels label ∙ absent)

differ_more : (labels : List LabelledLine) (label : Option (List ℕ)) (number : ℕ) → all_differ (names_of_labels labels) ≡ true → all_differ (names_of_labels (with_label labels label number)) ≡ true
differ_more labels None number h = h
differ_more labels (Some label) number h = differ_by (is_some (line_among labels label)) labels label number refl h

-- ---- labels of lines

pub no_labels : AreLabels [] []
unfolding all_differ
no_labels = record { first = λ name. refl; differ = refl }

more_labels : (lines : List (List ℕ)) (last : List ℕ) (labels : List LabelledLine) → AreLabels lines labels → AreLabels (lines ++ last ∷ []) (with_label labels (label_of last) (length lines + 1))
more_labels lines last labels h = record {
  first = λ name.
      found_more labels (label_of last) (length lines + 1) name ∙ ap (λ (o : Option ℕ). option_or o (this_or_later (label_of last) name (length lines + 1) None)) (h.first name)
      ∙ sym (one_last lines last 1 name);
  differ = differ_more labels (label_of last) (length lines + 1) h.differ;
}

-- the labels with one line more
pub labels_on : (lines : List (Listed ℕ)) (i number : ℕ) (line : Listed ℕ) (before after : List LabelledLine) → i < length lines → line ≡ get_or lines i line → number ≡ i + 1
    → after ≡ with_label before (label_of (glyphs_in line)) number → AreLabels (map glyphs_in (take i lines)) before → AreLabels (map glyphs_in (take (i + 1) lines)) after
labels_on lines i number line before after lt is counted put h =
    let front = map glyphs_in (take i lines) in
    let whole : front ++ glyphs_in line ∷ [] ≡ map glyphs_in (take (i + 1) lines) =
    ap (λ (l : Listed ℕ). front ++ glyphs_in l ∷ []) is ∙ sym (ap (map glyphs_in) (take_more lines i line lt) ∙ map-append glyphs_in (take i lines) (get_or lines i line ∷ [])) in
    let count : length front + 1 ≡ number = omega (arith, length-map (take i lines) glyphs_in, length-take i lines, lt, counted) in
    subst (λ (all : List (List ℕ)). AreLabels all after) whole
    (subst (λ (labels : List LabelledLine). AreLabels (front ++ glyphs_in line ∷ []) labels)
    (ap (with_label before (label_of (glyphs_in line))) count ∙ sym put)
    (more_labels front (glyphs_in line) before h))
