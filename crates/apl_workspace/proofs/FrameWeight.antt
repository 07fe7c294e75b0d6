-- What the frame of a function weighs.
use Rattle.std.proofs.Common.{◌≡◌, ℕ, ◌+◌, Bool, true, false, cond, List, [], ◌∷◌, ◌++◌, Option, Some, None, refl, sym, ap, ◌∙◌, append_assoc, arith}
use Rattle.std.specs.Prelude.{is_some, unwrap_or}
use Rattle.std.specs.List.{list_any}
use Rattle.std.specs.Map.{keys_of, values_of}
use Rattle.std.specs.Option.{option_map, option_to_list}
use Rattle.std.proofs.lemmas.Bool.{or_parts}
use Rattle.std.proofs.lemmas.List.Sums.{sum_by-cons}
use Rattle.std.proofs.lemmas.Map.Keys.{sorted_tail}
use Rattle.apl_arrays.specs.Array.{PlainArray}
use Rattle.apl_arrays.specs.Name.{name_order, same_name}
use Rattle.apl_workspace.specs.declared.args.Args.{Args}
use Rattle.apl_workspace.specs.declared.label.LabelledLine.{LabelledLine}
use Rattle.apl_workspace.specs.declared.meaning.Meaning.{Meaning}
use Rattle.apl_workspace.specs.declared.meaning.Meaning.TheVariants.{Function, Nothing}
use Rattle.apl_workspace.specs.Frame.{argument_or, argument_weight, frame_of, header_names, with_labels}
use Rattle.apl_workspace.specs.Function.{IsFunction, PlainFunction}
use Rattle.apl_workspace.specs.Header.{PlainHeader}
use Rattle.apl_workspace.specs.Label.{AreLabels, labelled_line, line_among}
use Rattle.apl_workspace.specs.Meaning.{NameTable, meaning_in, meaning_of, meaning_weight, table_weight, weight_in, without_name}
use Rattle.apl_workspace.specs.Names.{all_differ}
use Rattle.apl_workspace.specs.Workspace.{PlainWorkspace, with_frame_by, workspace_weight}
use Rattle.apl_workspace.proofs.Ascending.{Ascend, behind_by, first_found, found_without, without_ascends}
use Rattle.apl_workspace.proofs.FrameLaw.{header_ascends, labels_first, line_or, lines_ascend}
use Rattle.apl_workspace.proofs.HeaderLaw.{header_is_computed}
use Rattle.apl_workspace.proofs.Looks.{header_found}
use Rattle.apl_workspace.proofs.NameLaw.{first_differs, name_flips, own_name}
use Rattle.apl_workspace.proofs.Tables.{weight_without}

-- what something weighs that was found, or was not
abbrev weight_of : Option Meaning → ℕ
weight_of found = unwrap_or (option_map meaning_weight found) 0

-- ---- a table of which two names at most weigh something

weighs_nothing : (names : NameTable) → Ascend (keys_of names) → ((name : List ℕ) → weight_in names name ≡ 0) → table_weight names ≡ 0
weighs_nothing [] s none = refl
weighs_nothing (e ∷ es) s none =
    let first : meaning_weight e.1 ≡ 0 = sym (ap weight_of (first_found e es)) ∙ none e.0 in
    let rest = weighs_nothing es (sorted_tail name_order e.0 (keys_of es) s) (λ name. behind name (same_name name e.0) refl) in
    omega (arith, first, rest, sum_by-cons meaning_weight e.1 (values_of es))
  where
    behind : (name : List ℕ) (b : Bool) → same_name name e.0 ≡ b → weight_in es name ≡ 0
    behind name true p = ap weight_of (behind_by true name e es p s)
    behind name false p = ap weight_of (behind_by false name e es p s) ∙ none name

-- a name that was taken out weighs nothing, and all others what they did
pub left_out : (names : NameTable) (first name : List ℕ) (b : Bool) → Ascend (keys_of names) → same_name first name ≡ b → weight_in (without_name names first) name ≡ cond b 0 (weight_in names name)
left_out names first name true s p = ap weight_of (found_without names first name s ∙ ap (λ (b : Bool). cond b None (meaning_in names name)) p)
left_out names first name false s p = ap weight_of (found_without names first name s ∙ ap (λ (b : Bool). cond b None (meaning_in names name)) p)

one_name : (names : NameTable) (first : List ℕ) → Ascend (keys_of names) → ((name : List ℕ) → same_name first name ≡ false → weight_in names name ≡ 0) → table_weight names ≡ weight_in names first
one_name names first s none =
    omega (arith, weight_without names first, weighs_nothing (without_name names first) (without_ascends names first s) (λ name. others name (same_name first name) refl))
  where
    others : (name : List ℕ) (b : Bool) → same_name first name ≡ b → weight_in (without_name names first) name ≡ 0
    others name true p = left_out names first name true s p
    others name false p = left_out names first name false s p ∙ none name p

two_names : (names : NameTable) (first second : List ℕ) → Ascend (keys_of names) → same_name first second ≡ false → ((name : List ℕ) → same_name first name ≡ false → same_name second name ≡ false → weight_in names name ≡ 0)
    → table_weight names ≡ weight_in names first + weight_in names second
two_names names first second s apart none =
    let rest = one_name (without_name names first) second (without_ascends names first s) (λ name e. others name (same_name first name) refl e) in
    omega (arith, weight_without names first, rest, left_out names first second false s apart)
  where
    others : (name : List ℕ) (b : Bool) → same_name first name ≡ b → same_name second name ≡ false → weight_in (without_name names first) name ≡ 0
    others name true p e = left_out names first name true s p
    others name false p e = left_out names first name false s p ∙ none name p e

-- ---- the names of a frame

-- the argument has this name
abbrev named : Option (List ℕ) → List ℕ → Bool
named None name = false
named (Some own) name = same_name own name

-- what a name weighs that is a label or none, a local name or none, the right argument or none, the left one or none
abbrev by_tests : Bool → Bool → Bool → Bool → ℕ → ℕ → ℕ
by_tests label local right left l r = cond label 0 (cond local 0 (cond right r (cond left l 0)))

line_weighs : (line : Option ℕ) (behind : Option Meaning) → weight_of (line_or line behind) ≡ cond (is_some line) 0 (weight_of behind)
line_weighs None behind = refl
line_weighs (Some line) behind = refl

one_weighs : (b : Bool) (meaning : Meaning) (behind : Option Meaning) → weight_of (cond b (Some meaning) behind) ≡ cond b (meaning_weight meaning) (weight_of behind)
one_weighs true meaning behind = refl
one_weighs false meaning behind = refl

argument_weighs : (argument : Option (List ℕ)) (value : Option PlainArray) (name : List ℕ) (behind : Option Meaning) → weight_of (argument_or argument value name behind) ≡ cond (named argument name) (meaning_weight (meaning_of value)) (weight_of behind)
argument_weighs None value name behind = refl
argument_weighs (Some own) value name behind = one_weighs (same_name own name) (meaning_of value) behind

-- what a name weighs in a frame
name_weighs : (lines : List (List ℕ)) (labels : List LabelledLine) (header : PlainHeader) (args : Args) (name : List ℕ) → AreLabels lines labels → weight_in (with_labels 1 lines (header_names header args)) name
    ≡ by_tests (is_some (line_among labels name)) (list_any (same_name name) (option_to_list header.result ++ header.locals)) (named header.right name) (named header.left name) (meaning_weight (meaning_of args.left)) (meaning_weight (meaning_of args.right))
name_weighs lines labels header args name h =
    let names = header_names header args in
    let local = list_any (same_name name) (option_to_list header.result ++ header.locals) in
    let r = meaning_weight (meaning_of args.right) in
    let left = argument_or header.left args.left name None in
    let right = argument_or header.right args.right name left in
    ap weight_of (labels_first 1 lines names name) ∙ line_weighs (labelled_line 1 lines name) (meaning_in names name)
    ∙ ap (λ (o : Option ℕ). cond (is_some o) 0 (weight_in names name)) (sym (h.first name))
    ∙ ap (λ (n : ℕ). cond (is_some (line_among labels name)) 0 n)
    (ap weight_of (header_found header args name) ∙ one_weighs local Nothing right
    ∙ ap (λ (n : ℕ). cond local 0 n) (argument_weighs header.right args.right name left ∙ ap (λ (n : ℕ). cond (named header.right name) r n) (argument_weighs header.left args.left name None)))

nothing_by : (label local : Bool) → ◌≡◌ {A = ℕ} (cond label 0 (cond local 0 0)) 0
nothing_by true local = refl
nothing_by false true = refl
nothing_by false false = refl

at_none : (label local right left : Bool) (l r : ℕ) → right ≡ false → left ≡ false → by_tests label local right left l r ≡ 0
at_none label local right left l r e f = ap (λ (b : Bool). by_tests label local b left l r) e ∙ ap (λ (b : Bool). by_tests label local false b l r) f ∙ nothing_by label local

at_right : (label local right left : Bool) (l r : ℕ) → local ≡ false → right ≡ true → by_tests label local right left l r ≡ cond label 0 r
at_right label local right left l r e f = ap (λ (b : Bool). by_tests label b right left l r) e ∙ ap (λ (b : Bool). by_tests label false b left l r) f

at_left : (label local right left : Bool) (l r : ℕ) → local ≡ false → right ≡ false → left ≡ true → by_tests label local right left l r ≡ cond label 0 l
at_left label local right left l r e f g = ap (λ (b : Bool). by_tests label b right left l r) e ∙ ap (λ (b : Bool). by_tests label false b left l r) f ∙ ap (λ (b : Bool). by_tests label false false b l r) g

parts_weigh : (labels : List LabelledLine) (left right : Option (List ℕ)) (more : List (List ℕ)) (l r : Option PlainArray) (frame : NameTable) → Ascend (keys_of frame) → all_differ (option_to_list left ++ (option_to_list right ++ more)) ≡ true
    → ((name : List ℕ) → weight_in frame name ≡ by_tests (is_some (line_among labels name)) (list_any (same_name name) more) (named right name) (named left name) (meaning_weight (meaning_of l)) (meaning_weight (meaning_of r)))
    → argument_weight labels left l + argument_weight labels right r ≡ table_weight frame
parts_weigh labels None None more l r frame s differ is =
    omega (arith, weighs_nothing frame s (λ name. is name ∙ nothing_by (is_some (line_among labels name)) (list_any (same_name name) more)))
parts_weigh labels None (Some b) more l r frame s differ is =
    let lw = meaning_weight (meaning_of l) in
    let rw = meaning_weight (meaning_of r) in
    let own = is b ∙ at_right (is_some (line_among labels b)) (list_any (same_name b) more) (same_name b b) false lw rw (first_differs b more differ).0 (own_name b) in
    omega (arith, one_name frame b s (λ name e. is name ∙ at_none (is_some (line_among labels name)) (list_any (same_name name) more) (same_name b name) false lw rw e refl), own)
parts_weigh labels (Some a) None more l r frame s differ is =
    let lw = meaning_weight (meaning_of l) in
    let rw = meaning_weight (meaning_of r) in
    let own = is a ∙ at_left (is_some (line_among labels a)) (list_any (same_name a) more) false (same_name a a) lw rw (first_differs a more differ).0 refl (own_name a) in
    omega (arith, one_name frame a s (λ name e. is name ∙ at_none (is_some (line_among labels name)) (list_any (same_name name) more) false (same_name a name) lw rw refl e), own)
parts_weigh labels (Some a) (Some b) more l r frame s differ is =
    let lw = meaning_weight (meaning_of l) in
    let rw = meaning_weight (meaning_of r) in
    let first = first_differs a (b ∷ more) differ in
    let second = first_differs b more first.1 in
    let apart = or_parts (same_name a b) (list_any (same_name a) more) first.0 in
    let left_own = is a ∙ at_left (is_some (line_among labels a)) (list_any (same_name a) more) (same_name b a) (same_name a a) lw rw apart.1 (name_flips b a ∙ apart.0) (own_name a) in
    let right_own = is b ∙ at_right (is_some (line_among labels b)) (list_any (same_name b) more) (same_name b b) (same_name a b) lw rw second.0 (own_name b) in
    omega (arith, two_names frame a b s apart.0 (λ name e f. is name ∙ at_none (is_some (line_among labels name)) (list_any (same_name name) more) (same_name b name) (same_name a name) lw rw f e), left_own, right_own)

-- the arguments, but those that a label hides, weigh as much as the frame
pub frame_weighs : (function : PlainFunction) (args : Args) (labels : List LabelledLine) → AreLabels function.lines labels → IsFunction function
    → argument_weight labels function.header.left args.left + argument_weight labels function.header.right args.right ≡ table_weight (frame_of function args)
frame_weighs function args labels h is =
    let header = function.header in
    let left = option_to_list header.left in
    let right = option_to_list header.right in
    let outcome = option_to_list header.result in
    let locals = outcome ++ header.locals in
    let differ = (first_differs header.name (left ++ right ++ outcome ++ header.locals) ((header_is_computed function.text header).1 is.header).differ).1 in
    let parts = append_assoc (left ++ right) outcome header.locals ∙ append_assoc left right locals in
    parts_weigh labels header.left header.right locals args.left args.right (frame_of function args) (lines_ascend 1 function.lines (header_names header args) (header_ascends header args)) (sym (ap all_differ parts) ∙ differ)
    (λ name. name_weighs function.lines labels header args name h)

-- what a workspace weighs with the frame of a function
pub entering_weighs : (w : PlainWorkspace) (meaning : Meaning) (args : Args) (function : PlainFunction) → Function function ≡ meaning → workspace_weight (with_frame_by meaning w args) ≡ workspace_weight w + table_weight (frame_of function args)
entering_weighs w meaning args function is = sym (ap (λ (m : Meaning). workspace_weight (with_frame_by m w args)) is) ∙ omega (arith, sum_by-cons table_weight (frame_of function args) w.frames)
