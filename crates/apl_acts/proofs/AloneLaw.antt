-- A line of one act alone means what its act does.
use Rattle.std.proofs.Common.{◌≡◌, ℕ, zero, suc, true, false, List, [], ◌∷◌, refl, sym, ap, ◌∙◌}
use Rattle.std.specs.Prelude.{Option, Some, None, Ok, length}
use Rattle.apl_arrays.specs.List.{first_of}
use Rattle.apl_arrays.specs.Array.{PlainArray, PlainItems}
use Rattle.apl_arrays.specs.Glyph.{left_arrow}
use Rattle.apl_workspace.specs.Workspace.{IsWorkspace, PlainWorkspace, look}
use Rattle.apl_workspace.specs.declared.meaning.Meaning.{Meaning}
use Rattle.apl_workspace.specs.declared.meaning.Meaning.TheVariants as meaning
use Rattle.line_scanner.specs.Scanning.{reading_of}
use Rattle.line_scanner.specs.Token as token
use Rattle.line_scanner.specs.Token.{PlainKind, PlainToken}
use Rattle.line_trees.specs.declared.class.Class.{Class}
use Rattle.line_trees.specs.declared.machine.Before.TheVariants as before
use Rattle.line_trees.specs.declared.machine.Mode.TheVariants.{Begins, Ends}
use Rattle.line_trees.specs.declared.machine.Operand.TheVariants as operand
use Rattle.line_trees.specs.declared.symbol.Symbol.{Symbol}
use Rattle.line_trees.specs.declared.symbol.Symbol.TheVariants as symbol
use Rattle.line_trees.specs.declared.tree.Form.TheVariants as form
use Rattle.line_trees.specs.declared.tree.Mark.TheVariants as mark
use Rattle.line_trees.specs.Building.{attached, built_by, built_from, items_of, nothing_built}
use Rattle.line_trees.specs.Marks.{open_after, marked_by, marks_from, may_end, step, with_mark}
use Rattle.line_trees.specs.Nodes as node
use Rattle.line_trees.specs.Parsing.{PlainTree, parsed, parsed_by, tree_of}
use Rattle.line_trees.specs.Signs.{dyad_of, fold_of, mix1_of, mix2_of, monad_of}
use Rattle.line_trees.specs.Symbols.{name_symbol, other_sign, sign_symbol, symbol_of}
use Rattle.line_trees.specs.Trees as tree
use Rattle.line_trees.specs.Trees.{LineTree, line_tree_of, trees_from}
use Rattle.sv_events.specs.Answer.{PlainAnswer}
use Rattle.sv_events.specs.declared.event.Act.{Act}
use Rattle.sv_events.specs.declared.event.Act.TheVariants as act
use Rattle.apl_meaning.specs.Answers.{set_of, use_of}
use Rattle.apl_meaning.specs.Expressions.{Found, needed, valued}
use Rattle.apl_meaning.specs.Meaning.{closed, mean, mean_of_read, run_below, start_of}
use Rattle.apl_meaning.specs.Printing.{value_printed}
use Rattle.apl_meaning.specs.Reading.{Read, classes_of, read_with}
use Rattle.apl_meaning.specs.State.{State, Outcome, gives, and_then}
use Rattle.apl_meaning.specs.Statements.{line_outcome, shown}
use Rattle.apl_meaning.specs.Tasks.{Next, Run, begun, goes_on, immediate}
use Rattle.apl_meaning.specs.Variables.{assignment, assignment_by, reference_by}
use Rattle.apl_values.specs.Classing.{counted}
use Rattle.apl_values.specs.Parts.{IsConstant}
use Rattle.apl_values.proofs.Seen.{shared_as}
use Rattle.apl_values.proofs.EnoughClasses.{all_tell}
use Rattle.apl_values.proofs.ReadLaw.{read_so}
use Rattle.apl_values.proofs.Constants.{constant_gives}
use Rattle.apl_statements.proofs.Steps.{grouped}
use Rattle.apl_acts.specs.Alone.{IsConstantOf, IsActOf, IsAlone, IsOnShared, IsSetTo, act_outcome, kinds_of}

-- ---- the trees of the tokens

-- the tree of a name alone
name_tree : List ℕ → PlainTree
name_tree n = record { label = None; form = form.Value 0; nodes = node.value n ∷ [] }

-- the tree of a name that is set to a constant
set_tree : List ℕ → PlainItems → PlainTree
set_tree n items = record { label = None; form = form.Value 1; nodes = node.constant items ∷ node.assign n 0 ∷ [] }

name_parsed : (classes : List Class) (one : PlainToken) (n : List ℕ) (long : ℕ) → symbol_of classes one.kind ≡ symbol.Value n → parsed classes (one ∷ []) long ≡ Ok (name_tree n)
unfolding name_tree marks_from may_end step built_from built_by attached
name_parsed classes one n long is =
    ap (λ (s : Symbol). parsed_by classes (marked_by (step (Begins before.Line) (first_of []) s) one.at (λ mode change. marks_from classes long mode (open_after change []) [])) (one ∷ [])) is
    ∙ ap (λ (s : Symbol). Ok (tree_of (built_by mark.Name s one.kind nothing_built))) is

arrow_symbol : sign_symbol left_arrow ≡ symbol.LeftArrow
unfolding sign_symbol other_sign monad_of dyad_of mix1_of mix2_of fold_of
arrow_symbol = refl

-- a name, an arrow and a constant
set_parsed : (classes : List Class) (target arrow one : PlainToken) (n : List ℕ) (items : PlainItems) (long : ℕ) → symbol_of classes target.kind ≡ symbol.Value n → symbol_of classes arrow.kind ≡ symbol.LeftArrow
    → symbol_of classes one.kind ≡ symbol.Constant → items_of one.kind ≡ items → parsed classes (target ∷ arrow ∷ one ∷ []) long ≡ Ok (set_tree n items)
unfolding set_tree marks_from may_end step built_from built_by attached
set_parsed classes target arrow one n items long named arrowed constant_is has =
    ap (λ (s : Symbol). parsed_by classes (marked_by (step (Begins before.Line) (first_of []) s) target.at (λ mode change. marks_from classes long mode (open_after change []) (arrow ∷ one ∷ []))) (target ∷ arrow ∷ one ∷ [])) named
    ∙ ap (λ (s : Symbol). parsed_by classes (with_mark mark.Name (marked_by (step (Ends operand.First) (first_of []) s) arrow.at (λ mode change. marks_from classes long mode (open_after change []) (one ∷ [])))) (target ∷ arrow ∷ one ∷ [])) arrowed
    ∙ ap (λ (s : Symbol). parsed_by classes (with_mark mark.Name (with_mark mark.Gets (marked_by (step (Begins before.Plain) (first_of []) s) one.at (λ mode change. marks_from classes long mode (open_after change []) [])))) (target ∷ arrow ∷ one ∷ [])) constant_is
    ∙ ap (λ (s : Symbol). Ok (tree_of (built_by mark.Name s target.kind (built_by mark.Gets (symbol_of classes arrow.kind) arrow.kind (built_by mark.Constant (symbol_of classes one.kind) one.kind nothing_built))))) named
    ∙ ap (λ (i : PlainItems). Ok (set_tree n i)) has

-- ---- the meaning of these trees

-- a line that uses a name
use_line : List ℕ → LineTree
use_line n = record { label = None; statement = tree.whole (tree.value n) }

-- a line that sets a name to a constant
set_line : List ℕ → PlainItems → LineTree
set_line n items = record { label = None; statement = tree.whole (tree.assign n (tree.constant items)) }

name_line_of : (n : List ℕ) → line_tree_of (name_tree n) ≡ use_line n
unfolding name_tree use_line trees_from
name_line_of n = refl

set_line_of : (n : List ℕ) (items : PlainItems) → line_tree_of (set_tree n items) ≡ set_line n items
unfolding set_tree set_line trees_from
set_line_of n items = refl

-- what follows the act
goes : {A : Type 0} → A → State → Outcome Next
goes _ t = gives goes_on t

use_means : (run : Run) (n : List ℕ) (s : State) (copy : Option PlainArray) → look s.workspace n ≡ meaning.Shared copy → line_outcome run immediate (use_line n) s ≡ and_then (act_outcome (act.Use n) s) (λ _ t. gives goes_on t)
unfolding use_line
use_means run n s copy is =
    ap (λ (m : Meaning). and_then (valued (reference_by m n s)) (λ found t. and_then (shown false found t) (λ _ u. gives goes_on u))) is
    ∙ grouped (use_of n s) (λ v t. gives (Some v) t) (λ found t. and_then (shown false found t) (λ _ u. gives goes_on u))
    ∙ sym (grouped (use_of n s) value_printed (λ _ u. gives goes_on u))

set_means : (run : Run) (n : List ℕ) (value : PlainArray) (s : State) (copy : Option PlainArray) → look s.workspace n ≡ meaning.Shared copy → IsConstant value
    → line_outcome run immediate (set_line n value.items) s ≡ and_then (act_outcome (act.Set n value) s) (λ _ t. gives goes_on t)
unfolding set_line
set_means run n value s copy is whole_is =
    let rest : Outcome Found → Outcome Next = λ found. and_then (and_then (needed found) (λ right t. and_then (assignment n right t) (λ _ u. gives (Some right) u))) (λ found t. and_then (shown true found t) (λ _ u. gives goes_on u)) in
    ap rest (constant_gives value s whole_is)
    ∙ ap (λ (m : Meaning). and_then (and_then (assignment_by m n value s) (λ _ u. gives (Some value) u)) (λ found t. and_then (shown true found t) (λ _ u. gives goes_on u))) is
    ∙ grouped (set_of n value s) (λ _ u. gives (Some value) u) (λ found t. and_then (shown true found t) (λ _ u. gives goes_on u))

-- a line that does the same wherever it begins on this workspace has the same meaning
same_meaning : (tree : LineTree) (w : PlainWorkspace) (line : List ℕ) (asked : Act) → ((run : Run) (s : State) → s.workspace ≡ w → line_outcome run immediate tree s ≡ and_then (act_outcome asked s) (λ _ t. gives goes_on t))
    → (answers : List PlainAnswer) (left : ℕ) → mean tree line w answers left ≡ closed (begun (λ s. and_then (act_outcome asked s) (λ _ t. gives goes_on t)) (start_of line w answers left))
same_meaning tree w line asked same answers zero = refl
same_meaning tree w line asked same answers (suc left) = ap closed (same (run_below (suc left)) (record (start_of line w answers (suc left)) { statements = left }) refl)

-- ---- lines of one act alone

-- a shared name is no function, so that its token is a value's
value_symbol : (w : PlainWorkspace) (n : List ℕ) (copy : Option PlainArray) → IsWorkspace w → look w n ≡ meaning.Shared copy → symbol_of (classes_of w) (token.name n) ≡ symbol.Value n
value_symbol w n copy rules is = ap (λ (count : Option ℕ). name_symbol count n) (all_tell w n rules ∙ ap counted is)

-- the tree of such a line
use_read : (w : PlainWorkspace) (line : List ℕ) (tokens : List PlainToken) (n : List ℕ) (copy : Option PlainArray) → IsWorkspace w → reading_of line ≡ Ok tokens → kinds_of tokens ≡ token.name n ∷ [] → look w n ≡ meaning.Shared copy
    → read_with w line ≡ Ok (use_line n)
use_read w line [] n copy rules scanned kinds is = absurd cc
use_read w line (one ∷ []) n copy rules scanned kinds is =
    let kind : one.kind ≡ token.name n = cc in
    read_so w line (one ∷ []) (classes_of w) (length line) (name_tree n) scanned refl refl (name_parsed (classes_of w) one n (length line) (ap (symbol_of (classes_of w)) kind ∙ value_symbol w n copy rules is))
    ∙ ap (λ (t : LineTree). Ok t) (name_line_of n)
use_read w line (one ∷ other ∷ more) n copy rules scanned kinds is = absurd cc

-- the symbol and the items of a constant
constant_symbol : (classes : List Class) (kind : PlainKind) (items : PlainItems) → IsConstantOf kind items → (symbol_of classes kind ≡ symbol.Constant) × (items_of kind ≡ items)
constant_symbol classes (token.numbers list) items is = (refl, sym is)
constant_symbol classes (token.chars list) items is = (refl, sym is)
constant_symbol classes (token.name n) items is = absurd is
constant_symbol classes (token.system s) items is = absurd is
constant_symbol classes (token.sign g) items is = absurd is

set_read : (w : PlainWorkspace) (line : List ℕ) (tokens : List PlainToken) (n : List ℕ) (value : PlainArray) (copy : Option PlainArray) → IsWorkspace w → reading_of line ≡ Ok tokens → IsSetTo n value (kinds_of tokens) → look w n ≡ meaning.Shared copy
    → read_with w line ≡ Ok (set_line n value.items)
set_read w line [] n value copy rules scanned set is = absurd (let no : [] ≡ token.name n ∷ token.sign left_arrow ∷ set.kind ∷ [] = set.kinds_are in cc)
set_read w line (a ∷ []) n value copy rules scanned set is = absurd (let no : a.kind ∷ [] ≡ token.name n ∷ token.sign left_arrow ∷ set.kind ∷ [] = set.kinds_are in cc)
set_read w line (a ∷ b ∷ []) n value copy rules scanned set is = absurd (let no : a.kind ∷ b.kind ∷ [] ≡ token.name n ∷ token.sign left_arrow ∷ set.kind ∷ [] = set.kinds_are in cc)
set_read w line (a ∷ b ∷ c ∷ []) n value copy rules scanned set is =
    let are : a.kind ∷ b.kind ∷ c.kind ∷ [] ≡ token.name n ∷ token.sign left_arrow ∷ set.kind ∷ [] = set.kinds_are in
    let target : a.kind ≡ token.name n = cc in
    let arrow : b.kind ≡ token.sign left_arrow = cc in
    let constant_kind : c.kind ≡ set.kind = cc in
    let classes : List Class = classes_of w in
    let symbols = constant_symbol classes set.kind value.items set.items in
    read_so w line (a ∷ b ∷ c ∷ []) classes (length line) (set_tree n value.items) scanned refl refl
    (set_parsed classes a b c n value.items (length line) (ap (symbol_of classes) target ∙ value_symbol w n copy rules is) (ap (symbol_of classes) arrow ∙ arrow_symbol) (ap (symbol_of classes) constant_kind ∙ symbols.0) (ap items_of constant_kind ∙ symbols.1))
    ∙ ap (λ (t : LineTree). Ok t) (set_line_of n value.items)
set_read w line (a ∷ b ∷ c ∷ d ∷ more) n value copy rules scanned set is = absurd (let no : a.kind ∷ b.kind ∷ c.kind ∷ d.kind ∷ kinds_of more ≡ token.name n ∷ token.sign left_arrow ∷ set.kind ∷ [] = set.kinds_are in cc)

-- a line whose tokens are one act alone
pub is_alone : (w : PlainWorkspace) (line : List ℕ) (tokens : List PlainToken) (asked : Act) → IsWorkspace w → reading_of line ≡ Ok tokens → IsActOf (kinds_of tokens) asked → IsOnShared w asked → IsAlone w line asked
is_alone w line tokens (act.Use n) rules scanned is shared =
    let seen = shared_as (look w n) shared in
    record {
      shared = shared;
      means = λ answers left.
          ap (λ (read : Read). mean_of_read read line w answers left) (use_read w line tokens n seen.0 rules scanned is seen.1)
          ∙ same_meaning (use_line n) w line (act.Use n) (λ run s at. use_means run n s seen.0 (ap (λ (v : PlainWorkspace). look v n) at ∙ seen.1)) answers left;
    }
is_alone w line tokens (act.Set n value) rules scanned is shared =
    let seen = shared_as (look w n) shared in
    record {
      shared = shared;
      means = λ answers left.
          ap (λ (read : Read). mean_of_read read line w answers left) (set_read w line tokens n value seen.0 rules scanned is seen.1)
          ∙ same_meaning (set_line n value.items) w line (act.Set n value) (λ run s at. set_means run n value s seen.0 (ap (λ (v : PlainWorkspace). look v n) at ∙ seen.1) is.constant) answers left;
    }
is_alone w line tokens (act.Offer to local surrogate value) rules scanned is shared = absurd is
is_alone w line tokens (act.Retract name) rules scanned is shared = absurd is
is_alone w line tokens (act.SetControl name control) rules scanned is shared = absurd is
is_alone w line tokens (act.AskControl name) rules scanned is shared = absurd is
is_alone w line tokens (act.AskState name) rules scanned is shared = absurd is
is_alone w line tokens (act.AskDegree name) rules scanned is shared = absurd is
is_alone w line tokens act.AskParties rules scanned is shared = absurd is
is_alone w line tokens (act.AskNames party) rules scanned is shared = absurd is
is_alone w line tokens act.Leave rules scanned is shared = absurd is
