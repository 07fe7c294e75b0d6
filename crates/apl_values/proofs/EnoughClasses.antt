-- Classes that tell of the names of a line what the workspace shows give it the tree that all classes give it.
use Rattle.std.proofs.Common.{◌≡◌, ℕ, Bool, true, false, ◌==◌, List, [], ◌∷◌, refl, sym, ap, ◌∙◌}
use Rattle.std.specs.Prelude.{Option, Some, None, Ok, Err, IfSome, cond, is_some, option_map}
use Rattle.std.specs.Cmp.Lexicographic.{pointwise}
use Rattle.std.specs.List.{cons_option, filter_map, find, list_all}
use Rattle.std.specs.Map.{keys_of}
use Rattle.std.proofs.lemmas.Bool.{and_parts, eqb-true, false≢true}
use Rattle.apl_arrays.specs.List.{first_of}
use Rattle.apl_arrays.specs.Name.{same_name}
use Rattle.line_scanner.specs.Token.{PlainKind, PlainToken, numbers, chars, name, system, sign}
use Rattle.line_trees.specs.declared.class.Class.{Class}
use Rattle.line_trees.specs.declared.machine.Before.TheVariants as before
use Rattle.line_trees.specs.declared.machine.OpenBracket.{OpenBracket}
use Rattle.line_trees.specs.declared.machine.NestingChange.{NestingChange}
use Rattle.line_trees.specs.declared.machine.Mode.{Mode}
use Rattle.line_trees.specs.declared.machine.Mode.TheVariants.{Begins}
use Rattle.line_trees.specs.declared.machine.Move.{Move}
use Rattle.line_trees.specs.declared.symbol.Symbol.{Symbol}
use Rattle.line_trees.specs.declared.tree.Mark.{Mark}
use Rattle.line_trees.specs.Building.{Built, built_by, built_from}
use Rattle.line_trees.specs.Marks.{Marked, open_after, marked_by, marks_from, step, with_mark}
use Rattle.line_trees.specs.Parsing.{parsed_by, tree_of}
use Rattle.line_trees.specs.Symbols.{arguments_of, name_symbol, symbol_of}
use Rattle.apl_workspace.specs.Meaning.{IsLocal, NameTable, meaning_in}
use Rattle.apl_workspace.specs.Workspace.{IsWorkspace, PlainWorkspace, innermost, look, seen_by}
use Rattle.apl_workspace.specs.declared.meaning.Meaning.{Meaning}
use Rattle.apl_workspace.specs.declared.meaning.Meaning.TheVariants as meaning
use Rattle.apl_workspace.proofs.NameLaw.{equal_names, name_flips, same_name_passes}
use Rattle.apl_meaning.specs.Reading.{class_by, classes_of}
use Rattle.apl_values.specs.Classing.{AreEnough, counted, is_token_told, is_told, same_count}
use Rattle.apl_values.proofs.Locals.{frames_are_local}

-- ---- what the classes of a workspace tell of a name

-- how many arguments a class tells, if there is one
abbrev count_in : Option Class → Option ℕ
count_in found = option_map (λ (class : Class). class.arguments) found

-- what the first of classes tells of a name, where it has the name, and else what the others tell
abbrev told_by : Class → List Class → List ℕ → Bool → Option ℕ
told_by class classes n b = count_in (cond b (Some class) (find (λ (c : Class). pointwise ◌==◌ c.name n) classes))

-- a class that may be there, before others: the one of another name
passed_over : (found : Option Class) (classes : List Class) (k n : List ℕ) → IfSome found (λ class. class.name ≡ k) → same_name n k ≡ false → arguments_of (cons_option found classes) n ≡ arguments_of classes n
passed_over None classes k n named apart = refl
passed_over (Some class) classes k n named apart = ap (told_by class classes n) (ap (λ (m : List ℕ). same_name m n) named ∙ name_flips k n ∙ apart)

-- the one of this name
is_found : (found : Option Class) (classes : List Class) (k n : List ℕ) (there : Bool) → IfSome found (λ class. class.name ≡ k) → k ≡ n → arguments_of classes n ≡ cond there (count_in found) None → arguments_of (cons_option found classes) n ≡ count_in found
is_found None classes k n true named same later = later
is_found None classes k n false named same later = later
is_found (Some class) classes k n there named same later = ap (told_by class classes n) (same_name_passes class.name n (named ∙ same))

-- what the classes of the names of a table tell of a name: its class, where the table has it
among_names : (f : List ℕ → Option Class) (table : NameTable) (n : List ℕ) → ((k : List ℕ) → IfSome (f k) (λ class. class.name ≡ k)) → arguments_of (filter_map f (keys_of table)) n ≡ cond (is_some (meaning_in table n)) (count_in (f n)) None
among_names f [] n named = refl
among_names f (e ∷ table) n named = by (among_names f table n named) (same_name n e.0) refl
  where
    wanted : Bool → Option ℕ
    wanted b = cond (is_some (cond b (Some e.1) (meaning_in table n))) (count_in (f n)) None

    by : arguments_of (filter_map f (keys_of table)) n ≡ cond (is_some (meaning_in table n)) (count_in (f n)) None → (b : Bool) → same_name n e.0 ≡ b → arguments_of (filter_map f (keys_of (e ∷ table))) n ≡ wanted (same_name n e.0)
    by rest true is =
        let same : n ≡ e.0 = equal_names n e.0 is in
        is_found (f e.0) (filter_map f (keys_of table)) e.0 n (is_some (meaning_in table n)) (named e.0) (sym same) (rest ∙ ap (λ (k : List ℕ). cond (is_some (meaning_in table n)) (count_in (f k)) None) same)
        ∙ ap (λ (k : List ℕ). count_in (f k)) (sym same) ∙ ap wanted (sym is)
    by rest false is = passed_over (f e.0) (filter_map f (keys_of table)) e.0 n (named e.0) is ∙ rest ∙ ap wanted (sym is)

class_is_named : (k : List ℕ) (m : Meaning) → IfSome (class_by k m) (λ class. class.name ≡ k)
class_is_named k meaning.Nothing = tt
class_is_named k (meaning.Value value) = tt
class_is_named k (meaning.Function function) = refl
class_is_named k (meaning.Label line) = tt
class_is_named k (meaning.Shared copy) = tt

class_counts : (k : List ℕ) (m : Meaning) → count_in (class_by k m) ≡ counted m
class_counts k meaning.Nothing = refl
class_counts k (meaning.Value value) = refl
class_counts k (meaning.Function function) = refl
class_counts k (meaning.Label line) = refl
class_counts k (meaning.Shared copy) = refl

-- a name that is no global one is no function
none_counted : (local global : Option Meaning) → IfSome local IsLocal → cond (is_some global) (counted (seen_by local global)) None ≡ counted (seen_by local global)
none_counted None None is = refl
none_counted (Some meaning.Nothing) None is = refl
none_counted (Some (meaning.Value value)) None is = refl
none_counted (Some (meaning.Function function)) None is = absurd is
none_counted (Some (meaning.Label line)) None is = refl
none_counted (Some (meaning.Shared copy)) None is = absurd is
none_counted local (Some m) is = refl

-- the classes of a workspace tell of a name what the workspace shows
pub all_tell : (w : PlainWorkspace) (n : List ℕ) → IsWorkspace w → arguments_of (classes_of w) n ≡ counted (look w n)
all_tell w n rules =
    among_names (λ k. class_by k (look w k)) w.globals n (λ k. class_is_named k (look w k)) ∙ ap (λ (count : Option ℕ). cond (is_some (meaning_in w.globals n)) count None) (class_counts n (look w n))
    ∙ none_counted (innermost w.frames n) (meaning_in w.globals n) (frames_are_local w.frames n rules.locals)

-- ---- classes that tell the same of each token

same_counts : (one other : Option ℕ) → same_count one other ≡ true → one ≡ other
same_counts None None is = refl
same_counts None (Some other) is = absurd (false≢true is)
same_counts (Some one) None is = absurd (false≢true is)
same_counts (Some one) (Some other) is = ap (λ (n : ℕ). Some n) (eqb-true one other is)

-- what is told of a token gives it the symbol that all classes give it
same_symbol : (w : PlainWorkspace) (classes : List Class) (kind : PlainKind) → IsWorkspace w → is_told w classes kind ≡ true → symbol_of classes kind ≡ symbol_of (classes_of w) kind
same_symbol w classes (numbers list) rules told = refl
same_symbol w classes (chars list) rules told = refl
same_symbol w classes (name glyphs) rules told = ap (λ (count : Option ℕ). name_symbol count glyphs) (same_counts (arguments_of classes glyphs) (counted (look w glyphs)) told ∙ sym (all_tell w glyphs rules))
same_symbol w classes (system which) rules told = refl
same_symbol w classes (sign glyph) rules told = refl

same_beyond : (move : Option Move) (at : ℕ) (f g : Mode → NestingChange → Marked) → ((mode : Mode) (change : NestingChange) → f mode change ≡ g mode change) → marked_by move at f ≡ marked_by move at g
same_beyond None at f g same = refl
same_beyond (Some move) at f g same = ap (with_mark move.mark) (same move.mode move.change)

-- classes that give the same symbols, to tokens that pass a test
abbrev AreSameFor : (PlainToken → Bool) → List Class → List Class → Type 0
AreSameFor test some others = (token : PlainToken) → test token ≡ true → symbol_of some token.kind ≡ symbol_of others token.kind

same_marks : (test : PlainToken → Bool) (some others : List Class) (long : ℕ) (mode : Mode) (brackets : List OpenBracket) (tokens : List PlainToken) → AreSameFor test some others → list_all test tokens ≡ true
    → marks_from some long mode brackets tokens ≡ marks_from others long mode brackets tokens
unfolding marks_from
same_marks test some others long mode brackets [] same told = refl
same_marks test some others long mode brackets (token ∷ tokens) same told =
    let parts = and_parts (test token) (list_all test tokens) told in
    ap (λ (s : Symbol). marked_by (step mode (first_of brackets) s) token.at (λ mode change. marks_from some long mode (open_after change brackets) tokens)) (same token parts.0)
    ∙ same_beyond (step mode (first_of brackets) (symbol_of others token.kind)) token.at (λ mode change. marks_from some long mode (open_after change brackets) tokens) (λ mode change. marks_from others long mode (open_after change brackets) tokens)
    (λ mode change. same_marks test some others long mode (open_after change brackets) tokens same parts.1)

same_built : (test : PlainToken → Bool) (some others : List Class) (marks : List Mark) (tokens : List PlainToken) → AreSameFor test some others → list_all test tokens ≡ true → built_from some marks tokens ≡ built_from others marks tokens
unfolding built_from
same_built test some others [] tokens same told = refl
same_built test some others (m ∷ marks) [] same told = refl
same_built test some others (m ∷ marks) (token ∷ tokens) same told =
    let parts = and_parts (test token) (list_all test tokens) told in
    ap (λ (s : Symbol). built_by m s token.kind (built_from some marks tokens)) (same token parts.0) ∙ ap (built_by m (symbol_of others token.kind) token.kind) (same_built test some others marks tokens same parts.1)

same_by : (test : PlainToken → Bool) (some others : List Class) (marked : Marked) (tokens : List PlainToken) → AreSameFor test some others → list_all test tokens ≡ true → parsed_by some marked tokens ≡ parsed_by others marked tokens
same_by test some others (Ok marks) tokens same told = ap (λ (b : Built). Ok (tree_of b)) (same_built test some others marks tokens same told)
same_by test some others (Err at) tokens same told = refl

-- classes that tell of all tokens what the workspace shows are enough for them
pub are_enough : (w : PlainWorkspace) (classes : List Class) (tokens : List PlainToken) → IsWorkspace w → list_all (is_token_told w classes) tokens ≡ true → AreEnough classes (classes_of w) tokens
are_enough w classes tokens rules told =
    let test : PlainToken → Bool = is_token_told w classes in
    let same : AreSameFor test classes (classes_of w) = λ token is. same_symbol w classes token.kind rules is in
    λ long.
    ap (λ (marked : Marked). parsed_by classes marked tokens) (same_marks test classes (classes_of w) long (Begins before.Line) [] tokens same told)
    ∙ same_by test classes (classes_of w) (marks_from (classes_of w) long (Begins before.Line) [] tokens) tokens same told
