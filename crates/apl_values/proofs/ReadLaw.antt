-- What is parsed are the nodes of the line for which they stand.
use Rattle.std.proofs.Common.{◌≡◌, ℕ, List, length, sym, ap, ◌∙◌}
use Rattle.std.specs.Prelude.{All, Result, Ok, Err, IfOk, IfErr}
use Rattle.line_scanner.specs.Scanning.{Scanned, reading_of}
use Rattle.line_scanner.specs.Token.{PlainToken}
use Rattle.line_trees.specs.declared.class.Class.{Class}
use Rattle.line_trees.specs.Parsing.{Parsed, PlainTree, parsed, plain_tree}
use Rattle.line_trees.specs.declared.tree.Tree.{Tree}
use Rattle.line_trees.specs.Trees.{as_nodes, line_tree_of}
use Rattle.line_trees.proofs.Places.{tree_is_line}
use Rattle.line_trees.proofs.TreeLaw.{line_again}
use Rattle.apl_arrays.specs.declared.report.Fail.{Fail}
use Rattle.apl_arrays.specs.declared.report.Fail.TheVariants as fail
use Rattle.apl_arrays.specs.declared.report.Report.{Report}
use Rattle.apl_workspace.specs.Workspace.{PlainWorkspace}
use Rattle.apl_meaning.specs.Reading.{classes_of, read_parsed, read_scanned, read_with}
use Rattle.apl_values.specs.declared.reading.LineReading.{LineReading}
use Rattle.apl_values.specs.Parts.{IsNotParsed, IsNotRead, IsPart, IsReadFrom, IsLineReading, reading_tree, IsTreeOf}

-- the nodes of a tree that was parsed
pub tree_again : (classes : List Class) (tokens : List PlainToken) (long : ℕ) (tree : PlainTree) → parsed classes tokens long ≡ Ok tree → as_nodes (line_tree_of tree) ≡ tree
tree_again classes tokens long tree is =
    let found = tree_is_line classes tokens long tree is in
    ap (λ (t : PlainTree). as_nodes (line_tree_of t)) found.2 ∙ ap as_nodes (line_again found.0) ∙ sym found.2

-- the tree of a text, where its tokens, the classes and the tree of these are known
pub read_so : (w : PlainWorkspace) (text : List ℕ) (tokens : List PlainToken) (classes : List Class) (length_of : ℕ) (tree : PlainTree) → reading_of text ≡ Ok tokens → classes ≡ classes_of w → length_of ≡ length text → parsed classes tokens length_of ≡ Ok tree
    → read_with w text ≡ Ok (line_tree_of tree)
read_so w text tokens classes length_of tree scanned known long is =
    ap (λ (found : Scanned). read_scanned (classes_of w) (length text) found) scanned
    ∙ ap (λ (classes : List Class). read_parsed (parsed classes tokens (length text))) (sym known)
    ∙ ap (λ (n : ℕ). read_parsed (parsed classes tokens n)) (sym long)
    ∙ ap read_parsed is

-- a line of which this is the tree that was parsed
pub is_reading : (classes : List Class) (tokens : List PlainToken) (long : ℕ) (tree : PlainTree) (line : LineReading) → parsed classes tokens long ≡ Ok tree → reading_tree line ≡ tree → All IsPart line.parts.items → IsLineReading line
is_reading classes tokens long tree line is made parts = record { parts = parts; tree = ap (λ (t : PlainTree). as_nodes (line_tree_of t)) made ∙ tree_again classes tokens long tree is ∙ sym made }

-- a line that was read from a text
pub is_read : (w : PlainWorkspace) (text : List ℕ) (tokens : List PlainToken) (classes : List Class) (length_of : ℕ) (tree : PlainTree) (line : LineReading) → reading_of text ≡ Ok tokens → classes ≡ classes_of w → length_of ≡ length text → parsed classes tokens length_of ≡ Ok tree
    → reading_tree line ≡ tree → All IsPart line.parts.items → IsReadFrom w text line
is_read w text tokens classes length_of tree line scanned known long is made parts = record {
  reading = is_reading classes tokens length_of tree line is made parts;
  tree = read_so w text tokens classes length_of tree scanned known long is ∙ ap (λ (t : PlainTree). Ok (line_tree_of t)) (sym made);
}

-- the tree of a text, where its tokens and their tree are known
pub is_tree : (w : PlainWorkspace) (text : List ℕ) (tokens : List PlainToken) (classes : List Class) (length_of : ℕ) → reading_of text ≡ Ok tokens → classes ≡ classes_of w → length_of ≡ length text
    → (found : Result Tree Fail) → IfOk found (λ tree. parsed classes tokens length_of ≡ Ok (plain_tree tree)) → IfOk found (λ tree. IsTreeOf w text (plain_tree tree))
is_tree w text tokens classes length_of scanned known long (Ok tree) is = record {
  tokens = tokens;
  scanned = scanned;
  nodes = ap (λ (c : List Class). parsed c tokens (length text)) (sym known) ∙ ap (λ (n : ℕ). parsed classes tokens n) (sym long) ∙ is;
}
is_tree w text tokens classes length_of scanned known long (Err why) is = tt

-- why a text was not read whose tokens were not parsed
not_parsed : (w : PlainWorkspace) (text : List ℕ) (found : Parsed) (why : Fail) → read_with w text ≡ read_parsed found → IsNotParsed found why → IsNotRead (read_with w text) why
not_parsed w text (Ok tree) (fail.Report report) is h = absurd h
not_parsed w text (Err at) (fail.Report report) is h = is ∙ ap (λ (r : Report). Err r) (sym h)
not_parsed w text found fail.WantOfMemory is h = tt

pub is_not_read : (w : PlainWorkspace) (text : List ℕ) (tokens : List PlainToken) (classes : List Class) (length_of : ℕ) → reading_of text ≡ Ok tokens → classes ≡ classes_of w → length_of ≡ length text
    → (found : Result Tree Fail) → IfErr found (IsNotParsed (parsed classes tokens length_of)) → IfErr found (IsNotRead (read_with w text))
is_not_read w text tokens classes length_of scanned known long (Ok tree) h = tt
is_not_read w text tokens classes length_of scanned known long (Err why) h =
    not_parsed w text (parsed classes tokens length_of) why
    (ap (λ (found : Scanned). read_scanned (classes_of w) (length text) found) scanned
    ∙ ap (λ (c : List Class). read_parsed (parsed c tokens (length text))) (sym known) ∙ ap (λ (n : ℕ). read_parsed (parsed classes tokens n)) (sym long)) h
