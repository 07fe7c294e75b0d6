use Rattle.std.proofs.Common.{◌≡◌, ℕ, List, refl, sym, subst, ◌∙◌}
use Rattle.std.specs.Prelude.{Ok, Err, IfErr}
use Rattle.std.proofs.lemmas.Result.{err_from_is_err_and}
use Rattle.apl_arrays.specs.declared.report.Fail.{Fail}
use Rattle.line_scanner.specs.Token.{PlainToken}
use Rattle.line_trees.specs.Parsing.{Parsed, parsed, plain_tree}
use Rattle.apl_meaning.specs.Reading.{classes_of, read_with}
use Rattle.apl_workspace.specs.Workspace.{PlainWorkspace}
use Rattle.apl_values.specs.Parts.{IsNotParsed, IsNotRead, IsReadFrom}
use Rattle.apl_values.proofs.ReadLaw.{is_not_read, is_read}
use Rattle.apl_values.proofs.known.KnownLine.read.Goals as goal

pub returns-clause-read : goal.returns-clause-read
returns-clause-read c =
    let w : PlainWorkspace = c.args.workspace.now in
    let text : List ℕ = c.args.text.now.items in
    let tokens : List PlainToken = c.in_ok-tokens.tokens.tokens.items in
    let tree : parsed (classes_of w) tokens c.in_ok-tokens.tokens.length ≡ Ok (plain_tree c.in_ok-tree.tree) = sym (c.in_ok-classes.ensures c.in_ok-tokens.tokens.length) ∙ c.in_ok-tree.ensures.tree in
    subst (IsReadFrom w text) (sym c.in_ok-of.ensures)
    (is_read w text tokens (classes_of w) c.in_ok-tokens.tokens.length _ c.in_ok-reading.reading c.in_ok-tokens.ensures.tokens refl c.in_ok-tokens.ensures.length tree c.in_ok-reading.ensures.tree c.in_ok-reading.ensures.parts)

pub returns-in_err-tree-clause-refused : goal.returns-in_err-tree-clause-refused
returns-in_err-tree-clause-refused c =
    let w : PlainWorkspace = c.args.workspace.now in
    let text : List ℕ = c.args.text.now.items in
    let tokens : List PlainToken = c.in_ok-tokens.tokens.tokens.items in
    let why : Fail = c.in_err-tree.field-0.0 in
    let exit = err_from_is_err_and c.from_residual-in_err-tree.result c.from_residual-in_err-tree.ensures.1 in
    let not : IsNotParsed (parsed (classes_of w) tokens c.in_ok-tokens.tokens.length) why = subst (λ (found : Parsed). IsNotParsed found why) (c.in_ok-classes.ensures c.in_ok-tokens.tokens.length) c.in_err-tree.ensures.refused in
    let refused : IsNotRead (read_with w text) why = is_not_read w text tokens (classes_of w) c.in_ok-tokens.tokens.length c.in_ok-tokens.ensures.tokens refl c.in_ok-tokens.ensures.length (Err why) not in
    subst (λ r. IfErr r (IsNotRead (read_with w text))) (sym exit.1) (subst (IsNotRead (read_with w text)) (sym exit.2) refused)
