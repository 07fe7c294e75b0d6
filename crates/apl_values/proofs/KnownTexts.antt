-- A text that is known is read so where the workspace tells the same of its names.
use Rattle.std.proofs.Common.{◌≡◌, ℕ, List, true, length, refl, sym, ap, ◌∙◌}
use Rattle.std.specs.Prelude.{Ok}
use Rattle.std.specs.List.{list_all}
use Rattle.line_scanner.specs.Scanning.{reading_of}
use Rattle.line_scanner.specs.declared.token.Tokens.{Tokens}
use Rattle.line_trees.specs.declared.class.Class.{Class}
use Rattle.line_trees.specs.Parsing.{parsed}
use Rattle.apl_workspace.specs.Workspace.{IsWorkspace, PlainWorkspace}
use Rattle.apl_meaning.specs.Reading.{classes_of}
use Rattle.apl_values.specs.declared.reading.LineReading.{LineReading}
use Rattle.apl_values.specs.Classing.{is_token_told}
use Rattle.apl_values.specs.Known.{IsKnown}
use Rattle.apl_values.specs.Parts.{IsReadFrom, reading_tree}
use Rattle.apl_values.proofs.EnoughClasses.{are_enough}
use Rattle.apl_values.proofs.ReadLaw.{is_read}

pub known_is_read : (w : PlainWorkspace) (known text : List ℕ) (tokens : Tokens) (classes : List Class) (line : LineReading) → IsKnown known tokens classes line → IsWorkspace w → known ≡ text → list_all (is_token_told w classes) tokens.tokens.items ≡ true
    → IsReadFrom w text line
known_is_read w known text tokens classes line is rules same told =
    let tree : parsed (classes_of w) tokens.tokens.items tokens.length ≡ Ok (reading_tree line) = sym (are_enough w classes tokens.tokens.items rules told tokens.length) ∙ is.tree in
    is_read w text tokens.tokens.items (classes_of w) tokens.length (reading_tree line) line (ap reading_of (sym same) ∙ is.scanned) refl (is.long ∙ ap length same) tree refl is.parts
