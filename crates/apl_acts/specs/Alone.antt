-- Lines that are one act alone: the use of a shared name, whose value is printed, and the set of one to a constant.
use Rattle.std.specs.Prelude.{◌≡◌, ℕ, true, List, [], ◌∷◌, map}
use Rattle.apl_arrays.specs.Array as array
use Rattle.apl_arrays.specs.Array.{PlainArray}
use Rattle.apl_arrays.specs.Glyph.{left_arrow}
use Rattle.line_scanner.specs.Token as token
use Rattle.line_scanner.specs.Token.{PlainKind, PlainToken}
use Rattle.apl_workspace.specs.Meaning.{is_shared_meaning}
use Rattle.apl_workspace.specs.Workspace.{PlainWorkspace, look}
use Rattle.sv_events.specs.Answer.{PlainAnswer}
use Rattle.sv_events.specs.Row.{answer_row}
use Rattle.sv_events.specs.declared.event.Act.{Act}
use Rattle.sv_events.specs.declared.event.Act.TheVariants as act
use Rattle.apl_meaning.specs.Answers.{got, report_of_kind, set_of, unless_ended, use_of, with_copy}
use Rattle.apl_meaning.specs.Meaning.{closed, mean_of_line, start_of}
use Rattle.apl_meaning.specs.Printing.{value_printed}
use Rattle.apl_meaning.specs.State.{State, Effect, gives, and_then}
use Rattle.apl_meaning.specs.Tasks.{begun, goes_on}
use Rattle.line_trees.specs.Parsing.{plain_tree}
use Rattle.apl_values.specs.Parts.{IsConstant, IsTreeOf}
use Rattle.apl_acts.specs.declared.reading.LineRead.{LineRead}
use Rattle.apl_acts.specs.declared.reading.LineRead.TheVariants as line_read
pub use Rattle.apl_statements.specs.Led.{Leads, EndsThere, HasLed}

-- what comes of an act that a line is alone: the value of a use is printed
abbrev pub act_outcome : Act → State → Effect
act_outcome (act.Use name) s = and_then (use_of name s) value_printed
act_outcome (act.Set name value) s = set_of name value s
act_outcome other s = gives tt s

-- the act uses a name that is shared, or sets one
abbrev pub IsOnShared : PlainWorkspace → Act → Type 0
IsOnShared w (act.Use name) = is_shared_meaning (look w name) ≡ true
IsOnShared w (act.Set name value) = is_shared_meaning (look w name) ≡ true
IsOnShared w other = ⊥

-- a line is this act alone: whatever answers follow and however many statements may begin, its meaning is what comes of the act
pub record IsAlone (w : PlainWorkspace) (line : List ℕ) (asked : Act) : Type 0 where
  pub shared : IsOnShared w asked
  pub means : (answers : List PlainAnswer) (left : ℕ) → mean_of_line line w answers left ≡ closed (begun (λ s. and_then (act_outcome asked s) (λ _ t. gives goes_on t)) (start_of line w answers left))

-- ---- the tokens of such a line

-- what tokens are
abbrev pub kinds_of : List PlainToken → List PlainKind
kinds_of tokens = map (λ (one : PlainToken). one.kind) tokens

-- a token is a constant of these items
abbrev pub IsConstantOf : PlainKind → array.PlainItems → Type 0
IsConstantOf (token.numbers list) items = items ≡ array.numbers list
IsConstantOf (token.chars list) items = items ≡ array.chars list
IsConstantOf (token.name n) items = ⊥
IsConstantOf (token.system s) items = ⊥
IsConstantOf (token.sign g) items = ⊥

-- the kinds are those of a name, an arrow and a constant, which is this array
pub record IsSetTo (name : List ℕ) (value : PlainArray) (kinds : List PlainKind) : Type 0 where
  pub kind : PlainKind
  pub kinds_are : kinds ≡ token.name name ∷ token.sign left_arrow ∷ kind ∷ []
  pub items : IsConstantOf kind value.items
  pub constant : IsConstant value

-- tokens are this act alone
abbrev pub IsActOf : List PlainKind → Act → Type 0
IsActOf kinds (act.Use name) = kinds ≡ token.name name ∷ []
IsActOf kinds (act.Set name value) = IsSetTo name value kinds
IsActOf kinds other = ⊥

-- a line was read so: it is one act alone, or it has this tree
abbrev pub IsLineRead : PlainWorkspace → List ℕ → LineRead → Type 0
IsLineRead w line (line_read.Alone asked) = IsAlone w line asked
IsLineRead w line (line_read.Tree tree) = IsTreeOf w line (plain_tree tree)

-- ---- its answer

-- what an answer that does not end the line does
abbrev pub answer_told : Act → PlainAnswer → State → Effect
answer_told (act.Use name) answer s = and_then (got name (answer_row answer).value s) value_printed
answer_told (act.Set name value) answer s = with_copy name value s
answer_told other answer s = gives tt s

-- what an answer to the act does
abbrev pub answer_outcome : Act → PlainAnswer → State → Effect
answer_outcome asked answer s = and_then (unless_ended (report_of_kind (answer_row answer).row.kind) answer s) (λ told t. answer_told asked told t)
