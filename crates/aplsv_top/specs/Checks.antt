-- What the program promises of a check.
use Rattle.std.specs.Prelude.{◌≡◌, ◌≢◌, ◌⊎◌, ◌++◌, ℕ, List, [], ◌∷◌, All, Option, codes, decimal}
use Rattle.std.specs.List.{flat_map}
use Rattle.bundle_text.specs.Bundle.{BundleText, PlainBundle}
use Rattle.line_text.specs.Lines.{HasNoFeed, end_line, line_feed, line_text}
use Rattle.check_rules.specs.Verdict.{IsVerdict}
use Rattle.check_rules.specs.declared.verdict.Verdict.{Verdict}
use Rattle.check_rules.specs.declared.verdict.Verdict.TheVariants as verdict
use Rattle.aplsv_top.specs.Causes.{Device, HasCauseFor, IsWriting}
use Rattle.aplsv_top.specs.declared.status.Status.{Status}
use Rattle.aplsv_top.specs.declared.status.Status.TheVariants as status

-- the words ask for a check: --check, and nothing else
abbrev pub AskCheck : List (List ℕ) → Type 0
AskCheck words = words ≡ codes "--check" ∷ []

-- the most bytes of an input that is checked
abbrev pub most_checked_bytes : ℕ
most_checked_bytes = 67108864

-- a line of bytes with its line feed
abbrev pub fed : List ℕ → List ℕ
fed line = line ++ line_feed ∷ []

-- lines, none of which is the end
abbrev pub NoneIsEnd : List (List ℕ) → Type 0
NoneIsEnd lines = All (λ line. HasNoFeed line × (line ≢ end_line)) lines

-- behind these lines stands the end, and behind that the text
abbrev pub EndsThere : List (List ℕ) → List ℕ → List ℕ → List ℕ → Type 0
EndsThere before input bundle text = (bundle ≡ flat_map fed before ++ fed end_line) × (input ≡ bundle ++ text)

-- behind these lines stands no line any more: all of the input is the bundle's
abbrev pub EndsNowhere : List (List ℕ) → List ℕ → List ℕ → List ℕ → Type 0
EndsNowhere before input bundle text = (piece : List ℕ) × HasNoFeed piece × (input ≡ flat_map fed before ++ piece) × (bundle ≡ input) × (text ≡ [])

-- an input is a bundle, up to and including the first line that is the end, and behind it a text; without such a line all of it is the bundle's
pub record IsSplit (input bundle text : List ℕ) : Type 0 where
  pub before : List (List ℕ)
  pub others : NoneIsEnd before
  pub parts : EndsThere before input bundle text ⊎ EndsNowhere before input bundle text

-- the line that says what was found, with its line feed
abbrev pub verdict_line : Verdict → List ℕ
verdict_line verdict.Yes = line_text (codes "legal")
verdict_line (verdict.Text at) = line_text (codes "bad text " ++ decimal at)
verdict_line (verdict.Entry place) = line_text (codes "bad entry " ++ decimal place)
verdict_line (verdict.Unfinished user) = line_text (codes "unfinished " ++ decimal user)
verdict_line (verdict.Line user line) = line_text (codes "bad line " ++ (decimal user ++ (codes " " ++ decimal line)))

-- the part of an input that is the bundle's
abbrev pub IsBundlePart : List ℕ → List ℕ → Type 0
IsBundlePart input part = (text : List ℕ) × IsSplit input part text

-- the line says what was found of an input: it is the text of a bundle and a text behind it, of which this is the verdict
pub record IsFound (found : Verdict) (input line : List ℕ) : Type 0 where
  pub part : List ℕ
  pub text : List ℕ
  pub split : IsSplit input part text
  pub bundle : PlainBundle
  pub read : BundleText part bundle
  pub verdict_is : IsVerdict bundle text found
  pub said : line ≡ verdict_line found

-- it says that something else was found than that the text is the output of a run
abbrev pub IsFoundFalse : Verdict → List ℕ → List ℕ → Type 0
IsFoundFalse found input line = (found ≢ verdict.Yes) × IsFound found input line

-- it says what was found
abbrev pub IsFinding : List ℕ → List ℕ → Type 0
IsFinding input line = (found : Verdict) × IsFound found input line

-- what stands behind a status of a check, by what its source and its sink tell before and after
abbrev pub HasCheckCause : Status → Device → Device → Device → Device → Type 0
HasCheckCause ending source rest sink grown = HasCauseFor most_checked_bytes IsBundlePart (IsFound verdict.Yes) IsFoundFalse IsFinding ending source rest sink grown

-- how a check ends of which this was found, and whose line was written so
abbrev pub ending_found : Verdict → Status → Status
ending_found verdict.Yes written = written
ending_found found status.Done = status.NotARun found
ending_found found written = written

-- writing the line of what was found ended so: all of it went to the sink, or a front part of it, and the sink failed; or there was no memory for it, and nothing was written
abbrev pub IsWritten : Verdict → Status → Option (List ℕ) → Option (List ℕ) → ℕ → ℕ → Type 0
IsWritten found ending held now before after =
    ((written : Status) × IsWriting held now before after (verdict_line found) written × (ending ≡ ending_found found written)) ⊎ ((ending ≡ status.WantOfMemory) × (now ≡ held) × (after ≡ before))

-- how a check that was asked for may end, where neither source nor sink failed and the input is not too long
abbrev pub IsCheckConclusion : Status → Type 0
IsCheckConclusion status.Done = Unit {0}
IsCheckConclusion (status.NotARun found) = Unit {0}
IsCheckConclusion (status.Malformed offset rule) = Unit {0}
IsCheckConclusion status.WantOfMemory = Unit {0}
IsCheckConclusion status.Usage = ⊥
IsCheckConclusion status.ReadFault = ⊥
IsCheckConclusion status.WriteFault = ⊥
IsCheckConclusion status.TooLong = ⊥
