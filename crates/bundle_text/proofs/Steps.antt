-- Lines that are added as headings, or refused.
use Rattle.std.proofs.Common.{◌≡◌, ◌≢◌, ◌⊎◌, ℕ, ◌+◌, Bool, true, false, eqb, List, [], ◌∷◌, ◌++◌, take, codes, Result, Ok, Err, MatchResult, refl, sym, ap, ◌∙◌, subst, arith, inl, inr, ⊎_elim}
use Rattle.std.specs.Prelude.{IfErr}
use Rattle.std.specs.Cmp.Lexicographic.{pointwise}
use Rattle.std.proofs.lemmas.Bool.{false≢true}
use Rattle.apl_arrays.specs.Glyph.{Spells, bar, line_utf8}
use Rattle.apl_arrays.proofs.Spelling.{one_line}
use Rattle.line_text.specs.Lines.{end_line}
use Rattle.line_text.proofs.Ascii.{content_utf8}
use Rattle.bundle_text.specs.Breaks.{IsSound, IsBroken, IsEnded, IsSpelled, LineBreaks}
use Rattle.bundle_text.specs.BundleLine.{PlainLine, input, user, order, file, clock, end, IsBundleLine, IsTextOf, IsNoLine, IsNoContent, line_glyphs}
use Rattle.bundle_text.specs.Draft.{PlainDraft, may_stand, names_parties, line_keeps_limits, users_so_far, with_line}
use Rattle.bundle_text.specs.Heading.{IsNoHeading}
use Rattle.bundle_text.specs.Refused.{IsRefusal}
use Rattle.bundle_text.specs.Step.{Adds, AddsText, IsLineBroken, IsBadGlyph, IsGlyphOr}
use Rattle.bundle_text.specs.declared.refused.BundleRule.{BundleRule}
use Rattle.bundle_text.specs.declared.refused.BundleRule.TheVariants.{Glyph, Newline, Form, Place, Party, Limit, End}
use Rattle.bundle_text.specs.declared.refused.BundleRefused.{BundleRefused}
use Rattle.bundle_text.specs.declared.refused.BundleRefused.TheVariants.{Malformed, WantOfMemory}
use Rattle.bundle_text.proofs.Texts.{line_spells}

-- a line of a form

pub line_added : (old new : PlainDraft) (line : PlainLine) → IsBundleLine line → may_stand old.section line ≡ true → names_parties (users_so_far old) line ≡ true → line_keeps_limits old line ≡ true → new ≡ with_line old line → IsSound old line × (new ≡ with_line old line)
line_added old new line form place parties limits more = (record { form = form; place = place; parties = parties; limits = limits }, more)

pub no_place : (old : PlainDraft) (line : PlainLine) (offset : ℕ) (why : BundleRefused) → why ≡ Malformed offset Place → may_stand old.section line ≡ false → IsRefusal why (λ place rule. (place ≡ offset) × IsBroken old line rule)
no_place old line offset why is none = subst (λ some. IsRefusal some (λ place rule. (place ≡ offset) × IsBroken old line rule)) (sym is) (refl, none)

pub no_party : (old : PlainDraft) (line : PlainLine) (offset : ℕ) (why : BundleRefused) → why ≡ Malformed offset Party → may_stand old.section line ≡ true → names_parties (users_so_far old) line ≡ false → IsRefusal why (λ place rule. (place ≡ offset) × IsBroken old line rule)
no_party old line offset why is place none = subst (λ some. IsRefusal some (λ there rule. (there ≡ offset) × IsBroken old line rule)) (sym is) (refl, (place, none))

pub no_room : (old : PlainDraft) (line : PlainLine) (offset : ℕ) (why : BundleRefused) → why ≡ Malformed offset Limit → may_stand old.section line ≡ true → names_parties (users_so_far old) line ≡ true → line_keeps_limits old line ≡ false
    → IsRefusal why (λ place rule. (place ≡ offset) × IsBroken old line rule)
no_room old line offset why is place parties over = subst (λ some. IsRefusal some (λ there rule. (there ≡ offset) × IsBroken old line rule)) (sym is) (refl, (place, parties, over))

-- the bytes of a line of a form

broken_here : (draft : PlainDraft) (line : PlainLine) (bytes : List ℕ) (fed : Bool) (rule : BundleRule) → IsTextOf line bytes → IsEnded bytes fed → IsBroken draft line rule → LineBreaks draft bytes fed rule 0
broken_here draft line bytes fed Glyph text ended broken = absurd broken
broken_here draft line bytes fed Newline text ended broken = absurd broken
broken_here draft line bytes fed Form text ended broken = absurd broken
broken_here draft line bytes fed Place text ended broken = (refl, ended, record { line = line; text = text; broken = broken })
broken_here draft line bytes fed Party text ended broken = (refl, ended, record { line = line; text = text; broken = broken })
broken_here draft line bytes fed Limit text ended broken = (refl, ended, record { line = line; text = text; broken = broken })
broken_here draft line bytes fed End text ended broken = absurd broken

pub text_added : (old new : PlainDraft) (line : PlainLine) (bytes : List ℕ) (offset : ℕ) (result : Result (Unit {0}) BundleRefused) → IsTextOf line bytes → Adds old line new offset result → AddsText old bytes new offset result
text_added old new line bytes offset (Ok done) text adds = record { line = line; text = text; sound = adds.0; more = adds.1 }
text_added old new line bytes offset (Err WantOfMemory) text adds = tt
text_added old new line bytes offset (Err (Malformed place rule)) text adds =
    λ fed ended. record { at = 0; broken = broken_here old line bytes fed rule text ended adds.1; there = omega (arith, adds.0) }

-- bytes that are no line

spelled_so : (bytes glyphs : List ℕ) → Spells bytes glyphs → (line : PlainLine) → IsTextOf line bytes → glyphs ≡ line_glyphs line
spelled_so bytes glyphs spells line text = one_line bytes glyphs (line_glyphs line) spells (line_spells line bytes text)

no_line : (bytes glyphs : List ℕ) → Spells bytes glyphs → IsNoContent bytes → IsNoHeading glyphs → (line : PlainLine) → ¬ IsTextOf line bytes
no_line bytes glyphs spells plain none (input line) = λ text. plain (line_utf8 line) (text.1 ∙ content_utf8 line)
no_line bytes glyphs spells plain none (user number) = λ text. none (user number) tt text.0 (spelled_so bytes glyphs spells (user number) text)
no_line bytes glyphs spells plain none (order numbers) = λ text. none (order numbers) tt text.0 (spelled_so bytes glyphs spells (order numbers) text)
no_line bytes glyphs spells plain none (file name) = λ text. none (file name) tt text.0 (spelled_so bytes glyphs spells (file name) text)
no_line bytes glyphs spells plain none (clock numbers) = λ text. none (clock numbers) tt text.0 (spelled_so bytes glyphs spells (clock numbers) text)
no_line bytes glyphs spells plain none end = λ text. none end tt text.0 (spelled_so bytes glyphs spells end text)

-- why bytes are refused, of which all may spell glyphs
pub bad_glyph : (draft : PlainDraft) (bytes : List ℕ) (fed : Bool) (offset : ℕ) (why : BundleRefused) → IsRefusal why (IsBadGlyph bytes offset) → IsRefusal why (IsLineBroken draft bytes fed offset)
bad_glyph draft bytes fed offset WantOfMemory is = tt
bad_glyph draft bytes fed offset (Malformed place rule) is =
    record { at = is.at; broken = subst (λ some. LineBreaks draft bytes fed some is.at) (sym is.named) is.bad; there = is.there }

-- what is said of bytes of which all may spell glyphs

pub here : (bytes line : List ℕ) (from offset : ℕ) (named : BundleRule) (why : BundleRefused) → why ≡ Malformed offset named → Spells bytes line → IsRefusal why (IsGlyphOr bytes from offset named)
here bytes line from offset named why is spells = subst (λ some. IsRefusal some (IsGlyphOr bytes from offset named)) (sym is) (inr ((line, spells), refl, refl))

pub glyph_first : (bytes : List ℕ) (from offset : ℕ) (named : BundleRule) (why : BundleRefused) → IsRefusal why (IsBadGlyph bytes from) → IsRefusal why (IsGlyphOr bytes from offset named)
glyph_first bytes from offset named WantOfMemory is = tt
glyph_first bytes from offset named (Malformed place rule) is = inl is

-- bytes that spell no glyphs, whether a line feed ends them or not
pub bad_line : (draft : PlainDraft) (bytes : List ℕ) (offset : ℕ) (why : BundleRefused) → IsRefusal why (IsBadGlyph bytes offset)
    → IsRefusal why (λ place rule. (fed : Bool) → IsEnded bytes fed → IsLineBroken draft bytes fed offset place rule)
bad_line draft bytes offset WantOfMemory is = tt
bad_line draft bytes offset (Malformed place rule) is = λ fed ended. bad_glyph draft bytes fed offset (Malformed place rule) is

form_here : (draft : PlainDraft) (bytes glyphs : List ℕ) (fed : Bool) (offset : ℕ) → Spells bytes glyphs → IsNoContent bytes → IsNoHeading glyphs → IsEnded bytes fed → IsLineBroken draft bytes fed offset offset Form
form_here draft bytes glyphs fed offset spells plain none ended =
    let broken : LineBreaks draft bytes fed Form 0 = (refl, (glyphs, spells), ended, no_line bytes glyphs spells plain none) in
    record { at = 0; broken = broken; there = omega arith }

-- bytes that spell no line
pub formless : (draft : PlainDraft) (bytes glyphs : List ℕ) (offset : ℕ) (why : BundleRefused) → why ≡ Malformed offset Form → Spells bytes glyphs → IsNoContent bytes → IsNoHeading glyphs
    → IsRefusal why (λ place rule. (fed : Bool) → IsEnded bytes fed → IsLineBroken draft bytes fed offset place rule)
formless draft bytes glyphs offset why is spells plain none =
    subst (λ (some : BundleRefused). IsRefusal some (λ place rule. (fed : Bool) → IsEnded bytes fed → IsLineBroken draft bytes fed offset place rule)) (sym is)
    (λ fed ended. form_here draft bytes glyphs fed offset spells plain none ended)

feed_here : (draft : PlainDraft) (bytes : List ℕ) (offset place : ℕ) (rule : BundleRule) → IsSpelled bytes → place ≡ offset → rule ≡ Newline → bytes ≢ end_line → IsLineBroken draft bytes false offset place rule
feed_here draft bytes offset place rule spelled there named other =
    let broken : LineBreaks draft bytes false Newline 0 = (refl, spelled, refl, other) in
    record { at = 0; broken = subst (λ some. LineBreaks draft bytes false some 0) (sym named) broken; there = omega (arith, there) }

pub unfed : (draft : PlainDraft) (bytes : List ℕ) (offset : ℕ) (why : BundleRefused) → IsRefusal why (IsGlyphOr bytes offset offset Newline) → bytes ≢ end_line → IsRefusal why (IsLineBroken draft bytes false offset)
unfed draft bytes offset WantOfMemory is other = tt
unfed draft bytes offset (Malformed place rule) is other =
    ⊎_elim (λ bad. bad_glyph draft bytes false offset (Malformed place rule) bad) (λ whole. feed_here draft bytes offset place rule whole.0 whole.1 whole.2 other) is

-- what is said of bytes, of those that no line feed ends
pub unfed_end : (draft : PlainDraft) (bytes : List ℕ) (offset : ℕ) (why : BundleRefused) → bytes ≡ end_line → IsRefusal why (λ place rule. (fed : Bool) → IsEnded bytes fed → IsLineBroken draft bytes fed offset place rule) → IsRefusal why (IsLineBroken draft bytes false offset)
unfed_end draft bytes offset WantOfMemory is each = tt
unfed_end draft bytes offset (Malformed place rule) is each = each false (inr is)

pub unfed_result : (draft next : PlainDraft) (bytes : List ℕ) (offset : ℕ) (result : Result (Unit {0}) BundleRefused) → bytes ≡ end_line → AddsText draft bytes next offset result → IfErr result (λ why. IsRefusal why (IsLineBroken draft bytes false offset))
unfed_result draft next bytes offset (Ok done) is adds = tt
unfed_result draft next bytes offset (Err why) is adds = unfed_end draft bytes offset why is adds

-- a bar in front

pub no_bar : (bytes : List ℕ) → pointwise eqb (take 1 bytes) (codes "|") ≡ false → IsNoContent bytes
no_bar bytes none rest whole =
    let same = rw whole at none in false≢true (sym same)
