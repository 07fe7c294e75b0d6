-- What saved bytes hold is a workspace of names alone.
use Rattle.std.proofs.Common.{◌≡◌, ◌==◌, ℕ, List, Result, Ok, Err, length, sym, ap, ◌∙◌}
use Rattle.apl_workspace.specs.Meaning.{NameTable}
use Rattle.apl_workspace.specs.declared.remake.Remake.{Remake}
use Rattle.ws_codec.specs.Kept.{workspace_of}
use Rattle.ws_codec.specs.Objects.{read_objects}
use Rattle.ws_codec.specs.Reading.{◌>>=◌, keeps}
use Rattle.ws_codec.specs.Saved.{PlainSaved, offers_of_version, reading_placed, saved_reading, read_saved, saved_of, read_version}
use Rattle.ws_codec.specs.declared.saved.SavedRule.{SavedRule}
use Rattle.ws_codec.specs.declared.saved.SavedRule.TheVariants.{Rest}
use Rattle.ws_codec.specs.declared.unread.Flaw.{Flaw}

-- a reading that succeeds goes on from one that does
goes_on : {A B : Type 0} (read : Result A Flaw) (next : A → Result B Flaw) (found : B) → (read >>= next) ≡ Ok found → (first : A) × (next first ≡ Ok found)
goes_on (Ok first) next found e = (first, e)
goes_on (Err flaw) next found e = absurd cc

-- the value of a reading that succeeds
abbrev value_or : {A E : Type 0} → A → Result A E → A
value_or other (Ok found) = found
value_or other (Err e) = other

fresh_at : (bytes : List ℕ) (found : PlainSaved) → read_saved bytes ≡ Ok found → found.workspace ≡ workspace_of found.workspace.globals
unfolding read_saved
fresh_at bytes found e =
    let version = goes_on {A = ℕ × List ℕ} (read_version bytes) _ found e in
    let objects = goes_on {A = NameTable × List ℕ} (read_objects version.0.1) _ found version.1 in
    let offers = goes_on {A = List Remake × List ℕ} (offers_of_version version.0.0 objects.0.0 objects.0.1) _ found objects.1 in
    let ended = goes_on {A = Unit {0}} (keeps (length offers.0.1 == 0) Rest (length offers.0.1)) _ found offers.1 in
    let same : saved_of objects.0.0 offers.0.0 ≡ found = ap (value_or found) ended.1 in
    ap (λ (s : PlainSaved). s.workspace) (sym same) ∙ ap (λ (s : PlainSaved). workspace_of s.workspace.globals) same

placed_by : (count : ℕ) (read : Result PlainSaved Flaw) (found : PlainSaved) → reading_placed count read ≡ Ok found → read ≡ Ok found
placed_by count (Ok other) found e = ap (λ (read : Result PlainSaved (ℕ × SavedRule)). Ok (value_or found read)) e
placed_by count (Err flaw) found e = absurd cc

-- it has no frames, no offers and no count of printed glyphs
pub fresh : (bytes : List ℕ) (found : PlainSaved) → saved_reading bytes ≡ Ok found → found.workspace ≡ workspace_of found.workspace.globals
fresh bytes found e = fresh_at bytes found (placed_by _ (read_saved bytes) found e)
