-- A scan, step by step.
use Rattle.std.proofs.Common.{◌≡◌, ℕ, ◌+◌, ◌-◌, ◌≤◌, ◌<◌, List, [], ◌∷◌, ◌++◌, Ok, Err, length, take, drop, All, slice_range, refl, sym, ap, subst, ◌∙◌, append_assoc, arith}
use Rattle.std.specs.List.{AllByRecursion}
use Rattle.std.proofs.Math.Seq.{drop-append_seam, take-append_seam}
use Rattle.std.proofs.lemmas.List.{drop-drop, length-append, length-drop}
use Rattle.std.proofs.lemmas.List.Elements.{All-from_recursion}
use Rattle.line_scanner.specs.Token.{PlainKind, PlainToken}
use Rattle.line_scanner.specs.Scanning.{PlainFront, nothing, blank, token, unused, malformed, Scanned, character_at, syntax_at, with_token, front_of, scan_from, reading_of}
use Rattle.line_scanner.specs.Front.{FitsIn}
use Rattle.line_scanner.specs.Grammar.{EndsBefore, TokensNext, IsReading, AreInOrder, IsSliceOf, IsTokenText}
use Rattle.line_scanner.proofs.Numbers.{left_from}
use Rattle.line_scanner.proofs.FrontLaw.{IsFront, front_sound, token_complete}
use Rattle.line_scanner.proofs.ScanLaw.{with_tokens, with_tokens-ok, with_tokens-err, token_step, blank_step, end_step, unused_step, malformed_step, scan_sound, some_taken}

fits_by : (line : List ℕ) (front : PlainFront) → IsFront line front → FitsIn (length line) front
fits_by line nothing h = tt
fits_by line blank (rest, e) = omega (arith, ap length e)
fits_by line (token kind taken) h = (h.some, omega (arith, h.len, ap length h.whole, length-append h.text h.rest))
fits_by line unused h = omega (arith, ap length h.whole)
fits_by line malformed h = tt

-- what stands at the front is some of the glyphs
pub fits_front : (line : List ℕ) (front : PlainFront) → front ≡ front_of line → FitsIn (length line) front
fits_front line front e = fits_by line front (subst (λ f. IsFront line f) (sym e) (front_sound line))

-- ---- the loop

-- some tokens, up to a place, and what is scanned from it on are what is scanned of a line
pub record IsScannedTo (line : List ℕ) (tokens : List PlainToken) (at : ℕ) : Type 0 where
  pub same : with_tokens tokens (scan_from at 0 (drop at line)) ≡ reading_of line
  pub within : at ≤ length line

pub begins_scan : (line : List ℕ) (tokens : List PlainToken) → tokens ≡ [] → IsScannedTo line tokens 0
begins_scan line tokens none = record { same = ap (λ ts. with_tokens ts (scan_from 0 0 line)) none; within = omega arith }

with_tokens-append : (tokens : List PlainToken) (last : PlainToken) (reading : Scanned) → with_tokens (tokens ++ last ∷ []) reading ≡ with_tokens tokens (with_token last reading)
with_tokens-append [] last reading = refl
with_tokens-append (first ∷ tokens) last reading = ap (with_token first) (with_tokens-append tokens last reading)

pub scans_token : (line : List ℕ) (tokens more : List PlainToken) (at taken after : ℕ) (kind : PlainKind) → token kind taken ≡ front_of (take (length line - at) (drop at line)) → after ≡ at + taken
    → (0 < taken) × (taken ≤ length (take (length line - at) (drop at line))) → more ≡ tokens ++ (record { kind = kind; at = at; after = after }) ∷ [] → IsScannedTo line tokens at → IsScannedTo line more after
scans_token line tokens more at taken after kind e place fits pushed h =
    let here : front_of (drop at line) ≡ token kind taken = ap front_of (sym (left_from at line)) ∙ sym e in
    let step = token_step at (drop at line) kind taken here fits.0 in
    let beyond : scan_from (at + taken) 0 (drop taken (drop at line)) ≡ scan_from after 0 (drop after line) = ap (λ (xs : List ℕ). scan_from (at + taken) 0 xs) (drop-drop taken at line) ∙ ap (λ (k : ℕ). scan_from k 0 (drop k line)) (sym place) in
    let made : PlainToken = record { kind = kind; at = at; after = after } in
    record {
      same = ap (λ ts. with_tokens ts (scan_from after 0 (drop after line))) pushed ∙ with_tokens-append tokens made (scan_from after 0 (drop after line))
          ∙ ap (with_tokens tokens) (sym (step ∙ ap (λ (k : ℕ). with_token (record { kind = kind; at = at; after = k }) (scan_from (at + taken) 0 (drop taken (drop at line)))) (sym place) ∙ ap (with_token made) beyond)) ∙ h.same;
      within = omega (arith, place, fits.1, ap length (left_from at line), length-drop at line, h.within);
    }

pub scans_blank : (line : List ℕ) (tokens : List PlainToken) (at : ℕ) → blank ≡ front_of (take (length line - at) (drop at line)) → 0 < length (take (length line - at) (drop at line)) → IsScannedTo line tokens at → IsScannedTo line tokens (at + 1)
scans_blank line tokens at e fits h =
    let step = blank_step at (drop at line) (ap front_of (sym (left_from at line)) ∙ sym e) in
    record {
      same = ap (with_tokens tokens) (sym (step ∙ ap (scan_from (at + 1) 0) (drop-drop 1 at line))) ∙ h.same;
      within = omega (arith, fits, ap length (left_from at line), length-drop at line, h.within);
    }

pub scans_end : (line : List ℕ) (tokens : List PlainToken) (at : ℕ) → nothing ≡ front_of (take (length line - at) (drop at line)) → IsScannedTo line tokens at → reading_of line ≡ Ok tokens
scans_end line tokens at e h = sym h.same ∙ ap (with_tokens tokens) (end_step at (drop at line) (ap front_of (sym (left_from at line)) ∙ sym e)) ∙ with_tokens-ok tokens

pub scans_unused : (line : List ℕ) (tokens : List PlainToken) (at : ℕ) → unused ≡ front_of (take (length line - at) (drop at line)) → IsScannedTo line tokens at → reading_of line ≡ Err (character_at at)
scans_unused line tokens at e h = sym h.same ∙ ap (with_tokens tokens) (unused_step at (drop at line) (ap front_of (sym (left_from at line)) ∙ sym e)) ∙ with_tokens-err tokens (character_at at)

pub scans_malformed : (line : List ℕ) (tokens : List PlainToken) (at : ℕ) → malformed ≡ front_of (take (length line - at) (drop at line)) → IsScannedTo line tokens at → reading_of line ≡ Err (syntax_at at)
scans_malformed line tokens at e h = sym h.same ∙ ap (with_tokens tokens) (malformed_step at (drop at line) (ap front_of (sym (left_from at line)) ∙ sym e)) ∙ with_tokens-err tokens (syntax_at at)

-- ---- spans

-- a token is not empty
some_text : (kind : PlainKind) (text more : List ℕ) → IsTokenText kind text → EndsBefore kind more → 0 < length text
some_text kind text more is ends = some_taken (text ++ more) kind (length text) (subst (λ f. IsFront (text ++ more) f) (token_complete kind text more is ends) (front_sound (text ++ more)))

order_of : (tokens : List PlainToken) (at : ℕ) (line : List ℕ) (place : ℕ) (rest : List ℕ) (to : ℕ) → at + length line ≡ to → TokensNext at line tokens place rest → AreInOrder at tokens to
order_of [] at line place rest to total h = omega (arith, total)
order_of (first ∷ tokens) at line place rest to total (more, h, next) =
    let some = some_text first.kind h.text more h.is_text h.ends in
    let len : length line ≡ length h.blanks + (length h.text + length more) = ap length h.whole ∙ length-append h.blanks (h.text ++ more) ∙ ap (λ (k : ℕ). length h.blanks + k) (length-append h.text more) in
    (omega (arith, h.from), omega (arith, h.to, some), order_of tokens first.after more place rest to (omega (arith, len, h.from, h.to, total)) next)

-- the tokens of a line stand in order on it
pub in_order : (line : List ℕ) (tokens : List PlainToken) → reading_of line ≡ Ok tokens → AreInOrder 0 tokens (length line)
in_order line tokens e =
    let h = subst (λ (r : Scanned). IsReading line r) e (scan_sound line) in
    order_of tokens 0 line h.0 h.1 (length line) (omega arith) h.2

slice_at : (before text more line : List ℕ) (at after : ℕ) → line ≡ before ++ (text ++ more) → at ≡ length before → after ≡ at + length text → slice_range line at after ≡ text
slice_at before text more line at after whole from to =
    let count : after - at ≡ length text = omega (arith, to) in
    ap (λ (k : ℕ). take (after - at) (drop k line)) from ∙ ap (λ (xs : List ℕ). take (after - at) (drop (length before) xs)) whole ∙ ap (take (after - at)) (drop-append_seam before (text ++ more))
    ∙ ap (λ (k : ℕ). take k (text ++ more)) count ∙ take-append_seam text more

slices_of : (tokens : List PlainToken) (all before : List ℕ) (at : ℕ) (line : List ℕ) (place : ℕ) (rest : List ℕ) → all ≡ before ++ line → at ≡ length before → TokensNext at line tokens place rest → AllByRecursion (IsSliceOf all) tokens
slices_of [] all before at line place rest whole from h = tt
slices_of (first ∷ tokens) all before at line place rest whole from (more, h, next) =
    let front : all ≡ (before ++ h.blanks) ++ (h.text ++ more) = whole ∙ ap (λ (xs : List ℕ). before ++ xs) h.whole ∙ sym (append_assoc before h.blanks (h.text ++ more)) in
    let here : first.at ≡ length (before ++ h.blanks) = omega (arith, h.from, from, length-append before h.blanks) in
    let slice : slice_range all first.at first.after ≡ h.text = slice_at (before ++ h.blanks) h.text more all first.at first.after front here h.to in
    let behind : all ≡ ((before ++ h.blanks) ++ h.text) ++ more = front ∙ sym (append_assoc (before ++ h.blanks) h.text more) in
    let end : first.after ≡ length ((before ++ h.blanks) ++ h.text) = omega (arith, here, h.to, length-append (before ++ h.blanks) h.text) in
    (subst (IsTokenText first.kind) (sym slice) h.is_text, slices_of tokens all ((before ++ h.blanks) ++ h.text) first.after more place rest behind end next)

-- each token of a line is its slice of it
pub are_slices : (line : List ℕ) (tokens : List PlainToken) → reading_of line ≡ Ok tokens → All (IsSliceOf line) tokens
are_slices line tokens e =
    let h = subst (λ (r : Scanned). IsReading line r) e (scan_sound line) in
    All-from_recursion (IsSliceOf line) tokens (slices_of tokens line [] 0 line h.0 h.1 refl refl h.2)

-- the steps of a scan
pub ruleset scans = (begins_scan, scans_token, scans_blank, scans_end, scans_unused, scans_malformed, in_order, are_slices)
