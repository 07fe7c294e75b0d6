-- The line of an offset, found by reading lines from the front.
use Rattle.std.proofs.Common.{◌≡◌, ℕ, ◌+◌, ◌-◌, ◌<◌, ◌≤◌, List, [], ◌∷◌, ◌++◌, length, inl, inr, refl, sym, ap, ◌∙◌, arith, append-nil, append_assoc, length-append}
use Rattle.line_text.specs.Lines.{line_feed, HasNoFeed}
use Rattle.refusal_lines.specs.Marked.{EndsLines, IsLineAt}

-- lines were read up to what is left, and the offset is not in front of that
pub record StandsIn (bytes rest : List ℕ) (offset : ℕ) : Type 0 where
  pub before : List ℕ
  pub whole : bytes ≡ before ++ rest
  pub begins : EndsLines before
  pub passed : length before ≤ offset

pub none_read : (bytes : List ℕ) (offset : ℕ) → StandsIn bytes bytes offset
none_read bytes offset = record { before = []; whole = refl; begins = inl refl; passed = omega arith }

-- what is left has no more bytes than all
pub left_within : (bytes rest : List ℕ) (offset : ℕ) → StandsIn bytes rest offset → length rest ≤ length bytes
left_within bytes rest offset stands = omega (arith, ap length stands.whole, length-append stands.before rest)

-- so many were read
pub read_within : (bytes rest : List ℕ) (offset : ℕ) → StandsIn bytes rest offset → length bytes - length rest ≤ offset
read_within bytes rest offset stands = omega (arith, stands.passed, ap length stands.whole, length-append stands.before rest)

pub one_line_read : (bytes rest line after : List ℕ) (offset : ℕ) → StandsIn bytes rest offset → rest ≡ line ++ line_feed ∷ after → length line < offset - (length bytes - length rest) → StandsIn bytes after offset
one_line_read bytes rest line after offset stands split past = record {
  before = stands.before ++ (line ++ line_feed ∷ []);
  whole = stands.whole ∙ (ap (λ (end : List ℕ). stands.before ++ end) (split ∙ sym (append_assoc line (line_feed ∷ []) after)) ∙ sym (append_assoc stands.before (line ++ line_feed ∷ []) after));
  begins = inr (stands.before ++ line, sym (append_assoc stands.before line (line_feed ∷ [])));
  passed = omega (arith, past, stands.passed, ap length stands.whole, length-append stands.before rest, length-append stands.before (line ++ line_feed ∷ []), length-append line (line_feed ∷ []));
}

pub in_this_line : (bytes rest line after : List ℕ) (offset : ℕ) → StandsIn bytes rest offset → rest ≡ line ++ line_feed ∷ after → HasNoFeed line → offset - (length bytes - length rest) ≤ length line
    → IsLineAt bytes offset line (offset - (length bytes - length rest))
in_this_line bytes rest line after offset stands split no_feed within = record {
  before = stands.before;
  behind = line_feed ∷ after;
  whole = stands.whole ∙ ap (λ (end : List ℕ). stands.before ++ end) split;
  there = omega (arith, stands.passed, ap length stands.whole, length-append stands.before rest);
  within = within;
  no_feed = no_feed;
  begins = stands.begins;
  ends = inr (after, refl);
}

pub in_the_last : (bytes rest : List ℕ) (offset : ℕ) → StandsIn bytes rest offset → HasNoFeed rest → offset ≤ length bytes
    → IsLineAt bytes offset rest (offset - (length bytes - length rest))
in_the_last bytes rest offset stands no_feed within = record {
  before = stands.before;
  behind = [];
  whole = stands.whole ∙ ap (λ (end : List ℕ). stands.before ++ end) (sym (append-nil rest));
  there = omega (arith, stands.passed, ap length stands.whole, length-append stands.before rest);
  within = omega (arith, within, stands.passed, ap length stands.whole, length-append stands.before rest);
  no_feed = no_feed;
  begins = stands.begins;
  ends = inl refl;
}
