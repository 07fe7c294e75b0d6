use Rattle.std.proofs.Common.{List, [], ◌∷◌, pos, refl, inl, inr, arith, codes}
use Rattle.std.specs.Char.{encode_utf8}
use Rattle.std.specs.Fmt.{digits}
use Rattle.std.specs.List.{All}
use Rattle.std.proofs.lemmas.Bool.{false≢true}
use Rattle.std.proofs.lemmas.List.Elements.{All-nil, All-from_recursion}
use Rattle.apl_arrays.specs.Glyph.{IsGlyph}
use Rattle.bundle_text.specs.Rules.{IsUser, IsContent, IsFile, IsClockReading}
use Rattle.bundle_text.specs.BundleLine.{IsBundleLine, IsReadingText, user, input, order, file, clock, end}
use Rattle.bundle_text.specs.Bundle.{Sheet}
use Rattle.bundle_text.specs.User.{PlainUser}
use Rattle.bundle_text.proofs.worked.texts_at_work.Goals as goal

pub returns-clause-none : goal.returns-clause-none
unfolding encode_utf8
returns-clause-none c = record {
  rules = record {
    few = omega arith;
    ascending = tt;
    each = All-nil IsUser;
    few_turns = omega arith;
    parties = refl;
    few_files = omega arith;
    names_ascend = tt;
    each_file = All-nil IsFile;
    few_readings = omega arith;
    readings = All-nil IsClockReading;
  };
  page = record { users = []; orders = []; files = []; clocks = [] };
  says = refl;
  forms = All-from_recursion IsBundleLine (end ∷ []) (tt, tt);
  short = All-nil (λ (sheet : Sheet). All IsContent sheet.lines);
  text = inr refl;
}

line_x : IsContent (codes "X")
line_x = record { glyphs = All-from_recursion IsGlyph (codes "X") ((omega arith, omega arith, λ e. omega arith), tt); short = omega arith }

abbrev user_x : PlainUser
user_x = record { number = 1001; lines = codes "X" ∷ [] }

rules_of_user : IsUser user_x
rules_of_user = record { number = (omega arith, omega arith); few = omega arith; each = All-from_recursion IsContent (codes "X" ∷ []) (line_x, tt) }

pub returns-clause-one : goal.returns-clause-one
unfolding digits encode_utf8
returns-clause-one c = record {
  rules = record {
    few = omega arith;
    ascending = tt;
    each = All-from_recursion IsUser (user_x ∷ []) (rules_of_user, tt);
    few_turns = omega arith;
    parties = refl;
    few_files = omega arith;
    names_ascend = tt;
    each_file = All-nil IsFile;
    few_readings = omega arith;
    readings = All-nil IsClockReading;
  };
  page = record { users = user_x ∷ []; orders = []; files = []; clocks = [] };
  says = refl;
  forms = All-from_recursion IsBundleLine (user 1001 ∷ input (codes "X") ∷ end ∷ []) ((omega arith, omega arith), (line_x.glyphs, (tt, tt)));
  short = All-nil (λ (sheet : Sheet). All IsContent sheet.lines);
  text = inr refl;
}

abbrev plain_one : PlainUser
plain_one = record { number = 1001; lines = [] }

rules_of_plain : IsUser plain_one
rules_of_plain = record { number = (omega arith, omega arith); few = omega arith; each = All-nil IsContent }

no_glyphs : IsContent []
no_glyphs = record { glyphs = All-nil IsGlyph; short = omega arith }

two_lines : All IsContent (codes "X" ∷ [] ∷ [])
two_lines = All-from_recursion IsContent (codes "X" ∷ [] ∷ []) (line_x, (no_glyphs, tt))

abbrev sheet_a : Sheet
sheet_a = record { name = codes "A"; lines = codes "X" ∷ [] ∷ [] }

two_readings : All IsReadingText (codes "0" ∷ codes "7" ∷ [])
two_readings = All-from_recursion IsReadingText (codes "0" ∷ codes "7" ∷ []) (record { numeral = refl; small = omega arith }, (record { numeral = refl; small = omega arith }, tt))

pub returns-clause-whole : goal.returns-clause-whole
unfolding digits encode_utf8
returns-clause-whole c = record {
  rules = record {
    few = omega arith;
    ascending = tt;
    each = All-from_recursion IsUser (plain_one ∷ []) (rules_of_plain, tt);
    few_turns = omega arith;
    parties = refl;
    few_files = omega arith;
    names_ascend = tt;
    each_file = All-from_recursion IsFile (record { name = codes "A"; bytes = codes "X\n\n" } ∷ []) (record { name = refl; lines = codes "X" ∷ [] ∷ []; each = two_lines; bytes = refl }, tt);
    few_readings = omega arith;
    readings = All-from_recursion IsClockReading (pos 0 ∷ pos 7 ∷ []) (omega arith, (omega arith, tt));
  };
  page = record { users = plain_one ∷ []; orders = (codes "1001" ∷ codes "10" ∷ []) ∷ (codes "20" ∷ []) ∷ []; files = sheet_a ∷ []; clocks = (codes "0" ∷ codes "7" ∷ []) ∷ [] };
  says = refl;
  forms = All-from_recursion IsBundleLine
      (user 1001 ∷ order (codes "1001" ∷ codes "10" ∷ []) ∷ order (codes "20" ∷ []) ∷ file (codes "A") ∷ input (codes "X") ∷ input [] ∷ clock (codes "0" ∷ codes "7" ∷ []) ∷ end ∷ [])
      ((omega arith, omega arith), ((omega arith, refl), ((omega arith, refl), (refl, (line_x.glyphs, (All-nil IsGlyph, ((omega arith, two_readings), (tt, tt))))))));
  short = All-from_recursion (λ (sheet : Sheet). All IsContent sheet.lines) (sheet_a ∷ []) (two_lines, tt);
  text = inl refl;
}

pub returns-clause-descending : goal.returns-clause-descending
returns-clause-descending c = λ rules. omega (arith, rules.ascending.0)

pub returns-clause-stranger : goal.returns-clause-stranger
returns-clause-stranger c = λ rules. false≢true rules.parties
