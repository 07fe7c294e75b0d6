use Rattle.std.proofs.Common.{◌≢◌, true, false, [], ◌∷◌, ap, length, refl, inl, inr, arith, codes}
use Rattle.std.specs.Char.{encode_utf8}
use Rattle.std.specs.Fmt.{digits}
use Rattle.std.specs.List.{All}
use Rattle.std.proofs.lemmas.List.Elements.{All-from_recursion}
use Rattle.apl_arrays.specs.Glyph.{IsGlyph}
use Rattle.line_text.specs.Lines.{HasNoFeed}
use Rattle.bundle_text.specs.BundleLine.{user, input, order, end}
use Rattle.bundle_text.proofs.worked.breaks_at_work.Goals as goal

pub returns-clause-nothing : goal.returns-clause-nothing
returns-clause-nothing c =
    record { before = []; rest = []; at = 0; sound = tt; whole = refl; place = refl; broken = inr (record { nothing = refl; no_end = refl; named = refl; front = refl }) }

pub returns-clause-no_end : goal.returns-clause-no_end
unfolding digits encode_utf8
returns-clause-no_end c = record {
  before = user 1001 ∷ [];
  rest = [];
  at = 0;
  sound = (record { form = (omega arith, omega arith); place = refl; parties = refl; limits = refl }, tt);
  whole = refl;
  place = refl;
  broken = inr (record { nothing = refl; no_end = refl; named = refl; front = refl });
}

bar_x : All IsGlyph (codes "|X")
bar_x = All-from_recursion IsGlyph (codes "|X") ((omega arith, omega arith, λ e. omega arith), ((omega arith, omega arith, λ e. omega arith), tt))

one_x : All IsGlyph (codes "X")
one_x = All-from_recursion IsGlyph (codes "X") ((omega arith, omega arith, λ e. omega arith), tt)

bar_x_clean : HasNoFeed (codes "|X")
bar_x_clean = All-from_recursion (λ byte. byte ≢ 10) (codes "|X") (λ e. omega (arith, e), (λ e. omega (arith, e), tt))

pub returns-clause-no_feed : goal.returns-clause-no_feed
unfolding digits encode_utf8
returns-clause-no_feed c = record {
  before = user 1001 ∷ [];
  rest = codes "|X";
  at = 0;
  sound = (record { form = (omega arith, omega arith); place = refl; parties = refl; limits = refl }, tt);
  whole = refl;
  place = refl;
  broken = inl (record {
    line = codes "|X";
    fed = false;
    first = record { no_feed = bar_x_clean; rest = []; whole = inr (refl, refl, omega arith) };
    broken = (refl, (codes "|X", (bar_x, refl)), refl, λ e. omega (arith, ap length e));
  });
}

pub returns-clause-misplaced : goal.returns-clause-misplaced
unfolding encode_utf8
returns-clause-misplaced c = record {
  before = [];
  rest = codes "|X\nend\n";
  at = 0;
  sound = tt;
  whole = refl;
  place = refl;
  broken = inl (record {
    line = codes "|X";
    fed = true;
    first = record { no_feed = bar_x_clean; rest = codes "end\n"; whole = inl (refl, refl) };
    broken = (refl, inl refl, record { line = input (codes "X"); text = (one_x, refl); broken = refl });
  });
}

end_clean : HasNoFeed (codes "end")
end_clean = All-from_recursion (λ byte. byte ≢ 10) (codes "end") (λ e. omega (arith, e), (λ e. omega (arith, e), (λ e. omega (arith, e), tt)))

pub returns-clause-two_ends : goal.returns-clause-two_ends
unfolding encode_utf8
returns-clause-two_ends c = record {
  before = end ∷ [];
  rest = codes "end\n";
  at = 0;
  sound = (record { form = tt; place = refl; parties = refl; limits = refl }, tt);
  whole = refl;
  place = refl;
  broken = inl (record {
    line = codes "end";
    fed = true;
    first = record { no_feed = end_clean; rest = []; whole = inl (refl, refl) };
    broken = (refl, inl refl, record { line = end; text = (tt, refl); broken = refl });
  });
}

order_clean : HasNoFeed (codes "order 1002")
order_clean = All-from_recursion (λ byte. byte ≢ 10) (codes "order 1002")
    (λ e. omega (arith, e), (λ e. omega (arith, e), (λ e. omega (arith, e), (λ e. omega (arith, e), (λ e. omega (arith, e), (λ e. omega (arith, e), (λ e. omega (arith, e), (λ e. omega (arith, e), (λ e. omega (arith, e), (λ e. omega (arith, e), tt))))))))))

pub returns-clause-stranger : goal.returns-clause-stranger
unfolding digits encode_utf8
returns-clause-stranger c = record {
  before = user 1001 ∷ [];
  rest = codes "order 1002\nend\n";
  at = 0;
  sound = (record { form = (omega arith, omega arith); place = refl; parties = refl; limits = refl }, tt);
  whole = refl;
  place = refl;
  broken = inl (record {
    line = codes "order 1002";
    fed = true;
    first = record { no_feed = order_clean; rest = codes "end\n"; whole = inl (refl, refl) };
    broken = (refl, inl refl, record { line = order (codes "1002" ∷ []); text = ((omega arith, refl), refl); broken = (refl, refl) });
  });
}
