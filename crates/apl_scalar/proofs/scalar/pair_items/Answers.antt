use Rattle.std.proofs.Common.{◌≡◌, sym, ap, subst}
use Rattle.apl_arrays.specs.Array.{PlainItems, chars, numbers, seen_items}
use Rattle.apl_items.specs.Places.{HasItems, OnWantOfMemory}
use Rattle.apl_scalar.specs.Scalar.{dyadic_at}
use Rattle.apl_scalar.proofs.scalar.pair_items.Goals as goal

pub returns-in-Numbers-Numbers-clause-memory : goal.returns-in-Numbers-Numbers-clause-memory
returns-in-Numbers-Numbers-clause-memory c =
    let in_a : numbers c.in-Numbers-Numbers.a.now ≡ seen_items c.args.a = sym (ap seen_items c.in-Numbers-Numbers.is-0) in
    let in_b : numbers c.in-Numbers-Numbers.b.now ≡ seen_items c.args.b = sym (ap seen_items c.in-Numbers-Numbers.is-1) in
    subst (λ (i : PlainItems). OnWantOfMemory c.dyadic_items.result (HasItems c.args.count (dyadic_at c.args.f (seen_items c.args.a) i))) in_b
    (subst (λ (i : PlainItems). OnWantOfMemory c.dyadic_items.result (HasItems c.args.count (dyadic_at c.args.f i (numbers c.in-Numbers-Numbers.b.now)))) in_a c.dyadic_items.ensures.memory)

pub returns-in-Chars-Chars-clause-memory : goal.returns-in-Chars-Chars-clause-memory
returns-in-Chars-Chars-clause-memory c =
    let in_a : chars c.in-Chars-Chars.a.now ≡ seen_items c.args.a = sym (ap seen_items c.in-Chars-Chars.is-0) in
    let in_b : chars c.in-Chars-Chars.b.now ≡ seen_items c.args.b = sym (ap seen_items c.in-Chars-Chars.is-1) in
    subst (λ (i : PlainItems). OnWantOfMemory c.glyph_items.result (HasItems c.args.count (dyadic_at c.args.f (seen_items c.args.a) i))) in_b
    (subst (λ (i : PlainItems). OnWantOfMemory c.glyph_items.result (HasItems c.args.count (dyadic_at c.args.f i (chars c.in-Chars-Chars.b.now)))) in_a c.glyph_items.ensures.memory)
