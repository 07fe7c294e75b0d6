use Rattle.std.proofs.Common.{rules, ◌≡◌, ◌+◌, ◌++◌, ◌∷◌, [], ◌∙◌, ℕ, List, ap, sym, arith, append_assoc, get_or, subst, take, slice_set}
use Rattle.std.proofs.lemmas.List.{take_more, take_more_set}
use Rattle.std.proofs.lemmas.List.Elements.{All-more}
use Rattle.apl_arrays.specs.Glyph.{IsGlyph}
use Rattle.apl_arrays.proofs.text.write_codes.Goals as goal

pub loop-place-preserved : goal.loop-place-preserved
loop-place-preserved c =
    let start : ℕ = c.args.start in
    let place : ℕ = c.loop-place.place in
    let code : ℕ = c.code.result in
    let here : get_or c.args.line.now place c.index-line-place.result ≡ code = sym c.index-line-place.is ∙ sym c.code.ensures.value in
    record {
      whole = search rules;
      written =
          ap (λ (k : ℕ). take k (slice_set c.loop-place.bytes (start + place) code)) (let same : start + (place + 1) ≡ start + place + 1 = omega arith in same)
          ∙ take_more_set c.loop-place.bytes (start + place) code (omega (arith, c.loop-place.invariant.whole, c.loop-place-test.true))
          ∙ ap (λ (front : List ℕ). front ++ code ∷ []) c.loop-place.invariant.written
          ∙ append_assoc (take start c.args.bytes.now) (take place c.args.line.now) (code ∷ [])
          ∙ ap (λ (back : List ℕ). take start c.args.bytes.now ++ back)
          (sym (take_more c.args.line.now place c.index-line-place.result c.loop-place-test.true ∙ ap (λ (k : ℕ). take place c.args.line.now ++ k ∷ []) here));
      glyphs = All-more IsGlyph c.args.line.now place c.index-line-place.result (omega arith) c.loop-place.invariant.glyphs (subst IsGlyph (sym here) c.code.ensures.glyph);
    }
