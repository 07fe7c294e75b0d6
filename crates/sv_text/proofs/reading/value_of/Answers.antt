use Rattle.std.proofs.Common.{◌≡◌, Ok, Err, sym, ◌∙◌, subst}
use Rattle.std.specs.List.{All}
use Rattle.apl_arrays.specs.Glyph.{IsGlyph}
use Rattle.text_reader.specs.Reading.{Stops}
use Rattle.sv_text.specs.ReadsValue.{HoldsNoValue}
use Rattle.sv_text.specs.ValueReading.{read_array}
use Rattle.sv_text.proofs.ValueLaws.{whole_is_read, whole_is_this, stopped_so, never_so}
use Rattle.sv_text.proofs.reading.value_of.Goals as goal

pub returns-in-Err : goal.returns-in-Err
returns-in-Err c =
    let same : c.new-cursor.result ≡ c.args.line.now.items = c.new-cursor.ensures.value ∙ c.as_slice.ensures in
    let glyphs : All IsGlyph c.args.line.now.items = subst (All IsGlyph) c.as_slice.ensures c.new-cursor.ensures.glyphs in
    let stops : Stops c.in-Err.why (read_array c.args.line.now.items) = subst (λ line. Stops c.in-Err.why (read_array line)) same c.in-Err.ensures in
    record {
      value = subst (λ r. HoldsNoValue r c.args.line.now.items) (sym c.refused.ensures) (stopped_so c.args.line.now.items glyphs c.in-Err.why stops);
      again = λ array fits text. c.refused.ensures ∙ never_so c.args.line.now.items glyphs c.in-Err.why stops array fits text;
    }

pub returns-in-Ok : goal.returns-in-Ok
returns-in-Ok c =
    let same : c.new-cursor.result ≡ c.args.line.now.items = c.new-cursor.ensures.value ∙ c.as_slice.ensures in
    let glyphs : All IsGlyph c.args.line.now.items = subst (All IsGlyph) c.as_slice.ensures c.new-cursor.ensures.glyphs in
    let read : read_array c.args.line.now.items ≡ Ok (c.in-Ok.array, c.array_ahead.new.cursor) = subst (λ line. read_array line ≡ Ok (c.in-Ok.array, c.array_ahead.new.cursor)) same c.in-Ok.ensures in
    record {
      value = whole_is_read c.args.line.now.items glyphs c.in-Ok.array c.array_ahead.new.cursor read c.whole_value.result c.whole_value.ensures.whole c.whole_value.ensures.more;
      again = λ array fits text. whole_is_this c.args.line.now.items glyphs c.in-Ok.array c.array_ahead.new.cursor read c.whole_value.result c.whole_value.ensures.whole array fits text;
    }
