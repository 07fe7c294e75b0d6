use Rattle.std.proofs.Common.{◌≡◌, Ok, ◌∙◌, sym, subst}
use Rattle.std.proofs.lemmas.List.Elements.{recursion_from_All}
use Rattle.apl_arrays.specs.Glyph.{IsGlyph}
use Rattle.sv_events.specs.Entry.{plain_entry}
use Rattle.text_reader.specs.Reading.{Stops}
use Rattle.text_reader.proofs.Readers.{AreGlyphs}
use Rattle.sv_journal.specs.EntryReading.{read_entry}
use Rattle.sv_journal.specs.ReadsEntry.{Departs}
use Rattle.sv_journal.proofs.ReadLaws.{entry_found, found_is_this, departs_so, never_so}
use Rattle.sv_journal.proofs.entry_reading.read.Goals as goal

pub returns-in-Ok : goal.returns-in-Ok
returns-in-Ok c =
    let same : c.new-cursor.result ≡ c.args.line.now.items = c.new-cursor.ensures.value ∙ c.as_slice.ensures in
    let glyphs : AreGlyphs c.args.line.now.items = subst AreGlyphs c.as_slice.ensures (recursion_from_All IsGlyph c.as_slice.result.now c.new-cursor.ensures.glyphs) in
    let read : read_entry c.args.line.now.items ≡ Ok ((c.in-Ok.found.0, plain_entry c.in-Ok.found.1), c.read_entry.new.cursor) = subst (λ line. read_entry line ≡ Ok ((c.in-Ok.found.0, plain_entry c.in-Ok.found.1), c.read_entry.new.cursor)) same c.in-Ok.ensures in
    record {
      value = entry_found c.args.line.now.items glyphs c.in-Ok.found.0 (plain_entry c.in-Ok.found.1) c.read_entry.new.cursor read;
      again = λ place entry is text. found_is_this c.args.line.now.items glyphs c.in-Ok.found.0 place (plain_entry c.in-Ok.found.1) entry c.read_entry.new.cursor read is text;
    }

pub returns-in-Err : goal.returns-in-Err
returns-in-Err c =
    let same : c.new-cursor.result ≡ c.args.line.now.items = c.new-cursor.ensures.value ∙ c.as_slice.ensures in
    let glyphs : AreGlyphs c.args.line.now.items = subst AreGlyphs c.as_slice.ensures (recursion_from_All IsGlyph c.as_slice.result.now c.new-cursor.ensures.glyphs) in
    let stops : Stops c.in-Err.why (read_entry c.args.line.now.items) = subst (λ line. Stops c.in-Err.why (read_entry line)) same c.in-Err.ensures in
    record {
      value = subst (λ r. Departs r c.args.line.now.items) (sym c.refused.ensures) (departs_so c.args.line.now.items glyphs c.in-Err.why stops);
      again = λ place entry is text. c.refused.ensures ∙ never_so c.args.line.now.items glyphs c.in-Err.why stops place entry is text;
    }
