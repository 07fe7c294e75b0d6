use Rattle.std.proofs.Common.{◌≡◌, refl, sym}
use Rattle.std.proofs.lemmas.Bool.{both_ways}
use Rattle.std.proofs.lemmas.Result.{err_from_is_err_and}
use Rattle.sv_events.specs.Entry.{plain_entry}
use Rattle.printed_text.specs.Line.{end, entry}
use Rattle.printed_text.proofs.Steps.{end_text, entry_line_text, no_entry, text_added, unspelled}
use Rattle.printed_text.proofs.draft.Draft.add_entry_line.Goals as goal

pub returns-then-is_end : goal.returns-then-is_end
returns-then-is_end c = λ users.
    text_added users c.args.self.now c.end.new.self end c.args.line.now c.args.offset c.end.result (end_text c.args.line.now (c.is_end.ensures.0 c.if-is_end.true)) (c.end.ensures users)

pub returns-in_err-glyphs : goal.returns-in_err-glyphs
returns-in_err-glyphs c =
    let p = err_from_is_err_and c.from_residual.result c.from_residual.ensures.1 in
    λ users. rw (p.1, p.2) (unspelled users c.args.self.now c.args.self.now c.args.line.now c.args.offset c.in_err-glyphs.field-0.0 c.in_err-glyphs.ensures)

pub returns-in-Ok : goal.returns-in-Ok
returns-in-Ok c =
    let read = c.in-Ok.ensures.value in
    λ users.
    text_added users c.args.self.now c.add_entry.new.self (entry c.in-Ok.place (plain_entry c.in-Ok.entry)) c.args.line.now c.args.offset c.add_entry.result
    (entry_line_text c.args.line.now c.in_ok-glyphs.glyphs.items c.in-Ok.place (plain_entry c.in-Ok.entry) c.in_ok-glyphs.ensures read.0 read.1) (c.add_entry.ensures users)

pub returns-in-Err-BadEntry : goal.returns-in-Err-BadEntry
returns-in-Err-BadEntry c = λ users. (
  refl,
  no_entry users c.args.self.now c.args.line.now c.in_ok-glyphs.glyphs.items c.requires.takes c.requires.plain (λ is. both_ways c.is_end.result c.if-is_end.false (c.is_end.ensures.1 is)) c.in_ok-glyphs.ensures
      (λ text. let no = c.in-Err-BadEntry.ensures.again text.place text.entry text.is text.text in cc),
)
