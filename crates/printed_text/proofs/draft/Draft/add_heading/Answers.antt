use Rattle.std.proofs.Common.{◌≡◌, ◌≢◌, ◌∙◌, ℕ, List, option_copied, refl, sym, subst}
use Rattle.std.proofs.lemmas.Bool.{both_ways}
use Rattle.std.proofs.lemmas.Result.{err_from_is_err_and}
use Rattle.line_text.specs.Lines.{heading}
use Rattle.printed_text.specs.Line.{IsUserNumber, user}
use Rattle.printed_text.proofs.Steps.{no_heading, text_added, unspelled, user_text}
use Rattle.printed_text.proofs.draft.Draft.add_heading.Goals as goal

pub returns-in_err-glyphs : goal.returns-in_err-glyphs
returns-in_err-glyphs c =
    let p = err_from_is_err_and c.from_residual.result c.from_residual.ensures.1 in
    rw (p.1, p.2) (unspelled (option_copied c.args.users) c.args.self.now c.args.self.now c.args.line.now c.args.offset c.in_err-glyphs.field-0.0 c.in_err-glyphs.ensures)

pub returns-in-None : goal.returns-in-None
returns-in-None c =
    let none : (number : ℕ) → IsUserNumber number → c.in_ok-glyphs.glyphs.items ≢ heading number = subst (λ (line : List ℕ). (number : ℕ) → IsUserNumber number → line ≢ heading number) c.as_slice.ensures c.in-None.ensures in (
      refl,
      no_heading (option_copied c.args.users) c.args.self.now c.args.line.now c.in_ok-glyphs.glyphs.items c.requires.takes c.requires.plain (λ is. both_ways c.is_journal.result c.if-is_journal.false (c.is_journal.ensures.1 is))
          c.in_ok-glyphs.ensures none,
    )

pub returns : goal.returns
returns c =
    let found = c.in-Some.ensures in
    text_added (option_copied c.args.users) c.args.self.now c.begin_user.new.self (user c.in-Some.number) c.args.line.now c.args.offset c.begin_user.result
    (user_text c.args.line.now c.in_ok-glyphs.glyphs.items c.in-Some.number c.in_ok-glyphs.ensures found.0 (sym c.as_slice.ensures ∙ found.1)) c.begin_user.ensures
