use Rattle.std.proofs.Common.{refl, sym, ap, ◌∙◌}
use Rattle.std.proofs.lemmas.Result.{err_from_is_err_and}
use Rattle.apl_arrays.specs.FileList.{PlainFile}
use Rattle.bundle_text.specs.Draft.{PlainDraft, of_user, of_file, takes_content}
use Rattle.bundle_text.specs.Section.{plain_section}
use Rattle.bundle_text.specs.User.{plain_user}
use Rattle.bundle_text.proofs.Contents.{bad_content, misplaced_content, no_content, user_line, file_line}
use Rattle.bundle_text.proofs.draft.Draft.add_content.Goals.{in-User+in_ok-glyphs_at-in-User, in-File+in_ok-glyph_count_at-in-File, in_default}
use Rattle.bundle_text.proofs.draft.Draft.add_content.Goals as goal

pub returns-in_err-glyphs_at-in-User : goal.returns-in_err-glyphs_at-in-User
returns-in_err-glyphs_at-in-User c =
    let p = err_from_is_err_and c.from_residual.result c.from_residual.ensures.1 in
    rw (p.1, p.2) (bad_content c.args.self.now c.args.text.now c.args.offset c.in_err-glyphs_at-in-User.field-0.0 c.in_err-glyphs_at-in-User.ensures)

pub returns-in_err-glyph_count_at-in-File : goal.returns-in_err-glyph_count_at-in-File
returns-in_err-glyph_count_at-in-File c =
    let p = err_from_is_err_and c.from_residual-in_err-glyph_count_at-in-File.result c.from_residual-in_err-glyph_count_at-in-File.ensures.1 in
    rw (p.1, p.2) (bad_content c.args.self.now c.args.text.now c.args.offset c.in_err-glyph_count_at-in-File.field-0.0 c.in_err-glyph_count_at-in-File.ensures)

pub returns : goal.returns
returns c = elim c.match-self.branch [
  | in-User+in_ok-glyphs_at-in-User w ↦
      rw (w.result-is, w.self-inside-is) (user_line c.args.self.now _ (plain_user w.in-User.user) (plain_user w.add_input.new.user) c.args.text.now w.in_ok-glyphs_at-in-User.field-0.items c.args.offset w.add_input.result
      (ap (λ (d : PlainDraft). d.section) (sym c.self.view_is) ∙ ap plain_section w.in-User.is)
      (ap (λ (d : PlainDraft). record d { section = of_user (plain_user w.add_input.new.user) }) c.self.view_is)
      w.in_ok-glyphs_at-in-User.ensures w.add_input.ensures)
  | in-File+in_ok-glyph_count_at-in-File w ↦
      let one : PlainFile = record { name = w.in-File.file.name; bytes = w.in-File.file.bytes.items } in
      let next : PlainFile = record { name = w.add_text.new.file.name; bytes = w.add_text.new.file.bytes.items } in
      let counted = w.in_ok-glyph_count_at-in-File.ensures in
      rw (w.result-is, w.self-inside-is) (file_line c.args.self.now _ one next c.args.text.now counted.0 w.in_ok-glyph_count_at-in-File.field-0 c.args.offset w.add_text.result
      (ap (λ (d : PlainDraft). d.section) (sym c.self.view_is) ∙ ap plain_section w.in-File.is)
      (ap (λ (d : PlainDraft). record d { section = of_file next }) c.self.view_is)
      counted.1 counted.2 w.add_text.ensures.name w.add_text.ensures.bytes)
  | in_default w ↦
      rw w.result-is (misplaced_content c.args.self.now c.args.text.now c.args.offset w.misplaced.result w.misplaced.ensures
      (ap (λ (d : PlainDraft). takes_content d.section) (sym c.self.view_is) ∙ no_content c.self.inside.section w.in_default.not-User w.in_default.not-File))
]
