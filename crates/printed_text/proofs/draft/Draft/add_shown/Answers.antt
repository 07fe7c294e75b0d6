use Rattle.std.proofs.Common.{◌≡◌, ◌∷◌, ◌++◌, [], ℕ, List, ap, sym, ◌∙◌, refl}
use Rattle.sv_journal.specs.Output.{PlainTranscript}
use Rattle.printed_text.specs.Draft.{PlainDraft, of_user, takes_shown}
use Rattle.printed_text.specs.Printed.{plain_printed}
use Rattle.printed_text.specs.Section.{plain_section}
use Rattle.printed_text.proofs.Steps.{misplaced, no_user, shown_line}
use Rattle.printed_text.proofs.draft.Draft.add_shown.Goals.{in-User+in_ok-glyphs_at-in-User+in_ok-push-in-User, in_default}
use Rattle.printed_text.proofs.draft.Draft.add_shown.Goals as goal

pub returns : goal.returns
returns c = λ users. elim c.match-self.branch [
  | in-User+in_ok-glyphs_at-in-User+in_ok-push-in-User w ↦
      let one : PlainTranscript = plain_printed w.in-User.one in
      let next : PlainTranscript = record { user = w.in-User.one.user; lines = w.push.new.self.items } in
      rw (w.result-is, w.self-inside-is) (shown_line users c.args.self.now _ one next c.args.text.now w.in_ok-glyphs_at-in-User.field-0.items
      (ap (λ (d : PlainDraft). d.section) (sym c.self.view_is) ∙ ap plain_section w.in-User.is)
      (ap (λ (d : PlainDraft). record d { section = of_user next }) c.self.view_is) w.in_ok-glyphs_at-in-User.ensures
      (ap (λ (lines : List (List ℕ)). let t : PlainTranscript = record { user = w.in-User.one.user; lines = lines } in t) w.in_ok-push-in-User.ensures.ok))
  | in_default w ↦
      rw w.result-is (refl, misplaced users c.args.self.now c.args.text.now (ap (λ (d : PlainDraft). takes_shown d.section) (sym c.self.view_is) ∙ no_user c.self.inside.section w.in_default.not-User))
]
