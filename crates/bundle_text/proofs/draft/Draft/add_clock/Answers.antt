use Rattle.std.proofs.Common.{◌≡◌, ◌++◌, ℤ, List, map, pos, not, refl, sym, ap, ◌∙◌, arith}
use Rattle.bundle_text.specs.BundleLine.{clock}
use Rattle.bundle_text.specs.Draft.{PlainDraft, is_at_end}
use Rattle.bundle_text.specs.Section.{plain_section}
use Rattle.bundle_text.proofs.Added.{readings_fit, readings_more}
use Rattle.bundle_text.proofs.Steps.{line_added}
use Rattle.bundle_text.proofs.draft.Draft.add_clock.Goals as goal

pub returns : goal.returns
returns c =
    let old = c.args.self.now in
    let numbers = c.args.numbers.now in
    let inside = c.self-2.inside in
    let seen : List ℤ → PlainDraft = λ zs. record { users = inside.users.items; order = inside.order.items; files = inside.files.items; clock = zs; section = plain_section inside.section } in
    let read : c.as_slice.result.now ≡ old.clock = c.as_slice.ensures ∙ ap (λ (d : PlainDraft). d.clock) (c.self-2.view_is ∙ c.in_ok-begin.ensures) in
    λ digits is form.
    line_added old _ (clock digits) form (ap not (ap (λ (d : PlainDraft). is_at_end d.section) (sym c.self.view_is) ∙ (sym c.is_ended.ensures ∙ c.if-is_ended.false))) refl
    (readings_fit old c.as_slice.result.now numbers digits c.requires.bundle read is c.if-numbers-as_slice.false)
    (readings_more old c.begin.new.self _ numbers digits c.in_ok-begin.ensures is form
    (ap seen c.in_ok-add_readings.ensures ∙ ap (λ (d : PlainDraft). record d { clock = d.clock ++ map pos numbers }) c.self-2.view_is))
