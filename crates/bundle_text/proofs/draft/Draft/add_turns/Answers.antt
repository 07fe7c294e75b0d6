use Rattle.std.proofs.Common.{◌≡◌, ◌++◌, ℕ, List, map, true, refl, sym, ap, ◌∙◌}
use Rattle.bundle_text.specs.BundleLine.{order}
use Rattle.bundle_text.specs.Draft.{PlainDraft, turns_may_stand, users_so_far}
use Rattle.bundle_text.specs.Section.{plain_section}
use Rattle.bundle_text.specs.User.{plain_user}
use Rattle.bundle_text.proofs.Added.{parties_named, small_parties, turns_fit, too_many_turns, turns_more}
use Rattle.bundle_text.proofs.Steps.{line_added, no_party, no_room}
use Rattle.bundle_text.proofs.draft.Draft.add_turns.Goals as goal

pub returns-then-not-are_parties : goal.returns-then-not-are_parties
returns-then-not-are_parties c =
    let old = c.args.self.now in
    let users = map plain_user c.as_slice.result.now in
    let are : users ≡ users_so_far old = c.as_slice.ensures.value ∙ ap (λ (d : PlainDraft). d.users) (c.self-2.view_is ∙ c.in_ok-begin.ensures) in
    λ digits is form.
    no_party old (order digits) c.args.offset c.malformed-then-not-are_parties.result c.malformed-then-not-are_parties.ensures
    (ap (λ (d : PlainDraft). turns_may_stand d.section) (sym c.self.view_is) ∙ (sym c.takes_turns.ensures ∙ c.if-not-takes_turns.false))
    (parties_named old users c.args.numbers.now digits c.are_parties.result c.requires are is c.are_parties.ensures ∙ c.if-not-are_parties.true)

pub returns-then-numbers-as_slice : goal.returns-then-numbers-as_slice
returns-then-numbers-as_slice c =
    let old = c.args.self.now in
    let users = map plain_user c.as_slice.result.now in
    let began = c.self-2.view_is ∙ c.in_ok-begin.ensures in
    let are : users ≡ users_so_far old = c.as_slice.ensures.value ∙ ap (λ (d : PlainDraft). d.users) began in
    let turned : c.as_slice-2.result.now ≡ old.order = c.as_slice-2.ensures ∙ ap (λ (d : PlainDraft). d.order) began in
    λ digits is form.
    no_room old (order digits) c.args.offset c.malformed-then-numbers-as_slice.result c.malformed-then-numbers-as_slice.ensures
    (ap (λ (d : PlainDraft). turns_may_stand d.section) (sym c.self.view_is) ∙ (sym c.takes_turns.ensures ∙ c.if-not-takes_turns.false))
    (parties_named old users c.args.numbers.now digits c.are_parties.result c.requires are is c.are_parties.ensures ∙ c.if-not-are_parties.false)
    (too_many_turns old c.as_slice-2.result.now c.args.numbers.now digits c.requires turned is c.if-numbers-as_slice.true)

pub add_parties-requires : goal.add_parties-requires
add_parties-requires c =
    let old = c.args.self.now in
    let users = map plain_user c.as_slice.result.now in
    let are : users ≡ users_so_far old = c.as_slice.ensures.value ∙ ap (λ (d : PlainDraft). d.users) (c.self-2.view_is ∙ c.in_ok-begin.ensures) in
    small_parties old users c.args.numbers.now c.requires are (sym c.are_parties.ensures ∙ c.if-not-are_parties.false)

pub returns : goal.returns
returns c =
    let old = c.args.self.now in
    let numbers = c.args.numbers.now in
    let users = map plain_user c.as_slice.result.now in
    let inside = c.self-2.inside in
    let seen : List ℕ → PlainDraft = λ ns. record { users = inside.users.items; order = ns; files = inside.files.items; clock = inside.clock.items; section = plain_section inside.section } in
    let began = c.self-2.view_is ∙ c.in_ok-begin.ensures in
    let are : users ≡ users_so_far old = c.as_slice.ensures.value ∙ ap (λ (d : PlainDraft). d.users) began in
    let turned : c.as_slice-2.result.now ≡ old.order = c.as_slice-2.ensures ∙ ap (λ (d : PlainDraft). d.order) began in
    λ digits is form.
    let named = parties_named old users numbers digits c.are_parties.result c.requires are is c.are_parties.ensures ∙ c.if-not-are_parties.false in
    line_added old _ (order digits) form (ap (λ (d : PlainDraft). turns_may_stand d.section) (sym c.self.view_is) ∙ (sym c.takes_turns.ensures ∙ c.if-not-takes_turns.false)) named
    (turns_fit old c.as_slice-2.result.now numbers digits c.requires turned is c.if-numbers-as_slice.false)
    (turns_more old c.begin.new.self _ numbers digits c.requires c.in_ok-begin.ensures is named
    (ap seen c.in_ok-add_parties.ensures ∙ ap (λ (d : PlainDraft). record d { order = d.order ++ numbers }) c.self-2.view_is))
