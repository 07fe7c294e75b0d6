use Rattle.std.proofs.Common.{◌≡◌, ◌<◌, ◌∙◌, ℕ, List, [], Ok, ap, arith, length, subst}
use Rattle.std.proofs.lemmas.Bool.Decides.{nat_tests}
use Rattle.text_reader.specs.Reading.{IsLeft, Stops}
use Rattle.text_reader.specs.declared.unread.Unread.{Unread}
use Rattle.printed_text.specs.UserReading.{read_user}
use Rattle.printed_text.proofs.UserHeadings.{more_left, none_read, nothing_left, user_found}
use Rattle.printed_text.proofs.heading.user_of.Goals as goal

pub returns-then-left-eq0 : goal.returns-then-left-eq0
returns-then-left-eq0 c =
    let rest = c.read_user.new.cursor in
    let read : read_user c.args.line.now ≡ Ok (c.in-Ok.number, rest) = subst (λ (line : List ℕ). read_user line ≡ Ok (c.in-Ok.number, rest)) c.new-cursor.ensures.value c.in-Ok.ensures.value in
    let none : length rest ≡ 0 = grind (arith, nat_tests) in
    user_found c.args.line.now c.in-Ok.number (read ∙ ap (λ (left : List ℕ). Ok (c.in-Ok.number, left)) (nothing_left rest none))

pub returns-else-left-eq0 : goal.returns-else-left-eq0
returns-else-left-eq0 c =
    let rest = c.read_user.new.cursor in
    let read : read_user c.args.line.now ≡ Ok (c.in-Ok.number, rest) = subst (λ (line : List ℕ). read_user line ≡ Ok (c.in-Ok.number, rest)) c.new-cursor.ensures.value c.in-Ok.ensures.value in
    let some : 0 < length rest = grind (arith, nat_tests) in
    more_left c.args.line.now c.in-Ok.number rest read (λ none. omega (arith, some, none))

pub returns-in-Err : goal.returns-in-Err
returns-in-Err c =
    let why : Unread = c.in-Err.field-0 in
    let stops : Stops why (read_user c.args.line.now) = subst (λ (line : List ℕ). Stops why (read_user line)) c.new-cursor.ensures.value c.in-Err.ensures.value in
    none_read c.args.line.now why stops (λ is. subst IsLeft is c.in-Err.ensures.free)
