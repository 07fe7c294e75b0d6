use Rattle.std.proofs.Common.{◌≡◌, List, ℕ, Ok, subst}
use Rattle.text_reader.specs.Reading.{Stops}
use Rattle.bundle_text.specs.Heading.{plain_heading}
use Rattle.bundle_text.specs.HeadingReading.{read_heading}
use Rattle.bundle_text.proofs.Headings.{nothing_found, whole_found}
use Rattle.bundle_text.proofs.heading.heading_of.Goals as goal

pub returns-in-Ok : goal.returns-in-Ok
returns-in-Ok c =
    let read : read_heading c.args.line.now ≡ Ok (plain_heading c.in-Ok.heading, c.read_heading.new.cursor) = subst (λ (line : List ℕ). read_heading line ≡ Ok (plain_heading c.in-Ok.heading, c.read_heading.new.cursor)) c.new-cursor.ensures.value c.in-Ok.ensures in
    whole_found c.args.line.now c.in-Ok.heading c.read_heading.new.cursor read c.whole_heading.result c.whole_heading.ensures.whole c.whole_heading.ensures.more

pub returns-in-Err : goal.returns-in-Err
returns-in-Err c =
    let stops : Stops c.in-Err.why (read_heading c.args.line.now) = subst (λ (line : List ℕ). Stops c.in-Err.why (read_heading line)) c.new-cursor.ensures.value c.in-Err.ensures in
    nothing_found c.args.line.now c.in-Err.why c.no_heading.result stops c.no_heading.ensures
