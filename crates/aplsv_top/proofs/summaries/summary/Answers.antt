use Rattle.std.proofs.Common.{◌≡◌, ◌++◌, ◌∷◌, ◌∙◌, ℕ, List, [], ap, codes, cond, decimal, length, map, sym}
use Rattle.std.proofs.lemmas.List.{length-map}
use Rattle.line_text.specs.Lines.{content, end_line, line_text, lines_text}
use Rattle.sv_events.specs.Entry.{PlainEntry, plain_entry}
use Rattle.aplsv_top.specs.Summary.{summary_line, held_count, last_line, line_count, was_held}
use Rattle.aplsv_top.proofs.SummaryLines.{six, sum_by-map}
use Rattle.aplsv_top.proofs.summaries.summary.Goals as goal

-- the lines of a summary, by its numbers
abbrev lines_of : ℕ → ℕ → ℕ → ℕ → List ℕ → List ℕ
lines_of n entries held lines last =
    lines_text (summary_line (codes "load") n ∷ summary_line (codes "entries") entries ∷ summary_line (codes "held") held ∷ summary_line (codes "lines") lines ∷ content last ∷ end_line ∷ [])

abbrev with_number : List ℕ → ℕ → List ℕ
with_number word number = line_text (word ++ decimal number)

pub returns : goal.returns
returns c =
    let last : List ℕ = c.shown_line.result.now.items in
    let a : List ℕ = with_number (codes "load ") c.from.result in
    let b : List ℕ = with_number (codes "entries ") (length c.args.journal.now) in
    let d : List ℕ = with_number (codes "held ") c.held_count.result in
    let e : List ℕ = with_number (codes "lines ") c.in_ok-lines.lines in
    let one : c.add_counted.new.bytes.items ≡ a = c.in_ok-add_counted.ensures ∙ ap (λ (before : List ℕ). before ++ a) c.new-bytes.ensures.items in
    let two : c.add_counted-2.new.bytes.items ≡ a ++ b = c.in_ok-add_counted-2.ensures ∙ ap (λ (before : List ℕ). before ++ b) one in
    let three : c.add_counted-3.new.bytes.items ≡ (a ++ b) ++ d = c.in_ok-add_counted-3.ensures ∙ ap (λ (before : List ℕ). before ++ d) two in
    let four : c.add_counted-4.new.bytes.items ≡ ((a ++ b) ++ d) ++ e = c.in_ok-add_counted-4.ensures ∙ ap (λ (before : List ℕ). before ++ e) three in
    let five : c.add_content.new.bytes.items ≡ (((a ++ b) ++ d) ++ e) ++ line_text (content last) = c.in_ok-add_content.ensures.text ∙ ap (λ (before : List ℕ). before ++ line_text (content last)) four in
    let all : c.add_word.new.bytes.items ≡ ((((a ++ b) ++ d) ++ e) ++ line_text (content last)) ++ line_text end_line = c.in_ok-add_word.ensures.text ∙ ap (λ (before : List ℕ). before ++ line_text end_line) five in
    let grouped : ((((a ++ b) ++ d) ++ e) ++ line_text (content last)) ++ line_text end_line ≡ lines_of c.from.result (length c.args.journal.now) c.held_count.result c.in_ok-lines.lines last =
    six a b d e (line_text (content last)) (line_text end_line) in
    let given : c.from.result ≡ c.args.n = c.from.ensures in
    let entries : length c.args.journal.now ≡ length (map plain_entry c.args.journal.now) = sym (length-map c.args.journal.now plain_entry) in
    let held : c.held_count.result ≡ held_count (map plain_entry c.args.journal.now) = c.held_count.ensures ∙ sym (sum_by-map (λ (entry : PlainEntry). cond (was_held entry) 1 0) plain_entry c.args.journal.now) in
    let lines : c.in_ok-lines.lines ≡ line_count c.args.transcripts.now.items = c.in_ok-lines.ensures ∙ ap line_count c.as_slice.ensures.value in
    record {
      last = last;
      there = sym (ap last_line c.as_slice-2.ensures.value) ∙ c.shown_line.ensures;
      lines = c.from-2.ensures ∙ (all ∙ (grouped ∙ (λ i. lines_of (given i) (entries i) (held i) (lines i) last)));
    }
