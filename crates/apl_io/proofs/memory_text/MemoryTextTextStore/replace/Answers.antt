use Rattle.std.proofs.Common.{◌∙◌, sym, refl, map, None, Some}
use Rattle.std.specs.BTreeMap.{is_at}
use Rattle.apl_arrays.specs.Name.{name_order}
use Rattle.apl_io.specs.Kept.{file_entry, text_entry}
use Rattle.apl_io.proofs.Entries.{front_changed}
use Rattle.apl_io.proofs.memory_text.MemoryTextTextStore.replace.Goals as goal

pub returns-then-counts-clause-writes : goal.returns-then-counts-clause-writes
returns-then-counts-clause-writes c = rw (← c.self.view_is) (record {
  numbered = sym c.counts.ensures.listed ∙ c.if-counts.true;
  counted = c.counts.ensures.counted;
  places = refl;
  fails = refl;
  entries = λ other. front_changed (is_at (name_order other)) (map text_entry c.self.inside.written.entries) (map text_entry c.put.new.written.entries) (map file_entry c.self.inside.given.items) (is_at (name_order c.args.name.now) other) None (c.in_ok-put.ensures.ok other);
})

pub returns-clause-writes : goal.returns-clause-writes
returns-clause-writes c = rw (← c.self.view_is) (record {
  numbered = sym c.counts.ensures.listed ∙ c.if-counts.false;
  counted = c.counts.ensures.counted;
  places = refl;
  fails = refl;
  entries = λ other. rw (← c.in_ok-bytes.ensures) (front_changed (is_at (name_order other)) (map text_entry c.self.inside.written.entries) (map text_entry c.put-2.new.written.entries) (map file_entry c.self.inside.given.items) (is_at (name_order c.args.name.now) other) (Some c.in_ok-bytes.bytes.items) (c.in_ok-put-2.ensures.ok other));
})
