-- Entries that are looked up: after a change of one, and some before others.
use Rattle.std.proofs.Common.{◌≡◌, ◌∙◌, ℕ, List, [], ◌∷◌, ◌++◌, Bool, true, false, cond, Option, Some, None, map, refl, sym, ap, Bor}
use Rattle.std.specs.List.{find}
use Rattle.std.proofs.lemmas.Bool.{false≢true}
use Rattle.std.specs.Option.{option_map, option_or, option_copied, is_some}
use Rattle.std.specs.BTreeMap as tree
use Rattle.std.specs.BTreeMap.{BTreeMap, is_at}
use Rattle.std.specs.Map.{lookup}
use Rattle.std.specs.Ordering.{nat_cmp}
use Rattle.std.specs.Cmp.Lexicographic.{slice_cmp}
use Rattle.std.specs.Str.{bytes_eq}
use Rattle.std.specs.String.{string_bytes, string_cmp}
use Rattle.std.specs.declared.string.String.{String}
use Rattle.std.specs.declared.alloc.Global.{Global}
use Rattle.std.proofs.lemmas.Map.Made.{lookup-map_values}
use Rattle.std.proofs.lemmas.Map.Text.{is_eq-slice_cmp, btree_map_updates_text}
use Rattle.apl_arrays.specs.List.{Listed}
use Rattle.apl_arrays.specs.FileList.{PlainFile, plain_file}
use Rattle.apl_arrays.specs.declared.file_list.File.{File}
use Rattle.apl_arrays.specs.Name.{name_order}
use Rattle.apl_io.specs.Content.{by_user_and_name, MayRead, MayRemove}
use Rattle.apl_io.specs.Kept.{file_entry, text_entry, shelf_entry}
use Rattle.apl_io.specs.Replies.{plain_bytes}

-- a choice of mapped values is the mapped choice
choice : {A B : Type 0} (f : A → B) (b : Bool) (v r : Option A) → option_map f (cond b v r) ≡ cond b (option_map f v) (option_map f r)
choice f true v r = refl
choice f false v r = refl

-- the entry of a name, among what was written
pub text_lookup : (name : List ℕ) (entries : List (String Global × Option (Listed ℕ))) → lookup (is_at (name_order name)) (map text_entry entries) ≡ option_map plain_bytes (lookup (is_at (λ key. slice_cmp nat_cmp name (string_bytes key))) entries)
text_lookup name [] = refl
text_lookup name (entry ∷ entries) =
    ap (λ r. cond (is_at (name_order name) (string_bytes entry.0)) (Some (plain_bytes entry.1)) r) (text_lookup name entries)
    ∙ sym (choice plain_bytes (is_at (name_order name) (string_bytes entry.0)) (Some entry.1) (lookup (is_at (λ key. slice_cmp nat_cmp name (string_bytes key))) entries))

-- the entry of a name, after one more was written
pub text_put : (name : List ℕ) (key : String Global) (m n : BTreeMap (String Global) (Option (Listed ℕ))) (kept : Option (Listed ℕ)) → string_bytes key ≡ name → tree.UpdatesBy string_cmp (string_cmp key) m n (Some kept)
    → (other : List ℕ) → lookup (is_at (name_order other)) (map text_entry n.entries) ≡ cond (is_at (name_order name) other) (Some (plain_bytes kept)) (lookup (is_at (name_order other)) (map text_entry m.entries))
text_put name key m n kept same updates other =
    text_lookup other n.entries ∙ ap (λ r. option_map plain_bytes r) (btree_map_updates_text (string_bytes key) m n (Some kept) updates other)
    ∙ choice plain_bytes (bytes_eq (string_bytes key) other) (Some kept) (tree.get_by_text m other)
    ∙ ap (λ b. cond b (Some (plain_bytes kept)) (option_map plain_bytes (tree.get_by_text m other))) (ap (λ bytes. bytes_eq bytes other) same ∙ sym (is_eq-slice_cmp name other))
    ∙ ap (λ r. cond (is_at (name_order name) other) (Some (plain_bytes kept)) r) (sym (text_lookup other m.entries))

-- the entry of a file that was given
pub file_lookup : (name : List ℕ) (files : List File) → lookup (is_at (name_order name)) (map file_entry (map plain_file files)) ≡ option_map (λ file. Some file.bytes.items) (find (λ file. bytes_eq name file.name) files)
file_lookup name [] = refl
file_lookup name (file ∷ files) =
    ap (λ r. cond (is_at (name_order name) file.name) (Some (Some file.bytes.items)) r) (file_lookup name files)
    ∙ ap (λ b. cond b (Some (Some file.bytes.items)) (option_map (λ f. Some f.bytes.items) (find (λ f. bytes_eq name f.name) files))) (is_eq-slice_cmp name file.name)
    ∙ sym (choice (λ f. Some f.bytes.items) (bytes_eq name file.name) (Some file) (find (λ f. bytes_eq name f.name) files))

-- the entry of a key of a shelf
pub shelf_lookup : (key : ℕ × List ℕ) (entries : List ((ℕ × List ℕ) × Option (Listed ℕ))) → lookup (is_at (by_user_and_name key)) (map shelf_entry entries) ≡ option_map plain_bytes (lookup (is_at (by_user_and_name key)) entries)
shelf_lookup key entries = lookup-map_values plain_bytes (is_at (by_user_and_name key)) entries

-- the entry of a key of a shelf, after a change of one
pub shelf_changed : (key : ℕ × List ℕ) (old new : List ((ℕ × List ℕ) × Option (Listed ℕ))) (value : Option (Option (Listed ℕ))) → ((other : ℕ × List ℕ) → lookup (is_at (by_user_and_name other)) new ≡ cond (is_at (by_user_and_name key) other) value (lookup (is_at (by_user_and_name other)) old))
    → (other : ℕ × List ℕ) → lookup (is_at (by_user_and_name other)) (map shelf_entry new) ≡ cond (is_at (by_user_and_name key) other) (option_map plain_bytes value) (lookup (is_at (by_user_and_name other)) (map shelf_entry old))
shelf_changed key old new value changes other =
    shelf_lookup other new ∙ ap (λ r. option_map plain_bytes r) (changes other)
    ∙ choice plain_bytes (is_at (by_user_and_name key) other) value (lookup (is_at (by_user_and_name other)) old)
    ∙ ap (λ r. cond (is_at (by_user_and_name key) other) (option_map plain_bytes value) r) (sym (shelf_lookup other old))

-- what is kept, or None
abbrev pub plain_kept : Option (Option (Listed ℕ)) → Option (Listed ℕ)
plain_kept None = None
plain_kept (Some kept) = kept

-- whether there were bytes to remove
pub removed : (key : ℕ × List ℕ) (entries : List ((ℕ × List ℕ) × Option (Listed ℕ))) (kept : Option (Option (Listed ℕ))) (was_there : Bool) → kept ≡ lookup (is_at (by_user_and_name key)) entries → was_there ≡ is_some (plain_kept kept)
    → MayRemove (lookup (is_at (by_user_and_name key)) (map shelf_entry entries)) was_there
removed key entries None was_there is answer = rw (shelf_lookup, ← is) answer
removed key entries (Some None) was_there is answer = rw (shelf_lookup, ← is) tt
removed key entries (Some (Some bytes)) was_there is answer = rw (shelf_lookup, ← is) answer

-- a choice before others
or_choice : {X : Type 0} (b : Bool) (v : X) (r s : Option X) → option_or (cond b (Some v) r) s ≡ cond b (Some v) (option_or r s)
or_choice true v r s = refl
or_choice false v r s = refl

-- a look-up of some entries before others
pub lookup_append : {K X : Type 0} (test : K → Bool) (front rest : List (K × X)) → lookup test (front ++ rest) ≡ option_or (lookup test front) (lookup test rest)
lookup_append test [] rest = refl
lookup_append test (entry ∷ front) rest =
    ap (λ r. cond (test entry.0) (Some entry.1) r) (lookup_append test front rest) ∙ sym (or_choice (test entry.0) entry.1 (lookup test front) (lookup test rest))

-- after a change of what stands before
pub front_changed : {K X : Type 0} (test : K → Bool) (old new rest : List (K × X)) (here : Bool) (value : X) → lookup test new ≡ cond here (Some value) (lookup test old) → lookup test (new ++ rest) ≡ cond here (Some value) (lookup test (old ++ rest))
front_changed test old new rest here value change =
    lookup_append test new rest ∙ ap (λ r. option_or r (lookup test rest)) change ∙ or_choice here value (lookup test old) (lookup test rest)
    ∙ ap (λ r. cond here (Some value) r) (sym (lookup_append test old rest))

-- what may be read of a shelf
pub shelf_read : (key : ℕ × List ℕ) (entries : List ((ℕ × List ℕ) × Option (Listed ℕ))) (kept : Option (Option (Listed ℕ))) (answer : Option (List ℕ)) → kept ≡ lookup (is_at (by_user_and_name key)) entries
    → MayRead (option_map plain_bytes kept) answer → MayRead (lookup (is_at (by_user_and_name key)) (map shelf_entry entries)) answer
shelf_read key entries kept answer is may = rw (shelf_lookup key entries, ← is) may

-- what may be read of the files that were given
pub given_read : (name : List ℕ) (files : List File) (plain : List PlainFile) (found : Option File) (answer : Option (List ℕ)) → map plain_file files ≡ plain → found ≡ find (λ file. bytes_eq name file.name) files
    → answer ≡ option_map (λ file. file.bytes.items) found → MayRead (lookup (is_at (name_order name)) (map file_entry plain)) answer
given_read name files plain None answer same is copied = rw (← same, file_lookup name files, ← is) copied
given_read name files plain (Some file) answer same is copied = rw (← same, file_lookup name files, ← is) copied

-- what was written counts first
pub written_first : (name : List ℕ) (entries : List (String Global × Option (Listed ℕ))) (rest : List (List ℕ × Option (List ℕ))) (kept : Option (Bor (Option (Listed ℕ)))) → option_copied kept ≡ lookup (is_at (λ key. slice_cmp nat_cmp name (string_bytes key))) entries → is_some kept ≡ true
    → lookup (is_at (name_order name)) (map text_entry entries ++ rest) ≡ option_map plain_bytes (option_copied kept)
written_first name entries rest None is some = absurd (false≢true some)
written_first name entries rest (Some kept) is some =
    lookup_append (is_at (name_order name)) (map text_entry entries) rest ∙ ap (λ r. option_or r (lookup (is_at (name_order name)) rest)) (text_lookup name entries ∙ ap (λ r. option_map plain_bytes r) (sym is))

-- where nothing was written, the files that were given count
pub unwritten : (name : List ℕ) (entries : List (String Global × Option (Listed ℕ))) (rest : List (List ℕ × Option (List ℕ))) (kept : Option (Bor (Option (Listed ℕ)))) → option_copied kept ≡ lookup (is_at (λ key. slice_cmp nat_cmp name (string_bytes key))) entries → is_some kept ≡ false
    → lookup (is_at (name_order name)) (map text_entry entries ++ rest) ≡ lookup (is_at (name_order name)) rest
unwritten name entries rest (Some kept) is none = absurd (false≢true (sym none))
unwritten name entries rest None is none =
    lookup_append (is_at (name_order name)) (map text_entry entries) rest ∙ ap (λ r. option_or r (lookup (is_at (name_order name)) rest)) (text_lookup name entries ∙ ap (λ r. option_map plain_bytes r) (sym is))
