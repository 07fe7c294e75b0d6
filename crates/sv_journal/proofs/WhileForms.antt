-- Reading a list as long as it goes on.
use Rattle.std.proofs.Common.{◌≡◌, ℕ, zero, suc, ◌+◌, ◌<◌, ◌≤◌, Bool, true, false, cond, List, [], ◌∷◌, ◌++◌, Ok, Err, length, ◌⊎◌, inl, inr, refl, sym, ap, ◌∙◌, subst, append-nil, append_assoc, arith, length-append}
use Rattle.std.proofs.lemmas.Bool.{false≢true, cases_Bool}
use Rattle.std.specs.List.{flat_map, AllByRecursion}
use Rattle.apl_arrays.specs.List.{first_of}
use Rattle.text_reader.specs.Reading.{Reader, Reading, ◌>>=◌, read_list, read_behind}
use Rattle.text_reader.proofs.Told.{second_told}
use Rattle.text_reader.proofs.Readers.{SameFirst, Found, Stopped, Reads, IsReader, AreGlyphs, glyphs_behind, same_behind, cancelled}

-- a list of such things, behind which comes what no thing begins with
pub record GoesOn {A : Type 0} (text : A → List ℕ) (ok : A → Type 0) (follows after : List ℕ → Type 0) (agrees : List ℕ → List ℕ → Type 0) (test : List ℕ → Bool) (item : Reader A) : Type 0 where
  pub reads : IsReader text ok follows SameFirst item
  pub some : (x : A) → ok x → 0 < length (text x)
  pub next : (x : A) (behind : List ℕ) → ok x → follows (text x ++ behind)
  pub last : (behind : List ℕ) → after behind → follows behind
  pub unlike : (behind more : List ℕ) (x : A) → after behind → ok x → behind ≡ text x ++ more → ⊥
  pub ends : (line more z : List ℕ) (x : A) → test line ≡ false → ok x → text x ++ more ≡ z → agrees z line → ⊥
  pub none : (line : List ℕ) (left : ℕ) (behind z : List ℕ) → test line ≡ true → (h : Stopped text ok follows line left) → after behind → behind ≡ h.part ++ z → SameFirst z h.rest → ⊥
  pub nothing : test [] ≡ false
  pub ahead : (one other : List ℕ) → agrees one other → SameFirst one other

-- what is read, and no thing more stands there
pub record ReadsAll {A : Type 0} (text : A → List ℕ) (ok : A → Type 0) (after : List ℕ → Type 0) (agrees : List ℕ → List ℕ → Type 0) (test : List ℕ → Bool) (line : List ℕ) (read : Reading (List A)) : Type 0 where
  pub reads : Reads (flat_map text) (AllByRecursion ok) after agrees line read
  pub all : (list : List A) (rest : List ℕ) → read ≡ Ok (list, rest) → test rest ≡ false

only_nothing : {A : Type 0} (text : A → List ℕ) (ok : A → Type 0) (follows after : List ℕ → Type 0) (agrees : List ℕ → List ℕ → Type 0) (test : List ℕ → Bool) (item : Reader A) → GoesOn text ok follows after agrees test item → (line : List ℕ) → test line ≡ false → (w : List A) (behind z : List ℕ) → AllByRecursion ok w → flat_map text w ++ behind ≡ z → agrees z line → w ≡ []
only_nothing text ok follows after agrees test item g line never [] behind z fit e agree = refl
only_nothing text ok follows after agrees test item g line never (x ∷ xs) behind z fit e agree =
    absurd (g.ends line (flat_map text xs ++ behind) z x never fit.0 (sym (append_assoc (text x) (flat_map text xs) behind) ∙ e) agree)

list_ends : {A : Type 0} (text : A → List ℕ) (ok : A → Type 0) (follows after : List ℕ → Type 0) (agrees : List ℕ → List ℕ → Type 0) (test : List ℕ → Bool) (item : Reader A) → GoesOn text ok follows after agrees test item → (line : List ℕ) → test line ≡ false → ReadsAll text ok after agrees test line (Ok ([], line))
list_ends text ok follows after agrees test item g line never = record {
  reads = record { fits = tt; whole = refl; only = λ w behind z fit follow e agree. only_nothing text ok follows after agrees test item g line never w behind z fit e agree };
  all = λ list rest e. subst (λ r. test r ≡ false) (second_told [] line list rest e) never;
}

follows_things : {A : Type 0} (text : A → List ℕ) (ok : A → Type 0) (follows after : List ℕ → Type 0) (agrees : List ℕ → List ℕ → Type 0) (test : List ℕ → Bool) (item : Reader A) → GoesOn text ok follows after agrees test item → (xs : List A) (behind : List ℕ) → AllByRecursion ok xs → after behind → follows (flat_map text xs ++ behind)
follows_things text ok follows after agrees test item g [] behind fit follow = g.last behind follow
follows_things text ok follows after agrees test item g (x ∷ xs) behind fit follow =
    subst follows (sym (append_assoc (text x) (flat_map text xs) behind)) (g.next x (flat_map text xs ++ behind) fit.0)

no_list : {A : Type 0} (text : A → List ℕ) (ok : A → Type 0) (follows after : List ℕ → Type 0) (agrees : List ℕ → List ℕ → Type 0) (test : List ℕ → Bool) (item : Reader A) → GoesOn text ok follows after agrees test item → (line : List ℕ) (left : ℕ) → test line ≡ true → (h : Stopped text ok follows line left) → (w : List A) (behind z : List ℕ) → AllByRecursion ok w → after behind → flat_map text w ++ behind ≡ h.part ++ z → SameFirst z h.rest → ⊥
no_list text ok follows after agrees test item g line left going h [] behind z fit follow e agree = g.none line left behind z going h follow e agree
no_list text ok follows after agrees test item g line left going h (x ∷ xs) behind z fit follow e agree =
    h.none x (flat_map text xs ++ behind) z fit.0 (follows_things text ok follows after agrees test item g xs behind fit.1 follow) (sym (append_assoc (text x) (flat_map text xs) behind) ∙ e) agree

item_stopped : {A : Type 0} (text : A → List ℕ) (ok : A → Type 0) (follows after : List ℕ → Type 0) (agrees : List ℕ → List ℕ → Type 0) (test : List ℕ → Bool) (item : Reader A) → GoesOn text ok follows after agrees test item → (line : List ℕ) (left : ℕ) → test line ≡ true → Stopped text ok follows line left → Stopped (flat_map text) (AllByRecursion ok) after line left
item_stopped text ok follows after agrees test item g line left going h = record {
  part = h.part;
  rest = h.rest;
  whole = h.whole;
  left_is = h.left_is;
  value = h.value ∷ [];
  more = h.more;
  fits = (h.fits, tt);
  goes_on = append-nil (text h.value) ∙ h.goes_on;
  none = λ w behind z fit follow e agree. no_list text ok follows after agrees test item g line left going h w behind z fit follow e agree;
}

-- behind one thing

one_more_only : {A : Type 0} (text : A → List ℕ) (ok : A → Type 0) (follows after : List ℕ → Type 0) (agrees : List ℕ → List ℕ → Type 0) (test : List ℕ → Bool) (item : Reader A) → GoesOn text ok follows after agrees test item → (line : List ℕ) (x : A) (rest : List ℕ) → Found text ok follows SameFirst line x rest → (ys : List A) (left : List ℕ) → Found (flat_map text) (AllByRecursion ok) after agrees rest ys left → (w : List A) (behind z : List ℕ) → AllByRecursion ok w → after behind → flat_map text w ++ behind ≡ flat_map text (x ∷ ys) ++ z → agrees z left → w ≡ x ∷ ys
one_more_only text ok follows after agrees test item g line x rest h ys left k [] behind z fit follow e agree =
    absurd (g.unlike behind (flat_map text ys ++ z) x follow h.fits (e ∙ append_assoc (text x) (flat_map text ys) z))
one_more_only text ok follows after agrees test item g line x rest h ys left k (v ∷ vs) behind z fit follow e agree =
    let whole : text v ++ (flat_map text vs ++ behind) ≡ text x ++ (flat_map text ys ++ z) =
    sym (append_assoc (text v) (flat_map text vs) behind) ∙ (e ∙ append_assoc (text x) (flat_map text ys) z) in
    let agreed : SameFirst (flat_map text ys ++ z) rest = same_behind (flat_map text ys) z left (g.ahead z left agree) ∙ ap first_of (sym k.whole) in
    let same : v ≡ x = h.only v (flat_map text vs ++ behind) (flat_map text ys ++ z) fit.0 (follows_things text ok follows after agrees test item g vs behind fit.1 follow) whole agreed in
    let inner : flat_map text vs ++ behind ≡ flat_map text ys ++ z = cancelled (text x) (flat_map text vs ++ behind) (flat_map text ys ++ z) (ap (λ y. text y ++ (flat_map text vs ++ behind)) (sym same) ∙ whole) in
    cc (same, k.only vs behind z fit.1 follow inner agree)

one_more_none : {A : Type 0} (text : A → List ℕ) (ok : A → Type 0) (follows after : List ℕ → Type 0) (agrees : List ℕ → List ℕ → Type 0) (test : List ℕ → Bool) (item : Reader A) → GoesOn text ok follows after agrees test item → (line : List ℕ) (x : A) (rest : List ℕ) → Found text ok follows SameFirst line x rest → (left : ℕ) (k : Stopped (flat_map text) (AllByRecursion ok) after rest left) → (w : List A) (behind z : List ℕ) → AllByRecursion ok w → after behind → flat_map text w ++ behind ≡ (text x ++ k.part) ++ z → SameFirst z k.rest → ⊥
one_more_none text ok follows after agrees test item g line x rest h left k [] behind z fit follow e agree =
    g.unlike behind (k.part ++ z) x follow h.fits (e ∙ append_assoc (text x) k.part z)
one_more_none text ok follows after agrees test item g line x rest h left k (v ∷ vs) behind z fit follow e agree =
    let whole : text v ++ (flat_map text vs ++ behind) ≡ text x ++ (k.part ++ z) =
    sym (append_assoc (text v) (flat_map text vs) behind) ∙ (e ∙ append_assoc (text x) k.part z) in
    let agreed : SameFirst (k.part ++ z) rest = same_behind k.part z k.rest agree ∙ ap first_of (sym k.whole) in
    let same : v ≡ x = h.only v (flat_map text vs ++ behind) (k.part ++ z) fit.0 (follows_things text ok follows after agrees test item g vs behind fit.1 follow) whole agreed in
    let inner : flat_map text vs ++ behind ≡ k.part ++ z = cancelled (text x) (flat_map text vs ++ behind) (k.part ++ z) (ap (λ y. text y ++ (flat_map text vs ++ behind)) (sym same) ∙ whole) in
    k.none vs behind z fit.1 follow inner agree

one_more : {A : Type 0} (text : A → List ℕ) (ok : A → Type 0) (follows after : List ℕ → Type 0) (agrees : List ℕ → List ℕ → Type 0) (test : List ℕ → Bool) (item : Reader A) → GoesOn text ok follows after agrees test item → (line : List ℕ) (x : A) (rest : List ℕ) → Found text ok follows SameFirst line x rest → (read : Reading (List A)) → ReadsAll text ok after agrees test rest read → ReadsAll text ok after agrees test line (read_behind (x ∷ []) read)
one_more text ok follows after agrees test item g line x rest h (Ok found) k = record {
  reads = record {
    fits = (h.fits, k.reads.fits);
    whole = h.whole ∙ (ap (λ t. text x ++ t) k.reads.whole ∙ sym (append_assoc (text x) (flat_map text found.0) found.1));
    only = one_more_only text ok follows after agrees test item g line x rest h found.0 found.1 k.reads;
  };
  all = λ list left e. subst (λ r. test r ≡ false) (second_told (x ∷ found.0) found.1 list left e) (k.all found.0 found.1 refl);
}
one_more text ok follows after agrees test item g line x rest h (Err left) k = record {
  reads = record {
    part = text x ++ k.reads.part;
    rest = k.reads.rest;
    whole = h.whole ∙ (ap (λ t. text x ++ t) k.reads.whole ∙ sym (append_assoc (text x) k.reads.part k.reads.rest));
    left_is = k.reads.left_is;
    value = x ∷ k.reads.value;
    more = k.reads.more;
    fits = (h.fits, k.reads.fits);
    goes_on = ap (λ t. text x ++ t) k.reads.goes_on ∙ sym (append_assoc (text x) k.reads.part k.reads.more);
    none = one_more_none text ok follows after agrees test item g line x rest h left k.reads;
  };
  all = λ list rest e. absurd (let none : ⊥ = cc in none);
}

stopped_all : {A : Type 0} (text : A → List ℕ) (ok : A → Type 0) (follows after : List ℕ → Type 0) (agrees : List ℕ → List ℕ → Type 0) (test : List ℕ → Bool) (item : Reader A) → GoesOn text ok follows after agrees test item → (line : List ℕ) (left : ℕ) → test line ≡ true → Stopped text ok follows line left → ReadsAll text ok after agrees test line (Err left)
stopped_all text ok follows after agrees test item g line left going h = record {
  reads = item_stopped text ok follows after agrees test item g line left going h;
  all = λ list rest e. absurd (let none : ⊥ = cc in none);
}

goes_by : {A : Type 0} (text : A → List ℕ) (ok : A → Type 0) (follows after : List ℕ → Type 0) (agrees : List ℕ → List ℕ → Type 0) (test : List ℕ → Bool) (item : Reader A) → GoesOn text ok follows after agrees test item → (n : ℕ) (line : List ℕ) → AreGlyphs line → length line ≤ suc n → test line ≡ true → ((rest : List ℕ) → AreGlyphs rest → length rest ≤ n → ReadsAll text ok after agrees test rest (read_list test item n rest)) → (read : Reading A) → Reads text ok follows SameFirst line read → ReadsAll text ok after agrees test line (read >>= λ first. read_behind (first.0 ∷ []) (read_list test item n first.1))
goes_by text ok follows after agrees test item g n line a fits going inner (Ok found) h =
    let shorter : length found.1 ≤ n = omega (arith, fits, ap length h.whole, length-append (text found.0) found.1, g.some found.0 h.fits) in
    one_more text ok follows after agrees test item g line found.0 found.1 h (read_list test item n found.1) (inner found.1 (glyphs_behind line (text found.0) found.1 h.whole a) shorter)
goes_by text ok follows after agrees test item g n line a fits going inner (Err left) h = stopped_all text ok follows after agrees test item g line left going h

all_by : {A : Type 0} (text : A → List ℕ) (ok : A → Type 0) (follows after : List ℕ → Type 0) (agrees : List ℕ → List ℕ → Type 0) (test : List ℕ → Bool) (item : Reader A) → GoesOn text ok follows after agrees test item → (n : ℕ) (line : List ℕ) → AreGlyphs line → length line ≤ suc n → ((rest : List ℕ) → AreGlyphs rest → length rest ≤ n → ReadsAll text ok after agrees test rest (read_list test item n rest)) → (b : Bool) → test line ≡ b → ReadsAll text ok after agrees test line (cond b (item line >>= λ first. read_behind (first.0 ∷ []) (read_list test item n first.1)) (Ok ([], line)))
all_by text ok follows after agrees test item g n line a fits inner true going = goes_by text ok follows after agrees test item g n line a fits going inner (item line) (g.reads line a)
all_by text ok follows after agrees test item g n line a fits inner false never = list_ends text ok follows after agrees test item g line never

-- a list is read to its end
pub reads_all : {A : Type 0} (text : A → List ℕ) (ok : A → Type 0) (follows after : List ℕ → Type 0) (agrees : List ℕ → List ℕ → Type 0) (test : List ℕ → Bool) (item : Reader A) → GoesOn text ok follows after agrees test item → (n : ℕ) (line : List ℕ) → AreGlyphs line → length line ≤ n → ReadsAll text ok after agrees test line (read_list test item n line)
unfolding read_list
reads_all text ok follows after agrees test item g zero [] a fits = list_ends text ok follows after agrees test item g [] g.nothing
reads_all text ok follows after agrees test item g zero (x ∷ line) a fits = absurd (omega (arith, fits))
reads_all text ok follows after agrees test item g (suc n) line a fits =
    all_by text ok follows after agrees test item g n line a fits (λ rest b shorter. reads_all text ok follows after agrees test item g n rest b shorter) (test line) refl
