-- Saved bytes are read of what they are the bytes of, and of nothing else.
use Rattle.std.proofs.Common.{◌≡◌, ℕ, ◌==◌, ◌||◌, ◌⊎◌, Bool, true, false, eqb, List, [], ◌∷◌, ◌++◌, Result, Ok, Err, length, inl, inr, ⊎_elim, refl, sym, ap, ◌∙◌, subst, append-nil, eqb-true, arith}
use Rattle.std.specs.Prelude.{if◌then◌else◌, nat_le}
use Rattle.std.specs.Cmp.Lexicographic.{pointwise}
use Rattle.std.proofs.lemmas.Bool.{or_cases}
use Rattle.apl_arrays.specs.Name.{same_name}
use Rattle.apl_workspace.specs.Meaning.{NameTable}
use Rattle.apl_workspace.specs.declared.remake.Remake.{Remake}
use Rattle.apl_workspace.proofs.NameLaw.{equal_names}
use Rattle.ws_codec.specs.Fields.{read_byte, read_bytes, read_same}
use Rattle.ws_codec.specs.Objects.{read_objects}
use Rattle.ws_codec.specs.Offers.{read_offers}
use Rattle.ws_codec.specs.Reading.{◌>>=◌, keeps}
use Rattle.ws_codec.specs.Saved.{PlainSaved, offers_of_version, reading_placed, saved_reading, read_saved, saved_of, read_version}
use Rattle.ws_codec.specs.SavedText.{first_version, magic, objects_bytes, offers_bytes, second_version}
use Rattle.ws_codec.specs.Sound.{AreBytes, Follow, IsOffer, CanBeSaved}
use Rattle.ws_codec.specs.declared.saved.SavedRule.TheVariants.{Magic, Rest, Version}
use Rattle.ws_codec.specs.declared.unread.Flaw.{Flaw}
use Rattle.ws_codec.proofs.FieldParts.{byte_back, bytes_back, bytes_there}
use Rattle.ws_codec.proofs.NumberParts.{rest_bytes}
use Rattle.ws_codec.proofs.ObjectParts.{objects_back, objects_there}
use Rattle.ws_codec.proofs.OfferParts.{offers_back, offers_there}
use Rattle.ws_codec.proofs.Told.{after_keeps, bind_ok, same_behind, same_first, tell}

-- what was read
abbrev ok_of : PlainSaved → Result PlainSaved Flaw
ok_of saved = Ok saved

-- the front

same_there : (rest : List ℕ) → read_same magic (magic ++ rest) ≡ Ok (true, rest)
unfolding read_same
same_there rest = rw (bytes_there 4 magic rest refl) refl

pub version_there : (version : ℕ) (rest : List ℕ) → (version == 1 || version == 2) ≡ true → read_version (magic ++ version ∷ rest) ≡ Ok (version, rest)
unfolding read_version read_byte keeps
version_there version rest is = rw (same_there (version ∷ rest), is) refl

-- the bytes in front and a version
pub record IsFront (bytes : List ℕ) (version : ℕ) (rest : List ℕ) : Type 0 where
  pub is : (version == 1 || version == 2) ≡ true
  pub spelled : bytes ≡ magic ++ version ∷ rest

version_back : (bytes : List ℕ) (version : ℕ) (rest : List ℕ) → read_version bytes ≡ Ok (version, rest) → IsFront bytes version rest
unfolding read_version read_same
version_back bytes version rest e =
    let front = bind_ok (read_same magic bytes) (λ front. keeps front.0 Magic (length bytes) >>= λ right. read_byte front.1 >>= λ version. keeps (version.0 == 1 || version.0 == 2) Version (length front.1) >>= λ known. tell version.0 version.1) (version, rest) e in
    let right = after_keeps front.0.0 Magic (length bytes) (λ right. read_byte front.0.1 >>= λ version. keeps (version.0 == 1 || version.0 == 2) Version (length front.0.1) >>= λ known. tell version.0 version.1) (version, rest) front.2 in
    let one = bind_ok (read_byte front.0.1) (λ version. keeps (version.0 == 1 || version.0 == 2) Version (length front.0.1) >>= λ known. tell version.0 version.1) (version, rest) right.1 in
    let known = after_keeps (one.0.0 == 1 || one.0.0 == 2) Version (length front.0.1) (λ known. tell one.0.0 one.0.1) (version, rest) one.2 in
    let field = bind_ok (read_bytes 4 bytes) (λ field. tell (pointwise ◌==◌ field.0 magic) field.1) front.0 front.1 in
    let cut = bytes_back 4 bytes field.0.0 field.0.1 field.1 in
    let same : same_name field.0.0 magic ≡ true = same_first (pointwise ◌==◌ field.0.0 magic) field.0.1 front.0.0 front.0.1 field.2 ∙ right.0 in
    let behind : field.0.1 ≡ front.0.1 = same_behind (pointwise ◌==◌ field.0.0 magic) field.0.1 front.0.0 front.0.1 field.2 in
    let byte = byte_back front.0.1 one.0.0 one.0.1 one.1 in
    let told = same_first one.0.0 one.0.1 version rest known.1 in
    let left = same_behind one.0.0 one.0.1 version rest known.1 in
    record {
      is = ap (λ (v : ℕ). v == 1 || v == 2) (sym told) ∙ known.0;
      spelled = cut.1 ∙ ap (λ (t : List ℕ). t ++ field.0.1) (equal_names field.0.0 magic same) ∙ ap (λ (t : List ℕ). magic ++ t) (behind ∙ byte ∙ (λ i. told i ∷ left i));
    }

-- the whole

pub second_there : (table : NameTable) (offers : List Remake) → CanBeSaved table offers → read_saved (second_version table offers) ≡ Ok (saved_of table offers)
unfolding read_saved offers_of_version keeps
second_there table offers h =
    let front : read_version (second_version table offers) ≡ Ok (2, objects_bytes table ++ offers_bytes offers) = version_there 2 (objects_bytes table ++ offers_bytes offers) refl in
    let objects : read_objects (objects_bytes table ++ offers_bytes offers) ≡ Ok (table, offers_bytes offers) = objects_there table (offers_bytes offers) h.count h.objects in
    let end : offers_bytes offers ≡ offers_bytes offers ++ [] = sym (append-nil (offers_bytes offers)) in
    let last : read_offers table (offers_bytes offers) ≡ Ok (offers, []) = ap (read_offers table) end ∙ offers_there table offers [] h.few h.offers in
    rw (front, objects, last) refl

pub first_there : (table : NameTable) → CanBeSaved table [] → read_saved (first_version table) ≡ Ok (saved_of table [])
unfolding read_saved offers_of_version keeps
first_there table h =
    let front : read_version (first_version table) ≡ Ok (1, objects_bytes table) = version_there 1 (objects_bytes table) refl in
    let end : objects_bytes table ≡ objects_bytes table ++ [] = sym (append-nil (objects_bytes table)) in
    let objects : read_objects (objects_bytes table) ≡ Ok (table, []) = ap read_objects end ∙ objects_there table [] h.count h.objects in
    rw (front, objects) refl

-- what was read of the offers of a version
pub record AreVersionOffers (version : ℕ) (table : NameTable) (bytes : List ℕ) (offers : List Remake) (rest : List ℕ) : Type 0 where
  pub few : nat_le (length offers) 64 ≡ true
  pub follow : Follow (IsOffer table) [] offers
  pub spelled : ((version ≡ 1) × (offers ≡ []) × (bytes ≡ rest)) ⊎ ((eqb version 1 ≡ false) × (bytes ≡ offers_bytes offers ++ rest))

versions_by : (b : Bool) (version : ℕ) (table : NameTable) (bytes : List ℕ) (offers : List Remake) (rest : List ℕ) → AreBytes bytes → eqb version 1 ≡ b → (if b then tell [] bytes else read_offers table bytes) ≡ tell offers rest → AreVersionOffers version table bytes offers rest
versions_by true version table bytes offers rest are is e =
    let none : [] ≡ offers = same_first [] bytes offers rest e in
    record {
      few = ap (λ (t : List Remake). nat_le (length t) 64) (sym none);
      follow = subst (Follow (IsOffer table) []) none tt;
      spelled = inl (eqb-true version 1 is, sym none, same_behind [] bytes offers rest e);
    }
versions_by false version table bytes offers rest are is e =
    let read = offers_back table bytes offers rest are e in
    record { few = read.few; follow = read.follow; spelled = inr (is, read.spelled) }

second_by : (version : ℕ) → (version == 1 || version == 2) ≡ true → eqb version 1 ≡ false → version ≡ 2
second_by version is not = ⊎_elim (λ one. absurd (let none : ⊥ = cc in none)) (λ two. eqb-true version 2 two) (or_cases (eqb version 1) (eqb version 2) is)

-- bytes are those of one version or the other
abbrev pub IsTextOf : List ℕ → NameTable → List Remake → Type 0
IsTextOf bytes table offers = (bytes ≡ second_version table offers) ⊎ ((bytes ≡ first_version table) × (offers ≡ []))

no_more : (list : List ℕ) → eqb (length list) 0 ≡ true → list ≡ []
no_more [] e = refl
no_more (x ∷ list) e = absurd (omega (arith, eqb-true (length (x ∷ list)) 0 e))

pub whole_back : (bytes : List ℕ) (saved : PlainSaved) → AreBytes bytes → read_saved bytes ≡ Ok saved → CanBeSaved saved.workspace.globals saved.remakes × IsTextOf bytes saved.workspace.globals saved.remakes
unfolding read_saved offers_of_version
whole_back bytes saved are e =
    let version = bind_ok (read_version bytes) (λ version. read_objects version.1 >>= λ objects. offers_of_version version.0 objects.0 objects.1 >>= λ offers. keeps (length offers.1 == 0) Rest (length offers.1) >>= λ ended. Ok (saved_of objects.0 offers.0)) saved e in
    let objects = bind_ok (read_objects version.0.1) (λ objects. offers_of_version version.0.0 objects.0 objects.1 >>= λ offers. keeps (length offers.1 == 0) Rest (length offers.1) >>= λ ended. Ok (saved_of objects.0 offers.0)) saved version.2 in
    let offers = bind_ok (offers_of_version version.0.0 objects.0.0 objects.0.1) (λ offers. keeps (length offers.1 == 0) Rest (length offers.1) >>= λ ended. Ok (saved_of objects.0.0 offers.0)) saved objects.2 in
    let ended = after_keeps (length offers.0.1 == 0) Rest (length offers.0.1) (λ ended. Ok (saved_of objects.0.0 offers.0.0)) saved offers.2 in
    let front = version_back bytes version.0.0 version.0.1 version.1 in
    let behind = (rest_bytes magic (version.0.0 ∷ version.0.1) (subst AreBytes front.spelled are)).1 in
    let read = objects_back version.0.1 objects.0.0 objects.0.1 behind objects.1 in
    let left = rest_bytes (objects_bytes objects.0.0) objects.0.1 (subst AreBytes read.spelled behind) in
    let kept = versions_by (eqb version.0.0 1) version.0.0 objects.0.0 objects.0.1 offers.0.0 offers.0.1 left refl offers.1 in
    let none : offers.0.1 ≡ [] = no_more offers.0.1 ended.0 in
    let same : saved_of objects.0.0 offers.0.0 ≡ saved = let told : ok_of (saved_of objects.0.0 offers.0.0) ≡ ok_of saved = ended.1 in cc in
    let sound : CanBeSaved objects.0.0 offers.0.0 = record { count = read.count; objects = read.follow; few = kept.few; offers = kept.follow } in
    let text : IsTextOf bytes objects.0.0 offers.0.0 =
    ⊎_elim (λ first.
    let one : bytes ≡ magic ++ 1 ∷ version.0.1 = front.spelled ∙ ap (λ (v : ℕ). magic ++ v ∷ version.0.1) first.0 in
    inr (one ∙ ap (λ (t : List ℕ). magic ++ 1 ∷ t) (read.spelled ∙ ap (λ (t : List ℕ). objects_bytes objects.0.0 ++ t) (first.2 ∙ none) ∙ append-nil (objects_bytes objects.0.0)), first.1))
    (λ second.
    let two : bytes ≡ magic ++ 2 ∷ version.0.1 = front.spelled ∙ ap (λ (v : ℕ). magic ++ v ∷ version.0.1) (second_by version.0.0 front.is second.0) in
    inl (two ∙ ap (λ (t : List ℕ). magic ++ 2 ∷ t) (read.spelled ∙ ap (λ (t : List ℕ). objects_bytes objects.0.0 ++ t) (second.1 ∙ ap (λ (t : List ℕ). offers_bytes offers.0.0 ++ t) none ∙ append-nil (offers_bytes offers.0.0)))))
    kept.spelled in
    subst (λ (s : PlainSaved). CanBeSaved s.workspace.globals s.remakes × IsTextOf bytes s.workspace.globals s.remakes) same (sound, text)

-- readings with their places

placed_ok : (count : ℕ) (read : Result PlainSaved Flaw) (saved : PlainSaved) → reading_placed count read ≡ Ok saved → read ≡ Ok saved
placed_ok count (Ok found) saved e = let same : found ≡ saved = cc in ap (λ (s : PlainSaved). ok_of s) same
placed_ok count (Err flaw) saved e = absurd (let none : ⊥ = cc in none)

pub read_back : (bytes : List ℕ) (table : NameTable) (offers : List Remake) → AreBytes bytes → saved_reading bytes ≡ Ok (saved_of table offers) → CanBeSaved table offers × IsTextOf bytes table offers
read_back bytes table offers are e = whole_back bytes (saved_of table offers) are (placed_ok (length bytes) (read_saved bytes) (saved_of table offers) e)

pub read_second : (table : NameTable) (offers : List Remake) → CanBeSaved table offers → saved_reading (second_version table offers) ≡ Ok (saved_of table offers)
read_second table offers h = ap (reading_placed (length (second_version table offers))) (second_there table offers h)

pub read_first : (table : NameTable) → CanBeSaved table [] → saved_reading (first_version table) ≡ Ok (saved_of table [])
read_first table h = ap (reading_placed (length (first_version table))) (first_there table h)
