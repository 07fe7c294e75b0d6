-- Readers of forms. A form has things, each of them with a text; those that are ok may stand in a line. A reader of the
-- form finds the thing whose text stands at the front, or stops where no text of the form goes on as the line does.
use Rattle.std.proofs.Common.{◌≡◌, ℕ, Bool, true, false, eqb, cond, suc, List, [], ◌∷◌, ◌++◌, Option, Some, None, Result, Ok, Err, ◌⊎◌, inl, inr, length, refl, sym, ap, ◌∙◌, subst, append-nil, append_assoc, arith}
use Rattle.std.proofs.lemmas.Bool.Decides.{nat_tests}
use Rattle.std.specs.List.{AllByRecursion}
use Rattle.apl_arrays.specs.Glyph.{IsGlyph}
use Rattle.apl_arrays.specs.List.{first_of}
use Rattle.text_reader.specs.Reading.{Reader, Reading, ◌>>=◌, as_read, read_literal}

-- two lines go on with the same glyph, or both end
abbrev pub SameFirst : List ℕ → List ℕ → Type 0
SameFirst one other = first_of one ≡ first_of other

-- the text of a thing stands at the front, and no other's goes on as the line does behind it
pub record Found {V : Type 0} (text : V → List ℕ) (ok : V → Type 0) (follows : List ℕ → Type 0) (agrees : List ℕ → List ℕ → Type 0) (line : List ℕ) (v : V) (rest : List ℕ) : Type 0 where
  pub fits : ok v
  pub whole : line ≡ text v ++ rest
  pub only : (w : V) (behind z : List ℕ) → ok w → follows behind → text w ++ behind ≡ text v ++ z → agrees z rest → w ≡ v

-- a part of the line begins a text of the form, and no text of the form goes on behind it as the line does
pub record Stopped {V : Type 0} (text : V → List ℕ) (ok : V → Type 0) (follows : List ℕ → Type 0) (line : List ℕ) (left : ℕ) : Type 0 where
  pub part : List ℕ
  pub rest : List ℕ
  pub whole : line ≡ part ++ rest
  pub left_is : left ≡ length rest
  pub value : V
  pub more : List ℕ
  pub fits : ok value
  pub goes_on : text value ≡ part ++ more
  pub none : (w : V) (behind z : List ℕ) → ok w → follows behind → text w ++ behind ≡ part ++ z → SameFirst z rest → ⊥

abbrev pub Reads : {V : Type 0} (text : V → List ℕ) (ok : V → Type 0) (follows : List ℕ → Type 0) (agrees : List ℕ → List ℕ → Type 0) (line : List ℕ) → Reading V → Type 0
Reads text ok follows agrees line (Ok found) = Found text ok follows agrees line found.0 found.1
Reads text ok follows agrees line (Err left) = Stopped text ok follows line left

-- a line of glyphs
abbrev pub AreGlyphs : List ℕ → Type 0
AreGlyphs line = AllByRecursion IsGlyph line

-- a reader of a form, behind which follows what it is told; where what it found ends, it looked ahead as far as agrees
abbrev pub IsReader : {V : Type 0} (text : V → List ℕ) (ok : V → Type 0) (follows : List ℕ → Type 0) (agrees : List ℕ → List ℕ → Type 0) → Reader V → Type 0
IsReader text ok follows agrees reader = (line : List ℕ) → AreGlyphs line → Reads text ok follows agrees line (reader line)

-- lists

pub same_behind : (part z rest : List ℕ) → SameFirst z rest → SameFirst (part ++ z) (part ++ rest)
same_behind [] z rest e = e
same_behind (x ∷ part) z rest e = refl

pub cancelled : (front one other : List ℕ) → front ++ one ≡ front ++ other → one ≡ other
cancelled [] one other e = e
cancelled (x ∷ front) one other e = cancelled front one other (let inner : front ++ one ≡ front ++ other = cc in inner)

pub same_end : (z : List ℕ) → SameFirst z [] → z ≡ []
same_end [] e = refl
same_end (x ∷ z) e = absurd (let never : ⊥ = cc in never)

-- what stands behind a part is of glyphs too
pub glyphs_behind : (line part rest : List ℕ) → line ≡ part ++ rest → AreGlyphs line → AreGlyphs rest
glyphs_behind line [] rest e a = subst AreGlyphs e a
glyphs_behind [] (x ∷ part) rest e a = absurd (let none : ⊥ = cc in none)
glyphs_behind (y ∷ line) (x ∷ part) rest e a = glyphs_behind line part rest (let inner : line ≡ part ++ rest = cc in inner) a.1

-- nothing more is read

pub nothing_more : {E : Type 0} (v : E) (ok : E → Type 0) (follows : List ℕ → Type 0) (agrees : List ℕ → List ℕ → Type 0) → ok v → ((e : E) → ok e → e ≡ v) → IsReader (λ e. []) ok follows agrees (λ line. Ok (v, line))
nothing_more v ok follows agrees fits one line a = record {
  fits = fits;
  whole = refl;
  only = λ w behind z right follow e same. one w right;
}

-- the same form, said in other words

pub reformed_reading : {E : Type 0} (text other : E → List ℕ) (ok right : E → Type 0) (follows after : List ℕ → Type 0) (agrees : List ℕ → List ℕ → Type 0) → ((e : E) → right e → ok e) → ((e : E) → ok e → right e) → ((e : E) → ok e → text e ≡ other e) → ((behind : List ℕ) → after behind → follows behind) → (line : List ℕ) (read : Reading E) → Reads text ok follows agrees line read → Reads other right after agrees line read
reformed_reading text other ok right follows after agrees back there same weaker line (Ok found) h = record {
  fits = there found.0 h.fits;
  whole = h.whole ∙ ap (λ t. t ++ found.1) (same found.0 h.fits);
  only = λ w behind z fit follow e ahead. h.only w behind z (back w fit) (weaker behind follow) (ap (λ t. t ++ behind) (same w (back w fit)) ∙ (e ∙ ap (λ t. t ++ z) (sym (same found.0 h.fits)))) ahead;
}
reformed_reading text other ok right follows after agrees back there same weaker line (Err left) h = record {
  part = h.part;
  rest = h.rest;
  whole = h.whole;
  left_is = h.left_is;
  value = h.value;
  more = h.more;
  fits = there h.value h.fits;
  goes_on = sym (same h.value h.fits) ∙ h.goes_on;
  none = λ w behind z fit follow e ahead. h.none w behind z (back w fit) (weaker behind follow) (ap (λ t. t ++ behind) (same w (back w fit)) ∙ e) ahead;
}

pub reformed : {E : Type 0} (text other : E → List ℕ) (ok right : E → Type 0) (follows after : List ℕ → Type 0) (agrees : List ℕ → List ℕ → Type 0) (reader : Reader E) → ((e : E) → right e → ok e) → ((e : E) → ok e → right e) → ((e : E) → ok e → text e ≡ other e) → ((behind : List ℕ) → after behind → follows behind) → IsReader text ok follows agrees reader → IsReader other right after agrees reader
reformed text other ok right follows after agrees reader back there same weaker is line a =
    reformed_reading text other ok right follows after agrees back there same weaker line (reader line) (is line a)

-- the same texts, said in other words
pub retexted : {E : Type 0} (text other : E → List ℕ) (ok : E → Type 0) (follows : List ℕ → Type 0) (line : List ℕ) (read : Reading E) → ((e : E) → ok e → text e ≡ other e) → Reads text ok follows SameFirst line read → Reads other ok follows SameFirst line read
retexted text other ok follows line read same =
    reformed_reading text other ok ok follows follows SameFirst (λ e h. h) (λ e h. h) same (λ behind h. h) line read

-- the same reader, said in other words
pub respelled : {E : Type 0} (text : E → List ℕ) (ok : E → Type 0) (follows : List ℕ → Type 0) (agrees : List ℕ → List ℕ → Type 0) (reader other : Reader E) → ((line : List ℕ) → reader line ≡ other line) → IsReader text ok follows agrees reader → IsReader text ok follows agrees other
respelled text ok follows agrees reader other same is line a = subst (Reads text ok follows agrees line) (same line) (is line a)

-- a glyph in front

pub behind_glyph : {E : Type 0} (glyph : ℕ) (text : E → List ℕ) (ok : E → Type 0) (follows : List ℕ → Type 0) (agrees : List ℕ → List ℕ → Type 0) (line : List ℕ) (read : Reading E) → Reads text ok follows agrees line read → Reads (λ e. glyph ∷ text e) ok follows agrees (glyph ∷ line) read
behind_glyph glyph text ok follows agrees line (Ok found) h = record {
  fits = h.fits;
  whole = ap (λ t. glyph ∷ t) h.whole;
  only = λ w behind z fit follow e ahead. h.only w behind z fit follow (let inner : text w ++ behind ≡ text found.0 ++ z = cc in inner) ahead;
}
behind_glyph glyph text ok follows agrees line (Err left) h = record {
  part = glyph ∷ h.part;
  rest = h.rest;
  whole = ap (λ t. glyph ∷ t) h.whole;
  left_is = h.left_is;
  value = h.value;
  more = h.more;
  fits = h.fits;
  goes_on = ap (λ t. glyph ∷ t) h.goes_on;
  none = λ w behind z fit follow e ahead. h.none w behind z fit follow (let inner : text w ++ behind ≡ h.part ++ z = cc in inner) ahead;
}

-- a line whose next glyph is another one, or that ends, stops here
pub stops_here : {E : Type 0} (glyph : ℕ) (text : E → List ℕ) (ok : E → Type 0) (follows : List ℕ → Type 0) (e : E) → ok e → (line : List ℕ) → (first_of line ≡ Some glyph → ⊥) → Stopped (λ e. glyph ∷ text e) ok follows line (length line)
stops_here glyph text ok follows e fits line other = record {
  part = [];
  rest = line;
  whole = refl;
  left_is = refl;
  value = e;
  more = glyph ∷ text e;
  fits = fits;
  goes_on = refl;
  none = λ w behind z fit follow same ahead. other (sym (ap first_of same ∙ ahead));
}

-- a fixed text in front

none_there : (glyph : ℕ) → first_of [] ≡ Some glyph → ⊥
none_there glyph e = cc

another : (glyph first : ℕ) (rest : List ℕ) → eqb first glyph ≡ false → first_of (first ∷ rest) ≡ Some glyph → ⊥
another glyph first rest differs e =
    let same : first ≡ glyph = cc in
    grind (arith, nat_tests, same)

pub after_glyph : {E : Type 0} (glyph : ℕ) (front : List ℕ) (text : E → List ℕ) (ok : E → Type 0) (follows : List ℕ → Type 0) (agrees : List ℕ → List ℕ → Type 0) (reader : Reader E) (e : E) → ok e → (first : ℕ) (rest : List ℕ) → Reads (λ e. front ++ text e) ok follows agrees rest (read_literal front rest >>= reader) → (b : Bool) → eqb first glyph ≡ b → Reads (λ e. glyph ∷ (front ++ text e)) ok follows agrees (first ∷ rest) (cond b (read_literal front rest) (Err (length (first ∷ rest))) >>= reader)
after_glyph glyph front text ok follows agrees reader e fits first rest is true same =
    let equal : glyph ≡ first = grind (arith, nat_tests, same) in
    subst (λ c. Reads (λ e. glyph ∷ (front ++ text e)) ok follows agrees (c ∷ rest) (read_literal front rest >>= reader)) equal (behind_glyph glyph (λ e. front ++ text e) ok follows agrees rest (read_literal front rest >>= reader) is)
after_glyph glyph front text ok follows agrees reader e fits first rest is false same =
    stops_here glyph (λ e. front ++ text e) ok follows e fits (first ∷ rest) (another glyph first rest same)

pub after_text : {E : Type 0} (front : List ℕ) (text : E → List ℕ) (ok : E → Type 0) (follows : List ℕ → Type 0) (agrees : List ℕ → List ℕ → Type 0) (reader : Reader E) (e : E) → ok e → IsReader text ok follows agrees reader → IsReader (λ e. front ++ text e) ok follows agrees (λ line. read_literal front line >>= reader)
after_text [] text ok follows agrees reader e fits is line a = is line a
after_text (glyph ∷ front) text ok follows agrees reader e fits is [] a =
    stops_here glyph (λ e. front ++ text e) ok follows e fits [] (none_there glyph)
after_text (glyph ∷ front) text ok follows agrees reader e fits is (first ∷ rest) a =
    after_glyph glyph front text ok follows agrees reader e fits first rest (after_text front text ok follows agrees reader e fits is rest a.1) (eqb first glyph) refl

-- one thing, and what is read behind it

pub then_found : {V E : Type 0} (text : V → List ℕ) (ok : V → Type 0) (follows : List ℕ → Type 0) (first : E → V) (others : E → List ℕ) (right : E → Type 0) (after : List ℕ → Type 0) (agrees : List ℕ → List ℕ → Type 0) → ((one other : List ℕ) → agrees one other → SameFirst one other) → ((e : E) → right e → ok (first e)) → ((e : E) (behind : List ℕ) → right e → after behind → follows (others e ++ behind)) → (line : List ℕ) (v : V) (rest : List ℕ) → Found text ok follows SameFirst line v rest → (read : Reading E) → Reads others (λ e. (first e ≡ v) × right e) after agrees rest read → Reads (λ e. text (first e) ++ others e) right after agrees line read
then_found text ok follows first others right after agrees ahead part_fits follow line v rest h (Ok found) g = record {
  fits = g.fits.1;
  whole = h.whole ∙ (ap (λ t. text v ++ t) g.whole ∙ (sym (append_assoc (text v) (others found.0) found.1) ∙ ap (λ x. (text x ++ others found.0) ++ found.1) (sym g.fits.0)));
  only = λ w behind z fit next e agree.
      let whole : text (first w) ++ (others w ++ behind) ≡ text v ++ (others found.0 ++ z) =
      sym (append_assoc (text (first w)) (others w) behind) ∙ (e ∙ (ap (λ x. (text x ++ others found.0) ++ z) g.fits.0 ∙ append_assoc (text v) (others found.0) z)) in
      let agreed : SameFirst (others found.0 ++ z) rest = same_behind (others found.0) z found.1 (ahead z found.1 agree) ∙ ap first_of (sym g.whole) in
      let same : first w ≡ v = h.only (first w) (others w ++ behind) (others found.0 ++ z) (part_fits w fit) (follow w behind fit next) whole agreed in
      let inner : others w ++ behind ≡ others found.0 ++ z = cancelled (text v) (others w ++ behind) (others found.0 ++ z) (ap (λ x. text x ++ (others w ++ behind)) (sym same) ∙ whole) in
      g.only w behind z (same, fit) next inner agree;
}
then_found text ok follows first others right after agrees ahead part_fits follow line v rest h (Err left) g = record {
  part = text v ++ g.part;
  rest = g.rest;
  whole = h.whole ∙ (ap (λ t. text v ++ t) g.whole ∙ sym (append_assoc (text v) g.part g.rest));
  left_is = g.left_is;
  value = g.value;
  more = g.more;
  fits = g.fits.1;
  goes_on = ap (λ x. text x ++ others g.value) g.fits.0 ∙ (ap (λ t. text v ++ t) g.goes_on ∙ sym (append_assoc (text v) g.part g.more));
  none = λ w behind z fit next e agree.
      let whole : text (first w) ++ (others w ++ behind) ≡ text v ++ (g.part ++ z) =
      sym (append_assoc (text (first w)) (others w) behind) ∙ (e ∙ append_assoc (text v) g.part z) in
      let agreed : SameFirst (g.part ++ z) rest = same_behind g.part z g.rest agree ∙ ap first_of (sym g.whole) in
      let same : first w ≡ v = h.only (first w) (others w ++ behind) (g.part ++ z) (part_fits w fit) (follow w behind fit next) whole agreed in
      let inner : others w ++ behind ≡ g.part ++ z = cancelled (text v) (others w ++ behind) (g.part ++ z) (ap (λ x. text x ++ (others w ++ behind)) (sym same) ∙ whole) in
      g.none w behind z (same, fit) next inner agree;
}

pub then_stopped : {V E : Type 0} (text : V → List ℕ) (ok : V → Type 0) (follows : List ℕ → Type 0) (first : E → V) (others : E → List ℕ) (right : E → Type 0) (after : List ℕ → Type 0) → ((e : E) → right e → ok (first e)) → ((e : E) (behind : List ℕ) → right e → after behind → follows (others e ++ behind)) → ((v : V) → ok v → (e : E) × (first e ≡ v) × right e) → (line : List ℕ) (left : ℕ) → Stopped text ok follows line left → Stopped (λ e. text (first e) ++ others e) right after line left
then_stopped text ok follows first others right after part_fits follow some line left h =
    let e = some h.value h.fits in
    record {
      part = h.part;
      rest = h.rest;
      whole = h.whole;
      left_is = h.left_is;
      value = e.0;
      more = h.more ++ others e.0;
      fits = e.2;
      goes_on = ap (λ v. text v ++ others e.0) e.1 ∙ (ap (λ t. t ++ others e.0) h.goes_on ∙ append_assoc h.part h.more (others e.0));
      none = λ w behind z fit next same agree. h.none (first w) (others w ++ behind) z (part_fits w fit) (follow w behind fit next) (sym (append_assoc (text (first w)) (others w) behind) ∙ same) agree;
    }

then_reading : {V E : Type 0} (text : V → List ℕ) (ok : V → Type 0) (follows : List ℕ → Type 0) (first : E → V) (others : E → List ℕ) (right : E → Type 0) (after : List ℕ → Type 0) (agrees : List ℕ → List ℕ → Type 0) (next : V → Reader E) → ((one other : List ℕ) → agrees one other → SameFirst one other) → ((v : V) → ok v → IsReader others (λ e. (first e ≡ v) × right e) after agrees (next v)) → ((e : E) → right e → ok (first e)) → ((e : E) (behind : List ℕ) → right e → after behind → follows (others e ++ behind)) → ((v : V) → ok v → (e : E) × (first e ≡ v) × right e) → (line : List ℕ) → AreGlyphs line → (read : Reading V) → Reads text ok follows SameFirst line read → Reads (λ e. text (first e) ++ others e) right after agrees line (read >>= λ found. next found.0 found.1)
then_reading text ok follows first others right after agrees next ahead nexts part_fits follow some line a (Ok found) h =
    then_found text ok follows first others right after agrees ahead part_fits follow line found.0 found.1 h (next found.0 found.1) (nexts found.0 h.fits found.1 (glyphs_behind line (text found.0) found.1 h.whole a))
then_reading text ok follows first others right after agrees next ahead nexts part_fits follow some line a (Err left) h =
    then_stopped text ok follows first others right after part_fits follow some line left h

-- a reader, and for each thing that it finds a reader of what stands behind it: together they read the things that begin so
pub then_read : {V E : Type 0} (text : V → List ℕ) (ok : V → Type 0) (follows : List ℕ → Type 0) (first : E → V) (others : E → List ℕ) (right : E → Type 0) (after : List ℕ → Type 0) (agrees : List ℕ → List ℕ → Type 0) (reader : Reader V) (next : V → Reader E) → ((one other : List ℕ) → agrees one other → SameFirst one other) → IsReader text ok follows SameFirst reader → ((v : V) → ok v → IsReader others (λ e. (first e ≡ v) × right e) after agrees (next v)) → ((e : E) → right e → ok (first e)) → ((e : E) (behind : List ℕ) → right e → after behind → follows (others e ++ behind)) → ((v : V) → ok v → (e : E) × (first e ≡ v) × right e) → IsReader (λ e. text (first e) ++ others e) right after agrees (λ line. reader line >>= λ found. next found.0 found.1)
then_read text ok follows first others right after agrees reader next ahead is nexts part_fits follow some line a =
    then_reading text ok follows first others right after agrees next ahead nexts part_fits follow some line a (reader line) (is line a)

-- what is read, made into something else

made_reading : {V E : Type 0} (text : V → List ℕ) (ok : V → Type 0) (follows : List ℕ → Type 0) (agrees : List ℕ → List ℕ → Type 0) (make : V → E) (first : E → V) (right : E → Type 0) → ((e : E) → right e → ok (first e)) → ((e : E) → right e → make (first e) ≡ e) → ((v : V) → ok v → right (make v)) → ((v : V) → ok v → first (make v) ≡ v) → (line : List ℕ) (read : Reading V) → Reads text ok follows agrees line read → Reads (λ e. text (first e)) right follows agrees line (as_read make read)
made_reading text ok follows agrees make first right part whole_is there back line (Ok found) h = record {
  fits = there found.0 h.fits;
  whole = h.whole ∙ ap (λ v. text v ++ found.1) (sym (back found.0 h.fits));
  only = λ w behind z fit follow e ahead.
      let same : first w ≡ found.0 = h.only (first w) behind z (part w fit) follow (e ∙ ap (λ v. text v ++ z) (back found.0 h.fits)) ahead in
      sym (whole_is w fit) ∙ ap make same;
}
made_reading text ok follows agrees make first right part whole_is there back line (Err left) h = record {
  part = h.part;
  rest = h.rest;
  whole = h.whole;
  left_is = h.left_is;
  value = make h.value;
  more = h.more;
  fits = there h.value h.fits;
  goes_on = ap text (back h.value h.fits) ∙ h.goes_on;
  none = λ w behind z fit follow e ahead. h.none (first w) behind z (part w fit) follow e ahead;
}

pub made : {V E : Type 0} (text : V → List ℕ) (ok : V → Type 0) (follows : List ℕ → Type 0) (agrees : List ℕ → List ℕ → Type 0) (reader : Reader V) (make : V → E) (first : E → V) (right : E → Type 0) → IsReader text ok follows agrees reader → ((e : E) → right e → ok (first e)) → ((e : E) → right e → make (first e) ≡ e) → ((v : V) → ok v → right (make v)) → ((v : V) → ok v → first (make v) ≡ v) → IsReader (λ e. text (first e)) right follows agrees (λ line. as_read make (reader line))
made text ok follows agrees reader make first right is part whole_is there back line a =
    made_reading text ok follows agrees make first right part whole_is there back line (reader line) (is line a)

made_of_reading : {V E : Type 0} (text : V → List ℕ) (ok : V → Type 0) (follows : List ℕ → Type 0) (agrees : List ℕ → List ℕ → Type 0) (make : V → E) (other : E → List ℕ) → ((v : V) → ok v → text v ≡ other (make v)) → (line : List ℕ) (read : Reading V) → Reads text ok follows agrees line read → Reads other (λ e. (v : V) × (e ≡ make v) × ok v) follows agrees line (as_read make read)
made_of_reading text ok follows agrees make other same line (Ok found) h = record {
  fits = (found.0, refl, h.fits);
  whole = h.whole ∙ ap (λ t. t ++ found.1) (same found.0 h.fits);
  only = λ w behind z fit follow e ahead.
      let is : fit.0 ≡ found.0 = h.only fit.0 behind z fit.2 follow (ap (λ t. t ++ behind) (same fit.0 fit.2 ∙ ap other (sym fit.1)) ∙ (e ∙ ap (λ t. t ++ z) (sym (same found.0 h.fits)))) ahead in
      fit.1 ∙ ap make is;
}
made_of_reading text ok follows agrees make other same line (Err left) h = record {
  part = h.part;
  rest = h.rest;
  whole = h.whole;
  left_is = h.left_is;
  value = make h.value;
  more = h.more;
  fits = (h.value, refl, h.fits);
  goes_on = sym (same h.value h.fits) ∙ h.goes_on;
  none = λ w behind z fit follow e ahead. h.none fit.0 behind z fit.2 follow (ap (λ t. t ++ behind) (same fit.0 fit.2 ∙ ap other (sym fit.1)) ∙ e) ahead;
}

-- what is made of what is read, and has the same text
pub made_of : {V E : Type 0} (text : V → List ℕ) (ok : V → Type 0) (follows : List ℕ → Type 0) (agrees : List ℕ → List ℕ → Type 0) (reader : Reader V) (make : V → E) (other : E → List ℕ) → ((v : V) → ok v → text v ≡ other (make v)) → IsReader text ok follows agrees reader → IsReader other (λ e. (v : V) × (e ≡ make v) × ok v) follows agrees (λ line. as_read make (reader line))
made_of text ok follows agrees reader make other same is line a =
    made_of_reading text ok follows agrees make other same line (reader line) (is line a)

-- more things have texts, but none of theirs begins as the line does

pub widened : {E : Type 0} (text : E → List ℕ) (ok right : E → Type 0) (follows : List ℕ → Type 0) (agrees : List ℕ → List ℕ → Type 0) → ((one other : List ℕ) → agrees one other → SameFirst one other) → ((e : E) → ok e → right e) → (line : List ℕ) → ((e : E) (behind : List ℕ) → right e → follows behind → ok e ⊎ (SameFirst (text e ++ behind) line → ⊥)) → (read : Reading E) → Reads text ok follows agrees line read → Reads text right follows agrees line read
widened text ok right follows agrees ahead there line other (Ok found) h = record {
  fits = there found.0 h.fits;
  whole = h.whole;
  only = λ w behind z fit follow e agree. elim (other w behind fit follow) [
    | inl mine ↦ h.only w behind z mine follow e agree
    | inr not ↦ absurd (not (ap first_of e ∙ (same_behind (text found.0) z found.1 (ahead z found.1 agree) ∙ ap first_of (sym h.whole))))
  ];
}
widened text ok right follows agrees ahead there line other (Err left) h = record {
  part = h.part;
  rest = h.rest;
  whole = h.whole;
  left_is = h.left_is;
  value = h.value;
  more = h.more;
  fits = there h.value h.fits;
  goes_on = h.goes_on;
  none = λ w behind z fit follow e agree. elim (other w behind fit follow) [
    | inl mine ↦ h.none w behind z mine follow e agree
    | inr not ↦ not (ap first_of e ∙ (same_behind h.part z h.rest agree ∙ ap first_of (sym h.whole)))
  ];
}

-- a reader may say less of what stands farther ahead
pub farther : {E : Type 0} (text : E → List ℕ) (ok : E → Type 0) (follows : List ℕ → Type 0) (agrees closely : List ℕ → List ℕ → Type 0) → ((one other : List ℕ) → closely one other → agrees one other) → (line : List ℕ) (read : Reading E) → Reads text ok follows agrees line read → Reads text ok follows closely line read
farther text ok follows agrees closely there line (Ok found) h = record {
  fits = h.fits;
  whole = h.whole;
  only = λ w behind z fit follow e agree. h.only w behind z fit follow e (there z found.1 agree);
}
farther text ok follows agrees closely there line (Err left) h = h

-- a text is read as its thing

pub again_by : {E : Type 0} (text : E → List ℕ) (ok : E → Type 0) (follows : List ℕ → Type 0) (agrees : List ℕ → List ℕ → Type 0) (v : E) (behind : List ℕ) → ((rest : List ℕ) → agrees rest rest) → ok v → follows behind → (read : Reading E) → Reads text ok follows agrees (text v ++ behind) read → read ≡ Ok (v, behind)
again_by {E} text ok follows agrees v behind same fits follow (Ok found) h =
    let is : v ≡ found.0 = h.only v behind found.1 fits follow h.whole (same found.1) in
    let rest : behind ≡ found.1 = cancelled (text v) behind found.1 (h.whole ∙ ap (λ w. text w ++ found.1) (sym is)) in
    let pair : E → List ℕ → Reading E = λ w after. Ok (w, after) in
    ap (λ w. pair w found.1) (sym is) ∙ ap (λ after. pair v after) (sym rest)
again_by text ok follows agrees v behind same fits follow (Err left) h =
    absurd (h.none v behind h.rest fits follow h.whole refl)

pub again : {E : Type 0} (text : E → List ℕ) (ok : E → Type 0) (follows : List ℕ → Type 0) (agrees : List ℕ → List ℕ → Type 0) (reader : Reader E) → IsReader text ok follows agrees reader → (v : E) (behind : List ℕ) → ((rest : List ℕ) → agrees rest rest) → ok v → follows behind → AreGlyphs (text v ++ behind) → reader (text v ++ behind) ≡ Ok (v, behind)
again text ok follows agrees reader is v behind same fits follow a =
    again_by text ok follows agrees v behind same fits follow (reader (text v ++ behind)) (is (text v ++ behind) a)

-- what follows may be anything
abbrev pub Anything : List ℕ → Type 0
Anything behind = Unit {0}

-- a reader looks ahead no further than the next glyph
pub no_further : (one other : List ℕ) → SameFirst one other → SameFirst one other
no_further one other e = e
