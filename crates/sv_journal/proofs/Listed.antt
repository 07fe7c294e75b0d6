-- Lists behind a word, as they are written.
use Rattle.std.proofs.Common.{◌≡◌, ℕ, ◌+◌, ◌<◌, ◌≤◌, List, [], ◌∷◌, ◌++◌, codes, map, length, take, get_or, sym, ap, ◌∙◌, append-nil, append_assoc}
use Rattle.std.proofs.lemmas.List.{take_more, take_all}
use Rattle.std.proofs.lemmas.List.Concat.{flat_map-append}
use Rattle.std.specs.Fmt.{decimal}
use Rattle.std.specs.List.{flat_map}
use Rattle.sv_events.specs.Answer.{parties, names}
use Rattle.sv_journal.specs.EntryText.{answer_text}
use Rattle.sv_journal.proofs.SameEntries.{listed, names_listed}

-- one thing more
pub one_listed : {A : Type 0} (f : A → List ℕ) (list : List A) (index : ℕ) (x none : A) (old word before after : List ℕ) → index < length list → x ≡ get_or list index none → before ≡ old ++ (word ++ flat_map f (take index list)) → after ≡ before ++ f x → after ≡ old ++ (word ++ flat_map f (take (index + 1) list))
one_listed f list index x none old word before after within is so_far added =
    let front : List ℕ = flat_map f (take index list) in
    let more : flat_map f (take (index + 1) list) ≡ front ++ f x =
    ap (flat_map f) (take_more list index none within ∙ ap (λ last. take index list ++ last ∷ []) (sym is)) ∙ (flat_map-append f (take index list) (x ∷ []) ∙ ap (λ end. front ++ end) (append-nil (f x))) in
    added
    ∙ (ap (λ line. line ++ f x) so_far
    ∙ (append_assoc old (word ++ front) (f x)
    ∙ (ap (λ end. old ++ end) (append_assoc word front (f x)) ∙ ap (λ end. old ++ (word ++ end)) (sym more))))

pub parties_are : (list : List ℕ) (index : ℕ) (old line : List ℕ) → length list ≤ index → line ≡ old ++ (codes "parties" ++ flat_map (λ party. 32 ∷ decimal party) (take index list)) → line ≡ old ++ answer_text (parties list)
parties_are list index old line whole e =
    e ∙ (ap (λ items. old ++ (codes "parties" ++ flat_map (λ party. 32 ∷ decimal party) items)) (take_all index list whole) ∙ ap (λ text. old ++ text) (sym (listed (codes "parties") decimal list)))

pub names_are : (list : List (List ℕ)) (index : ℕ) (old line : List ℕ) → length list ≤ index → line ≡ old ++ (codes "names" ++ flat_map (λ name. 32 ∷ name) (take index list)) → line ≡ old ++ answer_text (names list)
names_are list index old line whole e =
    e ∙ (ap (λ items. old ++ (codes "names" ++ flat_map (λ name. 32 ∷ name) items)) (take_all index list whole) ∙ ap (λ text. old ++ text) (sym (names_listed list)))
