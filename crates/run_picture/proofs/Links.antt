-- Lines between lanes: 64 of an entry at most.
use Rattle.std.proofs.Common.{◌≡◌, ◌≤◌, ◌<◌, ℕ, Bool, true, false, cond, ltb, List, [], ◌∷◌, ◌++◌, length, length-append, Option, Some, None, refl, sym, ap, ◌∙◌, subst, arith}
use Rattle.std.proofs.lemmas.Bool.{le-ltb, ltb-true}
use Rattle.sv_events.specs.Entry.{PlainEntry}
use Rattle.sv_events.specs.declared.entry.Pair.{Pair}
use Rattle.run_picture.specs.Link.{coupled, link_added, links_behind}
use Rattle.run_picture.specs.declared.link.Link.{Link}

full_added : (links : List Link) (one : Option Link) → ltb (length links) 64 ≡ false → link_added links one ≡ links
full_added links None full = refl
full_added links (Some link) full = ap (λ (b : Bool). cond b (links ++ link ∷ []) links) full

full_behind : (lanes : List ℕ) (journal : List PlainEntry) (links : List Link) (pairs : List Pair) → ltb (length links) 64 ≡ false → links_behind lanes journal links pairs ≡ links
full_behind lanes journal links [] full = refl
full_behind lanes journal links (pair ∷ pairs) full =
    ap (λ (list : List Link). links_behind lanes journal list pairs) (full_added links (coupled lanes journal pair) full) ∙ full_behind lanes journal links pairs full

-- where there are 64, no pair adds a line
pub full_stays : (lanes : List ℕ) (journal : List PlainEntry) (links : List Link) (pairs : List Pair) → 64 ≤ length links → links_behind lanes journal links pairs ≡ links
full_stays lanes journal links pairs full = full_behind lanes journal links pairs (le-ltb (length links) 64 full)

one_as : (links : List Link) (link : Link) (b : Bool) → ltb (length links) 64 ≡ b → length links ≤ 64 → length (cond b (links ++ link ∷ []) links) ≤ 64
one_as links link true room few =
    let below : length links < 64 = ltb-true (length links) 64 room in
    omega (arith, length-append links (link ∷ []))
one_as links link false room few = few

few_added : (links : List Link) (one : Option Link) → length links ≤ 64 → length (link_added links one) ≤ 64
few_added links None few = few
few_added links (Some link) few = one_as links link (ltb (length links) 64) refl few

few_behind : (lanes : List ℕ) (journal : List PlainEntry) (links : List Link) (pairs : List Pair) → length links ≤ 64 → length (links_behind lanes journal links pairs) ≤ 64
few_behind lanes journal links [] few = few
few_behind lanes journal links (pair ∷ pairs) few = few_behind lanes journal (link_added links (coupled lanes journal pair)) pairs (few_added links (coupled lanes journal pair) few)

-- the lines of an entry are 64 at most
pub few_links : (lanes : List ℕ) (journal : List PlainEntry) (none links last : List Link) (one : Option Link) (pairs : List Pair) → none ≡ [] → links ≡ link_added none one → last ≡ links_behind lanes journal links pairs → length last ≤ 64
few_links lanes journal none links last one pairs is first others =
    let begin : length none ≤ 64 = omega (arith, ap length is) in
    let more : length links ≤ 64 = subst (λ (list : List Link). length list ≤ 64) (sym first) (few_added none one begin) in
    subst (λ (list : List Link). length list ≤ 64) (sym others) (few_behind lanes journal links pairs more)
