-- The steps of loops.
use Rattle.std.proofs.Common.{◌≡◌, ℕ, zero, suc, ◌+◌, ◌-◌, ◌<◌, ◌≤◌, Bool, true, false, cond, List, [], ◌∷◌, ◌++◌, Option, Some, None, Ok, Err, length, drop, get_or, map, refl, sym, ap, ◌∙◌, append_assoc, arith}
use Rattle.std.proofs.lemmas.List.{drop_all}
use Rattle.std.proofs.lemmas.Bool.{false≢true}
use Rattle.line_scanner.specs.declared.token.Token.{Token}
use Rattle.line_scanner.specs.Token.{PlainToken, plain_token}
use Rattle.line_trees.specs.declared.class.Class.{Class}
use Rattle.line_trees.specs.declared.tree.Mark.{Mark}
use Rattle.line_trees.specs.declared.tree.Pending.{Pending}
use Rattle.line_trees.specs.declared.tree.Pending.TheVariants as pending
use Rattle.line_trees.specs.declared.symbol.Symbol.{Symbol}
use Rattle.line_trees.specs.declared.machine.Mode.{Mode}
use Rattle.line_trees.specs.declared.machine.OpenBracket.{OpenBracket}
use Rattle.line_trees.specs.declared.machine.Move.{Move}
use Rattle.apl_arrays.specs.List.{first_of, others_of}
use Rattle.line_trees.specs.Nodes.{PlainNode, indexed}
use Rattle.line_trees.specs.Symbols.{symbol_of}
use Rattle.line_trees.specs.Marks.{Marked, marks_from, marked_by, with_mark, step, may_end, open_after}
use Rattle.line_trees.specs.Building.{Numbers, Built, attached, finished, is_indexing, subscripts, behind_subscripts, first_list, other_lists, built_by, built_from, nothing_built}

-- what has a first item is that item and the others
pub first_and_others : {A : Type 0} (xs : List A) (x : A) → first_of xs ≡ Some x → xs ≡ x ∷ others_of xs
first_and_others [] x e = absurd cc
first_and_others (y ∷ ys) x e = cc

-- ---- subscripts that are taken

pub takes_subscript : (list more all : Numbers) (waiting rest : List Pending) (place : Option ℕ) → first_of waiting ≡ Some (pending.Subscript place) → rest ≡ others_of waiting → more ≡ list ++ place ∷ []
    → list ++ subscripts waiting ≡ all → more ++ subscripts rest ≡ all
takes_subscript list more all waiting rest place e r pushed so_far =
    ap (λ (x : Numbers). x ++ subscripts rest) pushed ∙ append_assoc list (place ∷ []) (subscripts rest) ∙ ap (λ (x : List Pending). list ++ (place ∷ subscripts x)) r
    ∙ ap (λ (x : List Pending). list ++ subscripts x) (sym (first_and_others waiting (pending.Subscript place) e)) ∙ so_far

pub takes_behind : (waiting rest all : List Pending) (place : Option ℕ) → first_of waiting ≡ Some (pending.Subscript place) → rest ≡ others_of waiting → behind_subscripts waiting ≡ all → behind_subscripts rest ≡ all
takes_behind waiting rest all place e r so_far = ap behind_subscripts r ∙ ap behind_subscripts (sym (first_and_others waiting (pending.Subscript place) e)) ∙ so_far

pub fewer_wait : {A : Type 0} (waiting rest : List A) (x : A) → first_of waiting ≡ Some x → rest ≡ others_of waiting → length rest < length waiting
fewer_wait waiting rest x e r = omega (arith, ap length r, ap length (first_and_others waiting x e))

pub ruleset taking = (takes_subscript, takes_behind, fewer_wait)

-- ---- operands that are attached

indexing_first : (waiting : List Pending) → is_indexing (first_of waiting) ≡ true → waiting ≡ pending.Indexing ∷ others_of waiting
indexing_first (pending.Indexing ∷ waiting) e = refl
indexing_first waiting e = absurd (false≢true e)

pub attaches_list : (label : Option (List ℕ)) (v : ℕ) (nodes more : List PlainNode) (waiting rest : List Pending) (lists fewer : List Numbers) (subs : Numbers) (all : Built) → is_indexing (first_of waiting) ≡ true → rest ≡ others_of waiting
    → subs ≡ first_list lists → fewer ≡ other_lists lists → more ≡ nodes ++ indexed v subs ∷ [] → attached label v nodes waiting lists ≡ all → attached label (length nodes) more rest fewer ≡ all
unfolding attached
attaches_list label v nodes more waiting rest lists fewer subs all e r s f m so_far =
    ap (λ (x : List PlainNode). attached label (length nodes) x rest fewer) (m ∙ ap (λ (x : Numbers). nodes ++ indexed v x ∷ []) s)
    ∙ ap (λ (x : List Pending). attached label (length nodes) (nodes ++ indexed v (first_list lists) ∷ []) x fewer) r
    ∙ ap (λ (x : List Numbers). attached label (length nodes) (nodes ++ indexed v (first_list lists) ∷ []) (others_of waiting) x) f
    ∙ ap (λ (x : List Pending). attached label v nodes x lists) (sym (indexing_first waiting e)) ∙ so_far

attached_last : (label : Option (List ℕ)) (v : ℕ) (nodes : List PlainNode) (waiting : List Pending) (lists : List Numbers) → is_indexing (first_of waiting) ≡ false
    → attached label v nodes waiting lists ≡ finished label v nodes waiting lists (first_of waiting) (others_of waiting)
unfolding attached
attached_last label v nodes (pending.Indexing ∷ waiting) lists e = absurd (false≢true (sym e))
attached_last label v nodes waiting lists e = refl

pub attaches_last : (label : Option (List ℕ)) (v : ℕ) (nodes : List PlainNode) (waiting : List Pending) (lists : List Numbers) (now all : Built) → is_indexing (first_of waiting) ≡ false
    → now ≡ finished label v nodes waiting lists (first_of waiting) (others_of waiting) → attached label v nodes waiting lists ≡ all → now ≡ all
attaches_last label v nodes waiting lists now all e h so_far = h ∙ sym (attached_last label v nodes waiting lists e) ∙ so_far

pub less_waits : (waiting rest : List Pending) → is_indexing (first_of waiting) ≡ true → rest ≡ others_of waiting → length rest < length waiting
less_waits waiting rest e r = omega (arith, ap length r, ap length (indexing_first waiting e))

pub ruleset attaching = (attaches_list, attaches_last, less_waits)

-- ---- marks

-- marks before those that are computed
abbrev pub with_marks : List Mark → Marked → Marked
with_marks [] marked = marked
with_marks (m ∷ marks) marked = with_mark m (with_marks marks marked)

with_marks-append : (marks : List Mark) (m : Mark) (marked : Marked) → with_marks (marks ++ m ∷ []) marked ≡ with_marks marks (with_mark m marked)
with_marks-append [] m marked = refl
with_marks-append (first ∷ marks) m marked = ap (with_mark first) (with_marks-append marks m marked)

with_marks-ok : (marks : List Mark) → with_marks marks (Ok []) ≡ Ok marks
with_marks-ok [] = refl
with_marks-ok (first ∷ marks) = ap (with_mark first) (with_marks-ok marks)

with_marks-err : (marks : List Mark) (at : ℕ) → with_marks marks (Err at) ≡ Err at
with_marks-err [] at = refl
with_marks-err (first ∷ marks) at = ap (with_mark first) (with_marks-err marks at)

-- the token at a place, and those behind it
plain_at : (items : List Token) (i : ℕ) (token : Token) → i < length items → token ≡ get_or items i token → drop i (map plain_token items) ≡ plain_token token ∷ drop (suc i) (map plain_token items)
plain_at [] i token lt e = absurd (omega arith)
plain_at (t ∷ ts) zero token lt e = ap (λ (x : Token). plain_token x ∷ map plain_token ts) (sym e)
plain_at (t ∷ ts) (suc i) token lt e = plain_at ts i token (omega arith) e

pub token_at : (items : List Token) (plain : List PlainToken) (i : ℕ) (token : Token) → map plain_token items ≡ plain → i < length items → token ≡ get_or items i token → drop i plain ≡ plain_token token ∷ drop (i + 1) plain
token_at items plain i token all lt e =
    ap (drop i) (sym all) ∙ plain_at items i token lt e ∙ ap (λ (x : List PlainToken). plain_token token ∷ drop (suc i) x) all ∙ ap (λ (k : ℕ). plain_token token ∷ drop k plain) (let n : suc i ≡ i + 1 = omega arith in n)

marks_at : (classes : List Class) (len : ℕ) (mode : Mode) (brackets : List OpenBracket) (token : PlainToken) (tokens rest : List PlainToken) (move : Option Move) → tokens ≡ token ∷ rest
    → step mode (first_of brackets) (symbol_of classes token.kind) ≡ move
    → marks_from classes len mode brackets tokens ≡ marked_by move token.at (λ mode change. marks_from classes len mode (open_after change brackets) rest)
unfolding marks_from
marks_at classes len mode brackets token tokens rest move e s =
    ap (marks_from classes len mode brackets) e ∙ ap (λ (x : Option Move). marked_by x token.at (λ mode change. marks_from classes len mode (open_after change brackets) rest)) s

pub marks_token : (classes : List Class) (len : ℕ) (mode : Mode) (brackets after : List OpenBracket) (items : List Token) (plain : List PlainToken) (i : ℕ) (token : Token) (marks more : List Mark) (move : Move) (all : Marked)
    → map plain_token items ≡ plain → i < length items → token ≡ get_or items i token → step mode (first_of brackets) (symbol_of classes (plain_token token).kind) ≡ Some move → more ≡ marks ++ move.mark ∷ []
    → after ≡ open_after move.change brackets → with_marks marks (marks_from classes len mode brackets (drop i plain)) ≡ all → with_marks more (marks_from classes len move.mode after (drop (i + 1) plain)) ≡ all
marks_token classes len mode brackets after items plain i token marks more move all whole lt e s pushed change so_far =
    ap (λ (x : List Mark). with_marks x (marks_from classes len move.mode after (drop (i + 1) plain))) pushed ∙ with_marks-append marks move.mark (marks_from classes len move.mode after (drop (i + 1) plain))
    ∙ ap (λ (x : List OpenBracket). with_marks marks (with_mark move.mark (marks_from classes len move.mode x (drop (i + 1) plain)))) change
    ∙ ap (with_marks marks) (sym (marks_at classes len mode brackets (plain_token token) (drop i plain) (drop (i + 1) plain) (Some move) (token_at items plain i token whole lt e) s)) ∙ so_far

pub marks_stop : (classes : List Class) (len : ℕ) (mode : Mode) (brackets : List OpenBracket) (items : List Token) (plain : List PlainToken) (i : ℕ) (token : Token) (marks : List Mark) (all : Marked)
    → map plain_token items ≡ plain → i < length items → token ≡ get_or items i token → step mode (first_of brackets) (symbol_of classes (plain_token token).kind) ≡ None
    → with_marks marks (marks_from classes len mode brackets (drop i plain)) ≡ all → all ≡ Err token.at
marks_stop classes len mode brackets items plain i token marks all whole lt e s so_far =
    sym so_far ∙ ap (with_marks marks) (marks_at classes len mode brackets (plain_token token) (drop i plain) (drop (i + 1) plain) None (token_at items plain i token whole lt e) s) ∙ with_marks-err marks token.at

marks_end : (classes : List Class) (len : ℕ) (mode : Mode) (brackets : List OpenBracket) (tokens : List PlainToken) (b : Bool) → tokens ≡ [] → may_end mode (first_of brackets) ≡ b → marks_from classes len mode brackets tokens ≡ cond b (Ok []) (Err len)
unfolding marks_from
marks_end classes len mode brackets tokens b e s = ap (marks_from classes len mode brackets) e ∙ ap (λ (x : Bool). cond x (Ok []) (Err len)) s

length-plain : (items : List Token) → length (map plain_token items) ≡ length items
length-plain [] = refl
length-plain (t ∷ ts) = ap suc (length-plain ts)

none_left : (items : List Token) (plain : List PlainToken) (i : ℕ) → map plain_token items ≡ plain → length items ≤ i → drop i plain ≡ []
none_left items plain i e past = drop_all i plain (omega (arith, ap length e, length-plain items))

pub marks_all : (classes : List Class) (len : ℕ) (mode : Mode) (brackets : List OpenBracket) (items : List Token) (plain : List PlainToken) (i : ℕ) (marks : List Mark) (all : Marked) → map plain_token items ≡ plain → length items ≤ i
    → may_end mode (first_of brackets) ≡ true → with_marks marks (marks_from classes len mode brackets (drop i plain)) ≡ all → all ≡ Ok marks
marks_all classes len mode brackets items plain i marks all e past ends so_far =
    sym so_far ∙ ap (with_marks marks) (marks_end classes len mode brackets (drop i plain) true (none_left items plain i e past) ends) ∙ with_marks-ok marks

pub marks_short : (classes : List Class) (len : ℕ) (mode : Mode) (brackets : List OpenBracket) (items : List Token) (plain : List PlainToken) (i : ℕ) (marks : List Mark) (all : Marked) → map plain_token items ≡ plain → length items ≤ i
    → may_end mode (first_of brackets) ≡ false → with_marks marks (marks_from classes len mode brackets (drop i plain)) ≡ all → all ≡ Err len
marks_short classes len mode brackets items plain i marks all e past ends so_far =
    sym so_far ∙ ap (with_marks marks) (marks_end classes len mode brackets (drop i plain) false (none_left items plain i e past) ends) ∙ with_marks-err marks len

pub ruleset marking = (marks_token, marks_stop, marks_all, marks_short)

-- ---- what marks build

built_at : (classes : List Class) (marks : List Mark) (tokens : List Token) (i : ℕ) (m d : Mark) (token : Token) → i < length marks → i < length tokens → m ≡ get_or marks i d → token ≡ get_or tokens i token
    → built_from classes (drop i marks) (map plain_token (drop i tokens)) ≡ built_by m (symbol_of classes (plain_token token).kind) (plain_token token).kind (built_from classes (drop (suc i) marks) (map plain_token (drop (suc i) tokens)))
unfolding built_from
built_at classes [] tokens i m d token lt lu e f = absurd (omega arith)
built_at classes (n ∷ marks) [] i m d token lt lu e f = absurd (omega arith)
built_at classes (n ∷ marks) (t ∷ tokens) zero m d token lt lu e f =
    ap (λ (x : Mark). built_by x (symbol_of classes (plain_token t).kind) (plain_token t).kind (built_from classes marks (map plain_token tokens))) (sym e)
    ∙ ap (λ (x : Token). built_by m (symbol_of classes (plain_token x).kind) (plain_token x).kind (built_from classes marks (map plain_token tokens))) (sym f)
built_at classes (n ∷ marks) (t ∷ tokens) (suc i) m d token lt lu e f = built_at classes marks tokens i m d token (omega arith) (omega arith) e f

pub builds_token : (classes : List Class) (marks : List Mark) (tokens : List Token) (k : ℕ) (m d : Mark) (token : Token) (s : Symbol) (was now : Built) → 0 < k → k ≤ length tokens → length marks ≡ length tokens → m ≡ get_or marks (k - 1) d → token ≡ get_or tokens (k - 1) token
    → was ≡ built_from classes (drop k marks) (map plain_token (drop k tokens)) → s ≡ symbol_of classes (plain_token token).kind → now ≡ built_by m s (plain_token token).kind was
    → now ≡ built_from classes (drop (k - 1) marks) (map plain_token (drop (k - 1) tokens))
builds_token classes marks tokens k m d token s was now some within same e f so_far is read =
    let next : k ≡ suc (k - 1) = omega arith in
    read ∙ ap (λ (x : Symbol). built_by m x (plain_token token).kind was) is
    ∙ ap (built_by m (symbol_of classes (plain_token token).kind) (plain_token token).kind) (so_far ∙ ap (λ (x : ℕ). built_from classes (drop x marks) (map plain_token (drop x tokens))) next)
    ∙ sym (built_at classes marks tokens (k - 1) m d token (omega (arith, same)) (omega arith) e f)

builds_none : (classes : List Class) (tokens : List PlainToken) → built_from classes [] tokens ≡ nothing_built
unfolding built_from
builds_none classes tokens = refl

pub builds_nothing : (classes : List Class) (marks : List Mark) (tokens : List Token) (b : Built) → length marks ≡ length tokens → b ≡ nothing_built → b ≡ built_from classes (drop (length tokens) marks) (map plain_token (drop (length tokens) tokens))
builds_nothing classes marks tokens b same e =
    e ∙ sym (ap (λ (x : List Mark). built_from classes x (map plain_token (drop (length tokens) tokens))) (drop_all (length tokens) marks (omega (arith, same))) ∙ builds_none classes (map plain_token (drop (length tokens) tokens)))

pub ruleset building = (builds_token, builds_nothing)

-- ---- as many marks as tokens

-- how many marks there are
abbrev marks_in : Marked → ℕ
marks_in (Ok marks) = length marks
marks_in (Err at) = 0

marked_length : (m : Mark) (marked : Marked) (marks : List Mark) (n : ℕ) → with_mark m marked ≡ Ok marks → ((rest : List Mark) → marked ≡ Ok rest → length rest ≡ n) → length marks ≡ suc n
marked_length m (Ok rest) marks n e h = ap marks_in (sym e) ∙ ap suc (h rest refl)
marked_length m (Err at) marks n e h = absurd cc

length_by : (classes : List Class) (len : ℕ) (brackets : List OpenBracket) (token : PlainToken) (tokens : List PlainToken) (move : Option Move) (marks : List Mark)
    → marked_by move token.at (λ mode change. marks_from classes len mode (open_after change brackets) tokens) ≡ Ok marks
    → ((mode : Mode) (more : List OpenBracket) (rest : List Mark) → marks_from classes len mode more tokens ≡ Ok rest → length rest ≡ length tokens) → length marks ≡ suc (length tokens)
length_by classes len brackets token tokens None marks e h = absurd cc
length_by classes len brackets token tokens (Some move) marks e h =
    marked_length move.mark (marks_from classes len move.mode (open_after move.change brackets) tokens) marks (length tokens) e (λ rest f. h move.mode (open_after move.change brackets) rest f)

end_length : (b : Bool) (len : ℕ) (marks : List Mark) → cond b (Ok []) (Err len) ≡ Ok marks → length marks ≡ 0
end_length true len [] e = refl
end_length true len (m ∷ marks) e = absurd cc
end_length false len marks e = absurd cc

marks_length : (classes : List Class) (len : ℕ) (mode : Mode) (brackets : List OpenBracket) (tokens : List PlainToken) (marks : List Mark) → marks_from classes len mode brackets tokens ≡ Ok marks → length marks ≡ length tokens
unfolding marks_from
marks_length classes len mode brackets [] marks e = end_length (may_end mode (first_of brackets)) len marks e
marks_length classes len mode brackets (token ∷ tokens) marks e =
    length_by classes len brackets token tokens (step mode (first_of brackets) (symbol_of classes token.kind)) marks e (λ mode more rest f. marks_length classes len mode more tokens rest f)

pub same_length : (classes : List Class) (len : ℕ) (mode : Mode) (brackets : List OpenBracket) (plain : List PlainToken) (marks slice : List Mark) (items : List Token) → marks_from classes len mode brackets plain ≡ Ok marks → slice ≡ marks
    → map plain_token items ≡ plain → length slice ≡ length items
same_length classes len mode brackets plain marks slice items e s whole = ap length s ∙ marks_length classes len mode brackets plain marks e ∙ ap length (sym whole) ∙ length-plain items
