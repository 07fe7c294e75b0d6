-- The end of a run whose tasks are back.
use Rattle.std.proofs.Common.{◌≡◌, ℕ, ◌∷◌, ◌&&◌, Bool, not, List, [], map, reverse, Option, sym, ap, ◌∙◌, subst}
use Rattle.std.specs.Prelude.{All, IfSome}
use Rattle.std.proofs.lemmas.Bool.{and_parts, not-true}
use Rattle.std.proofs.lemmas.List.Elements.{All-cons, All-head, All-nil, All-tail}
use Rattle.apl_arrays.specs.List.{Listed}
use Rattle.apl_io.specs.Content.{Told}
use Rattle.apl_session.specs.Ended.{IfWhole}
use Rattle.apl_session.specs.declared.outcome.Ended.{Ended}
use Rattle.sv_journal.specs.Output.{PlainTranscript}
use Rattle.sv_core.specs.Core.{PlainCore}
use Rattle.sv_core.specs.Histories.{party_of_entry}
use Rattle.sv_events.specs.Entry.{PlainEntry}
use Rattle.sv_rules.specs.Entries.{Entries}
use Rattle.sv_rules.specs.Legal.{IsLegal}
use Rattle.session_rules.specs.Auxiliaries.{some_stay}
use Rattle.sv_turn.specs.Journals.{Begins, places_of}
use Rattle.sv_turn.specs.Seating.{known_of, party_and_places}
use Rattle.sv_turn.specs.declared.seat.Seat.{Seat}
use Rattle.party_turns.proofs.Parts.{if_whole}
use Rattle.party_turns.specs.Seats.{HasPrinted, end_by, none_lost, seat_numbers, transcript_of}
use Rattle.party_turns.specs.Sittings.{Sitting, seats_in}
use Rattle.aplsv_serve.specs.Ends.{EndsWhole, HasAllOf}
use Rattle.aplsv_serve.specs.declared.ending.Apart.{Apart}

-- ---- seats

module _ (journal : Entries) where
  has_all : (given closed : Seat PlainEntry) → party_and_places closed ≡ party_and_places given → closed.mine.items ≡ places_of party_of_entry closed.party journal → Begins (known_of given) journal → HasAllOf journal given
  has_all given closed same places begins = record {
    begins = begins;
    places =
        sym (ap (λ (p : ℕ × List ℕ). p.1) same) ∙ (places ∙ ap (λ (p : ℕ × List ℕ). places_of party_of_entry p.0 journal) same);
  }

  -- the one journal has all that the seats know
  pub have_all : (given closed : List (Seat PlainEntry)) → map party_and_places closed ≡ map party_and_places given → All (λ seat. seat.mine.items ≡ places_of party_of_entry seat.party journal) closed → All (λ seat. Begins (known_of seat) journal) given → All (HasAllOf journal) given
  have_all [] closed same places begins = All-nil (HasAllOf journal)
  have_all (g ∷ given) [] same places begins = absurd cc
  have_all (g ∷ given) (c ∷ closed) same places begins =
      let first : party_and_places c ≡ party_and_places g = cc in
      let others : map party_and_places closed ≡ map party_and_places given = cc in
      All-cons (HasAllOf journal) g given
      (has_all g c first (All-head (λ (s : Seat PlainEntry). s.mine.items ≡ places_of party_of_entry s.party journal) c closed places) (All-head (λ (s : Seat PlainEntry). Begins (known_of s) journal) g given begins))
      (have_all given closed others (All-tail (λ (s : Seat PlainEntry). s.mine.items ≡ places_of party_of_entry s.party journal) c closed places) (All-tail (λ (s : Seat PlainEntry). Begins (known_of s) journal) g given begins))

-- ---- the answer

module _ {X Y K : Type 0} (told : K → Option (Told (ℕ × List ℕ))) (faults : K → ℕ) (users : List ℕ) (apart : Apart X Y K) where
  abbrev pub ArePrinted : List PlainTranscript → Type 0
  ArePrinted texts = (sittings : List (Sitting K)) → seats_in sittings ≡ apart.users.items → All (HasPrinted told faults) sittings → texts ≡ map transcript_of sittings

  -- a run whose tasks are these ends so
  pub ends_so : (core : PlainCore) (transcripts : Option (Listed PlainTranscript)) (journal : Listed PlainEntry) (is_whole : Bool) (result : Ended) → result ≡ end_by transcripts journal is_whole
      → is_whole ≡ ((not apart.ten.is_lost && not apart.twenty.is_lost && none_lost apart.users.items) && not (some_stay (seat_numbers apart.users.items) core.journal))
      → IfSome transcripts (λ list. ArePrinted list.items) → reverse journal.items ≡ core.journal → IsLegal core.users core.journal → core.users ≡ users → All (HasAllOf core.journal) apart.seats.items
      → IfWhole result (λ texts entries. EndsWhole told faults users apart texts entries)
  ends_so core transcripts journal is_whole result is here printed same legal members seats =
      subst (λ (e : Ended). IfWhole e (λ texts entries. EndsWhole told faults users apart texts entries)) (sym is)
      (if_whole transcripts journal is_whole (λ texts entries. EndsWhole told faults users apart texts entries)
      (λ list some true_now.
      let nobody = not apart.ten.is_lost && not apart.twenty.is_lost && none_lost apart.users.items in
      let both = and_parts nobody (not (some_stay (seat_numbers apart.users.items) core.journal)) (sym here ∙ true_now) in
      let first = and_parts (not apart.ten.is_lost && not apart.twenty.is_lost) (none_lost apart.users.items) both.0 in
      let second = and_parts (not apart.ten.is_lost) (not apart.twenty.is_lost) first.0 in
      record {
        ten_here = not-true apart.ten.is_lost second.0;
        twenty_here = not-true apart.twenty.is_lost second.1;
        users_here = first.1;
        over = ap (λ (j : Entries). some_stay (seat_numbers apart.users.items) j) same ∙ not-true (some_stay (seat_numbers apart.users.items) core.journal) both.1;
        legal = subst (λ (j : Entries). IsLegal users j) (sym same) (subst (λ (members : List ℕ). IsLegal members core.journal) members legal);
        seats = subst (λ (j : Entries). All (HasAllOf j) apart.seats.items) (sym same) seats;
        printed = subst (λ (o : Option (Listed PlainTranscript)). IfSome o (λ texts. ArePrinted texts.items)) some printed;
      }))
