-- Offers are read of their bytes, and of no others.
use Rattle.std.proofs.Common.{◌≡◌, ℕ, ◌<◌, true, List, [], ◌∷◌, ◌++◌, Ok, length, refl, sym, ap, ◌∙◌, subst, append_assoc, arith}
use Rattle.std.specs.Prelude.{nat_le}
use Rattle.std.specs.List.{flat_map}
use Rattle.std.proofs.lemmas.Bool.Decides.{nat_tests}
use Rattle.byteorder.specs.Endian.{big_bytes}
use Rattle.apl_workspace.specs.Meaning.{NameTable}
use Rattle.apl_workspace.specs.Workspace.{is_addressee}
use Rattle.apl_workspace.specs.declared.remake.Remake.{Remake}
use Rattle.ws_codec.specs.Fields.{read_byte, read_name, read_number}
use Rattle.ws_codec.specs.Offers.{is_free, read_next_offer, offer_behind, read_offers}
use Rattle.ws_codec.specs.Reading.{◌>>=◌, keeps, repeated}
use Rattle.ws_codec.specs.SavedText.{name_bytes, offer_bytes, offers_bytes}
use Rattle.ws_codec.specs.Sound.{AreBytes, Follow, IsOffer}
use Rattle.ws_codec.specs.declared.saved.SavedRule.TheVariants.{Limit, Offer}
use Rattle.ws_codec.proofs.FieldParts.{byte_back, name_back, name_there, number_back, number_there}
use Rattle.ws_codec.proofs.NumberParts.{rest_bytes}
use Rattle.ws_codec.proofs.Repeats.{IsBack, IsThere, all_back, all_there}
use Rattle.ws_codec.proofs.Told.{after_keeps, bind_ok, same_behind, same_first, tell}

-- an addressee fits four bytes
addressee_fits : (to : ℕ) → is_addressee to ≡ true → to < 4294967296
addressee_fits to is = grind (arith, nat_tests)

abbrev offer_of : List ℕ → List ℕ → ℕ → Remake
offer_of local surrogate to = record { local = local; surrogate = surrogate; to = to }

regrouped : (offer : Remake) (rest : List ℕ) → offer_bytes offer ++ rest ≡ name_bytes offer.local ++ (name_bytes offer.surrogate ++ (big_bytes 4 offer.to ++ rest))
regrouped offer rest =
    append_assoc (name_bytes offer.local) (name_bytes offer.surrogate ++ big_bytes 4 offer.to) rest ∙ ap (λ (t : List ℕ). name_bytes offer.local ++ t) (append_assoc (name_bytes offer.surrogate) (big_bytes 4 offer.to) rest)

module _ (table : NameTable) where
  one_there : IsThere (offer_behind table) offer_bytes (IsOffer table)
  unfolding offer_behind keeps
  one_there front offer rest h =
      rw (
        regrouped offer rest,
        name_there offer.local (name_bytes offer.surrogate ++ (big_bytes 4 offer.to ++ rest)) h.local,
        h.free,
        name_there offer.surrogate (big_bytes 4 offer.to ++ rest) h.surrogate,
        number_there 4 offer.to rest (addressee_fits offer.to h.to),
        h.to,
      ) refl

  one_back : IsBack (offer_behind table) offer_bytes (IsOffer table)
  unfolding offer_behind
  one_back front bytes offer rest are e =
      let local = bind_ok (read_name bytes) (λ local. keeps (is_free table front local.0) Offer (length bytes) >>= λ free. read_name local.1 >>= λ surrogate. read_number 4 surrogate.1 >>= λ to. keeps (is_addressee to.0) Offer (length surrogate.1) >>= λ addressed. tell (offer_of local.0 surrogate.0 to.0) to.1) (offer, rest) e in
      let free = after_keeps (is_free table front local.0.0) Offer (length bytes) (λ free. read_name local.0.1 >>= λ surrogate. read_number 4 surrogate.1 >>= λ to. keeps (is_addressee to.0) Offer (length surrogate.1) >>= λ addressed. tell (offer_of local.0.0 surrogate.0 to.0) to.1) (offer, rest) local.2 in
      let surrogate = bind_ok (read_name local.0.1) (λ surrogate. read_number 4 surrogate.1 >>= λ to. keeps (is_addressee to.0) Offer (length surrogate.1) >>= λ addressed. tell (offer_of local.0.0 surrogate.0 to.0) to.1) (offer, rest) free.1 in
      let to = bind_ok (read_number 4 surrogate.0.1) (λ to. keeps (is_addressee to.0) Offer (length surrogate.0.1) >>= λ addressed. tell (offer_of local.0.0 surrogate.0.0 to.0) to.1) (offer, rest) surrogate.2 in
      let addressed = after_keeps (is_addressee to.0.0) Offer (length surrogate.0.1) (λ addressed. tell (offer_of local.0.0 surrogate.0.0 to.0.0) to.0.1) (offer, rest) to.2 in
      let first = name_back bytes local.0.0 local.0.1 local.1 in
      let behind_local = rest_bytes (name_bytes local.0.0) local.0.1 (subst AreBytes first.1 are) in
      let second = name_back local.0.1 surrogate.0.0 surrogate.0.1 surrogate.1 in
      let behind_surrogate = rest_bytes (name_bytes surrogate.0.0) surrogate.0.1 (subst AreBytes second.1 behind_local) in
      let third = number_back 4 surrogate.0.1 to.0.0 to.0.1 behind_surrogate to.1 in
      let made : IsOffer table front (offer_of local.0.0 surrogate.0.0 to.0.0) = record { local = first.0; free = free.0; surrogate = second.0; to = addressed.0 } in
      let same = same_first (offer_of local.0.0 surrogate.0.0 to.0.0) to.0.1 offer rest addressed.1 in
      let behind = same_behind (offer_of local.0.0 surrogate.0.0 to.0.0) to.0.1 offer rest addressed.1 in
      let spelled : bytes ≡ offer_bytes (offer_of local.0.0 surrogate.0.0 to.0.0) ++ to.0.1 =
      first.1 ∙ ap (λ (t : List ℕ). name_bytes local.0.0 ++ t) (second.1 ∙ ap (λ (t : List ℕ). name_bytes surrogate.0.0 ++ t) third.1) ∙ sym (regrouped (offer_of local.0.0 surrogate.0.0 to.0.0) to.0.1) in
      (subst (IsOffer table front) same made, spelled ∙ ap (λ (o : Remake). offer_bytes o ++ to.0.1) same ∙ ap (λ (t : List ℕ). offer_bytes offer ++ t) behind)

  pub offers_there : (offers : List Remake) (rest : List ℕ) → nat_le (length offers) 64 ≡ true → Follow (IsOffer table) [] offers → read_offers table (offers_bytes offers ++ rest) ≡ Ok (offers, rest)
  unfolding read_offers read_byte keeps
  offers_there offers rest few follow =
      rw few (all_there (offer_behind table) offer_bytes (IsOffer table) one_there [] offers rest follow)

pub record AreOffersOf (table : NameTable) (bytes : List ℕ) (offers : List Remake) (rest : List ℕ) : Type 0 where
  pub few : nat_le (length offers) 64 ≡ true
  pub follow : Follow (IsOffer table) [] offers
  pub spelled : bytes ≡ offers_bytes offers ++ rest

pub offers_back : (table : NameTable) (bytes : List ℕ) (offers : List Remake) (rest : List ℕ) → AreBytes bytes → read_offers table bytes ≡ Ok (offers, rest) → AreOffersOf table bytes offers rest
unfolding read_offers
offers_back table bytes offers rest are e =
    let first = bind_ok (read_byte bytes) (λ count. keeps (nat_le count.0 64) Limit (length bytes) >>= λ few. repeated (read_next_offer table) count.0 [] count.1) (offers, rest) e in
    let few = after_keeps (nat_le first.0.0 64) Limit (length bytes) (λ few. repeated (read_next_offer table) first.0.0 [] first.0.1) (offers, rest) first.2 in
    let one = byte_back bytes first.0.0 first.0.1 first.1 in
    let read = all_back (offer_behind table) offer_bytes (IsOffer table) (one_back table) first.0.0 [] first.0.1 offers rest ((subst AreBytes one are).1) few.1 in
    let same : read.list ≡ offers = sym read.whole in
    let many : first.0.0 ≡ length offers = sym read.many ∙ ap length same in
    let tail : first.0.1 ≡ flat_map offer_bytes offers ++ rest = read.spelled ∙ ap (λ (t : List Remake). flat_map offer_bytes t ++ rest) same in
    record {
      few = ap (λ (n : ℕ). nat_le n 64) (sym many) ∙ few.0;
      follow = subst (Follow (IsOffer table) []) same read.follow;
      spelled = one ∙ (λ i. many i ∷ tail i);
    }
