-- Saved offers, in their order.
use Rattle.std.specs.Prelude.{◌&&◌, [], ℕ, Bool, not, List, Ok, length, nat_le, unwrap_or}
use Rattle.std.specs.List.{list_any}
use Rattle.apl_arrays.specs.Limits.{most_offers}
use Rattle.apl_arrays.specs.Name.{same_name}
use Rattle.apl_workspace.specs.Meaning.{NameTable, is_function_meaning, meaning_in}
use Rattle.apl_workspace.specs.Workspace.{is_addressee}
use Rattle.apl_workspace.specs.declared.meaning.Meaning.TheVariants.{Nothing}
use Rattle.apl_workspace.specs.declared.remake.Remake.{Remake}
use Rattle.ws_codec.specs.Fields.{read_byte, read_name, read_number}
use Rattle.ws_codec.specs.Reading.{Reader, ◌>>=◌, read_more, keeps, repeated}
use Rattle.ws_codec.specs.declared.saved.SavedRule.TheVariants.{Limit, Offer}

-- one of the offers is of this name
abbrev pub is_offered : List Remake → List ℕ → Bool
is_offered offers name = list_any (λ offer. same_name offer.local name) offers

-- the name is a function of the table
abbrev pub is_function_in : NameTable → List ℕ → Bool
is_function_in table name = is_function_meaning (unwrap_or (meaning_in table name) Nothing)

-- an offer of the name may come behind others
abbrev pub is_free : NameTable → List Remake → List ℕ → Bool
is_free table offers name = not (is_offered offers name) && not (is_function_in table name)

-- an offer behind others: its name here, its name for others, and for whom it is
unfoldable pub offer_behind : NameTable → List Remake → Reader Remake
offer_behind table offers rest = do
  local ← read_name rest
  free ← keeps (is_free table offers local.0) Offer (length rest)
  surrogate ← read_name local.1
  to ← read_number 4 surrogate.1
  addressed ← keeps (is_addressee to.0) Offer (length surrogate.1)
  Ok (record { local = local.0; surrogate = surrogate.0; to = to.0 }, to.1)

-- the offers with one more
abbrev pub read_next_offer : NameTable → List Remake → Reader (List Remake)
read_next_offer table offers rest = read_more offers (offer_behind table offers rest)

-- how many offers, and the offers
unfoldable pub read_offers : NameTable → Reader (List Remake)
read_offers table rest = do
  count ← read_byte rest
  few ← keeps (nat_le count.0 most_offers) Limit (length rest)
  repeated (read_next_offer table) count.0 [] count.1
