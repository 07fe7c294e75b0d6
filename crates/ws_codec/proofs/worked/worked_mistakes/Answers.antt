use Rattle.std.proofs.Common.{refl}
use Rattle.ws_codec.specs.Fields.{read_byte, read_bytes, read_glyphs, read_integer, read_name, read_number, read_same}
use Rattle.ws_codec.specs.Objects.{read_kind, read_meaning, object_behind, read_objects}
use Rattle.ws_codec.specs.Offers.{offer_behind, read_offers}
use Rattle.ws_codec.specs.Reading.{keeps, required, repeated}
use Rattle.ws_codec.specs.Saved.{offers_of_version, read_saved, read_version}
use Rattle.ws_codec.specs.Values.{read_axis, read_char_array, read_number_array, read_numbers, read_shape}
use Rattle.ws_codec.proofs.worked.worked_mistakes.Goals as goal

pub returns : goal.returns
unfolding read_byte read_bytes read_same read_number read_integer read_glyphs read_name keeps required repeated read_axis read_shape read_numbers read_number_array read_char_array read_kind read_meaning object_behind read_objects offer_behind read_offers read_version offers_of_version read_saved
returns c = record { magic = refl; version = refl; kind = refl; name = refl; size = refl; cut = refl; rest = refl; offers = refl; party = refl; order = refl; glyph = refl; axis = refl; product = refl; no_mistake = refl; no_offers = refl }
