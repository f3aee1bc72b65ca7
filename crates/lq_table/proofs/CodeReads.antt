-- What the code reads of a packet's Info, and of the station that a seat carries, is what the plan and the seat say of it.
use Rattle.std.proofs.Common.{◌≡◌, ℕ, ◌<◌, List, length, Option, Some, sym, ap, ◌∙◌, get_or, slice_get, slice_index}
use Rattle.std.specs.Option.{option_map_or, unwrap_or}
use Rattle.std.proofs.lemmas.Option.{get_or_from_slice_get, slice_get-get_or}
use Rattle.lq_device.specs.Station.{StationState}
use Rattle.lq_model.specs.Plan.{owner_in, rank_in}
use Rattle.lq_model.specs.declared.fate.Info.{Info}
use Rattle.lq_table.specs.Views.{no_station}

-- what is read past the end
abbrev pub no_info : Info
no_info = record { rank = 0; owner = 0; station = 0; band = 0; queue = 0 }

pub owner_read : (infos : List Info) (n : ℕ) (d : Info) → n < length infos → (get_or infos n d).owner ≡ owner_in infos n
owner_read infos n d inside = sym (ap (λ (o : Option Info). option_map_or (λ (i : Info). i.owner) o 0) (slice_get-get_or infos n d inside))

pub rank_read : (infos : List Info) (n : ℕ) (d : Info) → n < length infos → (get_or infos n d).rank ≡ rank_in infos n
rank_read infos n d inside = sym (ap (λ (o : Option Info). option_map_or (λ (i : Info). i.rank) o 0) (slice_get-get_or infos n d inside))

pub head_read : (o : Option StationState) (st : StationState) (band head known : ℕ) → o ≡ Some st → slice_get st.heads band ≡ Some head → slice_index (unwrap_or o no_station).heads band ≡ known → head ≡ known
head_read o st band head known is read knows =
    sym (get_or_from_slice_get st.heads band head 0 read) ∙ (sym (ap (λ (x : Option StationState). slice_index (unwrap_or x no_station).heads band) is) ∙ knows)
