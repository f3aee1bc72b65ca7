-- What `load_xoff` makes of what a seat knows that has the table alone.
use Rattle.std.proofs.Common.{◌≡◌, ℕ, Bool, true, false, refl, ap, Option, Some, None}
use Rattle.std.specs.Prelude.{if◌then◌else◌, ◌&&◌, ◌==◌}
use Rattle.std.specs.Option.{option_map}
use Rattle.lq_model.specs.Account.{Pick}
use Rattle.lq_table.specs.Views.{View, machine_packet}
use Rattle.lq_table.specs.Stops.{load_xoff_view, picking, load_xoff_leads, is_dequeue, picks, load_xoff_alone}
use Rattle.lq_table.specs.Sees.{solo, heard}

module _ (v : View) where
  pub loads_stop_solo : (x : ℕ) → solo (load_xoff_view x v) ≡ load_xoff_alone x v (solo v)
  loads_stop_solo x = by (is_dequeue v.place.position && (x == 0)) v.holder.slot (record v { place = record v.place { position = load_xoff_leads (option_map (machine_packet v.share.about.infos) v.holder.slot) x v.place.position } }) refl
    where
      by : (b : Bool) (slot : Option ℕ) (w : View) → solo w ≡ solo v → solo (if b then picking slot w else w) ≡ (if b then picks slot (solo v) else solo v)
      by true None w e = e
      by true (Some n) w e = ap (heard Pick) e
      by false slot w e = e
