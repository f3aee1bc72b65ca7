-- What the plan's events make of a station as code has it.
use Rattle.std.proofs.Common.{◌≡◌, ℕ, ◌++◌, Bool, true, false, Option, Some, None, refl, sym, ap, ◌∙◌}
use Rattle.std.specs.Prelude.{is_some}
use Rattle.lq_model.specs.Account.{Account, Purge, Resize, after, dropped_in, emptied, held, with_fates}
use Rattle.lq_model.specs.Alone.{RunningStation}
use Rattle.lq_model.specs.Band.{Band, resized}
use Rattle.lq_model.specs.declared.fate.Cause.{Cause}
use Rattle.lq_model.specs.declared.fate.Fate.TheVariants as fate
use Rattle.lq_lone.specs.Lone.{IsLone, Rest, LoneState, station_with}

module _ (s : RunningStation) (m : LoneState) (lone : IsLone m s) where
  abbrev x : Rest
  x = lone.rest

  abbrev a : Account
  a = (station_with x m.len m.slot m.stopped m.clean).account

  pub purged : (cause : Cause) (low mid high : Band) → low ≡ emptied m.low → mid ≡ emptied m.mid → high ≡ emptied m.high
      → IsLone (record m { low = low; mid = mid; high = high; slot = None; clean = true }) (record s { account = after (Purge cause) s.account; clean = true })
  purged cause low mid high l k h = record {
    rest = record x { bands = λ (band : ℕ). emptied (x.bands band); fates = with_fates (held a) (fate.Purged cause) x.fates };
    is = ap (λ (t : RunningStation). record t { account = after (Purge cause) t.account; clean = true }) lone.is;
    low = ap emptied lone.low ∙ sym l;
    mid = ap emptied lone.mid ∙ sym k;
    high = ap emptied lone.high ∙ sym h;
    down = lone.down;
  }

  pub lengthened : (len event : ℕ) (low mid high : Band) → low ≡ resized m.low len → mid ≡ resized m.mid len → high ≡ resized m.high len
      → IsLone (record m { len = len; low = low; mid = mid; high = high }) (record s { account = after (Resize len event) s.account })
  lengthened len event low mid high l k h = record {
    rest = record x {
      bands = λ (band : ℕ). resized (x.bands band) len;
      fates = with_fates (dropped_in len a 0 ++ (dropped_in len a 1 ++ dropped_in len a 2)) (fate.Shrunk event) x.fates;
    };
    is = ap (λ (t : RunningStation). record t { account = after (Resize len event) t.account }) lone.is;
    low = ap (λ (b : Band). resized b len) lone.low ∙ sym l;
    mid = ap (λ (b : Band). resized b len) lone.mid ∙ sym k;
    high = ap (λ (b : Band). resized b len) lone.high ∙ sym h;
    down = lone.down;
  }

  -- deactivated by an event, or active
  pub turned : (o : Option ℕ) → IsLone (record m { down = is_some o }) (record s { account = record s.account { down = o } })
  turned o = record {
    rest = record x { down = o };
    is = ap (λ (t : RunningStation). record t { account = record t.account { down = o } }) lone.is;
    low = lone.low;
    mid = lone.mid;
    high = lone.high;
    down = refl;
  }
