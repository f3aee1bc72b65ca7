-- The rule's plain setup, from the key.
use Rattle.lq_tap.specs.Views.{Setup}
use Rattle.lq_tap.specs.declared.view.About.{About}

abbrev pub keyed_setup : About → Setup
keyed_setup k = record { packets = k.packets; len = k.len; senders = k.senders }
