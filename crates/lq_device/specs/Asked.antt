-- The calls that a log of a device tells, the first one first.
use Rattle.std.specs.Prelude.{List, [], ◌∷◌, ◌++◌}
use Rattle.lq_model.specs.Device.{DeviceCall, device_call}
use Rattle.lq_device.specs.declared.asked.Asked.{Asked}
use Rattle.lq_device.specs.declared.asked.Log.{Log, Empty, Call'}

abbrev pub calls_in : Log → List DeviceCall
calls_in Empty = []
calls_in (Call' marker before queue packet) = calls_in before ++ device_call queue packet ∷ []

abbrev pub asked_list : Asked → List DeviceCall
asked_list asked = calls_in asked.log.value
