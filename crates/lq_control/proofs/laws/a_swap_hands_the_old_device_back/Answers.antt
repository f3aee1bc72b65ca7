use Rattle.lq_control.proofs.CallLaws.{swaps_devices}
use Rattle.lq_control.proofs.laws.a_swap_hands_the_old_device_back.Goals as goal

pub returns : goal.returns
returns c k event unit came went old new bare first d = swaps_devices k event unit came went old new bare first d
