use Rattle.lq_run_laws.proofs.SecondScan.{second-scan}
use Rattle.lq_run_laws.proofs.DeviceOpen.{device-open}
use Rattle.lq_run_core.proofs.laws.draining.service_is_kept.Goals as goal

pub returns : goal.returns
returns c = record { second_scan = second-scan; device = device-open }
