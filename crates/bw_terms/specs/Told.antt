-- The faults of a log, of a page and of a cleaning, as a store says them.

use Rattle.bw_page.specs.declared.fault.ApplyError.{ApplyError}
use Rattle.bw_page.specs.declared.fault.ApplyError.TheVariants as apply
use Rattle.bw_log.specs.declared.fault.LogFault.{LogFault}
use Rattle.bw_log.specs.declared.fault.LogFault.TheVariants as log
use Rattle.bw_care.specs.declared.fault.CleanFault.{CleanFault}
use Rattle.bw_care.specs.declared.fault.CleanFault.TheVariants as clean
use Rattle.bw_terms.specs.declared.fault.StoreFault.{StoreFault}
use Rattle.bw_terms.specs.declared.fault.StoreFault.TheVariants.{NoMemory, BadConfig, NoSegment, Device, Failed, Spent, NoPage, NothingOld}

abbrev pub fault_of : LogFault → StoreFault
fault_of log.NoMemory = NoMemory
fault_of log.BadConfig = BadConfig
fault_of log.NoSegment = NoSegment
fault_of (log.Device lease) = Device lease
fault_of log.Failed = Failed
fault_of log.Spent = Spent
fault_of log.NoPage = NoPage

abbrev pub fault_of_apply : ApplyError → StoreFault
fault_of_apply apply.NoMemory = NoMemory
fault_of_apply apply.Spent = Spent

abbrev pub fault_of_clean : CleanFault → StoreFault
fault_of_clean clean.NothingOld = NothingOld
fault_of_clean (clean.Log fault) = fault_of fault
