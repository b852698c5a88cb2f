-- Why a home was refused, by whether its site refused or its store.

use Rattle.bw_terms.specs.declared.fault.StoreFault.{StoreFault}
use Rattle.bw_terms.specs.declared.fault.StoreFault.TheVariants as store
use Rattle.bw_site.specs.declared.fault.HomeFault.{HomeFault}
use Rattle.bw_site.specs.declared.fault.HomeFault.TheVariants.{NoMemory, Folder, Made, Lease, Recovery, Store}

-- why the store was refused, as a home says it
abbrev pub fault_of_store : StoreFault → HomeFault
fault_of_store store.NoMemory = NoMemory
fault_of_store store.BadConfig = Store store.BadConfig
fault_of_store store.NoSegment = Store store.NoSegment
fault_of_store (store.Device lease) = Store (store.Device lease)
fault_of_store store.Failed = Store store.Failed
fault_of_store store.Spent = Store store.Spent
fault_of_store store.NoPage = Store store.NoPage
fault_of_store store.NothingOld = Store store.NothingOld

-- a file was not emptied, or a segment not made in its place
abbrev pub IsOfSite : HomeFault → Type 0
IsOfSite NoMemory = Unit {0}
IsOfSite (Folder fault) = Unit {0}
IsOfSite (Made fault) = Unit {0}
IsOfSite (Lease fault) = Unit {0}
IsOfSite (Recovery cause) = ⊥
IsOfSite (Store fault) = ⊥
