-- What a refusal leaves of a store of real files.
use Rattle.std.specs.Prelude.{false, None}
use Rattle.outside.specs.declared.store.StoreFault.{StoreFault}
use Rattle.outside.specs.declared.store.StoreFault.TheVariants.{Failed, Missing, NoMemory}
use Rattle.outside.specs.Counts.{raised}
use Rattle.outside.specs.Real.{DiskCounts}

-- a store of which no file is current
abbrev pub closed_store : DiskCounts → DiskCounts
closed_store store = record store { is_open = false; rest = None }

-- a store after a refusal: no file is current, and the one count of that refusal rose by one
abbrev pub after_refusal : DiskCounts → StoreFault → DiskCounts
after_refusal store Failed = record (closed_store store) { faults = raised store.faults 1 }
after_refusal store Missing = record (closed_store store) { absences = raised store.absences 1 }
after_refusal store NoMemory = closed_store store
