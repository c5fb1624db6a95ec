-- What a refusal of the store means to one who reads a whole file.
use Rattle.outside.specs.declared.store.StoreFault.{StoreFault}
use Rattle.outside.specs.declared.store.StoreFault.TheVariants.{Failed as StoreFailed, Missing, NoMemory as StoreNoMemory}
use Rattle.outside.specs.declared.read.ReadFault.{ReadFault}
use Rattle.outside.specs.declared.read.ReadFault.TheVariants.{Absent, Failed, NoMemory}

abbrev pub read_fault : StoreFault → ReadFault
read_fault StoreFailed = Failed
read_fault Missing = Absent
read_fault StoreNoMemory = NoMemory
