use Rattle.system_file.proofs.cores.read_core.Goals as goal

pub returns-clause-ok : goal.returns-clause-ok
returns-clause-ok c = rw c.in_ok-table.ensures.ok c.core_of.ensures.ok

pub returns-clause-fault : goal.returns-clause-fault
returns-clause-fault c = rw c.in_ok-table.ensures.ok c.core_of.ensures.fault
