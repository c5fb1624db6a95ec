use Rattle.system_file.proofs.parts.read_part.Goals as goal

pub returns-clause-ok : goal.returns-clause-ok
returns-clause-ok c = rw c.in_ok-table.ensures.ok c.part_of.ensures.ok

pub returns-clause-fault : goal.returns-clause-fault
returns-clause-fault c = rw c.in_ok-table.ensures.ok c.part_of.ensures.fault
