-- The faults that are seen before a leaf is.
use Rattle.std.specs.Prelude.{List, [], ◌∷◌}
use Rattle.admission_session.specs.declared.fault.EditFault.{EditFault}
use Rattle.admission_session.specs.declared.fault.EditFault.TheVariants.{NameTaken, NoSuchParent, Mixed}

-- those of an addition that are seen before its leaf is
abbrev pub parent_faults : List EditFault
parent_faults = NameTaken ∷ NoSuchParent ∷ Mixed ∷ []
