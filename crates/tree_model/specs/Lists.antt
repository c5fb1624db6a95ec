-- The first of a list, and lists of faults.
use Rattle.std.specs.Prelude.{Bool, true, false, List, [], ◌∷◌, Option, Some, None, Result, Ok, Err}

-- the first of a list, if it has one
abbrev pub first_of : {A : Type 0} → List A → Option A
first_of [] = None
first_of (x ∷ later) = Some x

-- a fault, where something is wrong
abbrev pub fault_if : {Fault : Type 0} → Bool → Fault → List Fault
fault_if true fault = fault ∷ []
fault_if false fault = []

-- the first fault decides, and without one the value
abbrev pub first_fault_or : {Value Fault : Type 0} → Value → List Fault → Result Value Fault
first_fault_or value [] = Ok value
first_fault_or value (fault ∷ later) = Err fault
