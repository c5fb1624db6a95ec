-- What the steps of a placement promise each other.
use Rattle.std.specs.Prelude.{◌≡◌, ℕ}
use Rattle.tree_model.specs.View.{PartView, SystemView}
use Rattle.admission_session.specs.Answers.{IsRefusedOnAll}
use Rattle.placement.specs.declared.fault.PlaceFault.{PlaceFault}
use Rattle.placement.specs.declared.fault.PlaceFault.TheVariants.{Refused, BadGuest, Unplaced, NoMemory}
use Rattle.placement.specs.Answers.{IsBadGuest, IsUnplaced}

-- why guest i is not placed
abbrev pub GuestFails : SystemView → ℕ → PartView → PlaceFault → Type 0
GuestFails sys i guest (Refused refusal) = ⊥
GuestFails sys i guest (BadGuest j) = (j ≡ i) × IsBadGuest sys guest
GuestFails sys i guest (Unplaced j) =
    (j ≡ i) × IsUnplaced sys guest × IsRefusedOnAll sys guest
GuestFails sys i guest NoMemory = Unit {0}
