-- Guests that are put on cores, and why they are not, taken apart. A definition that says less
-- breaks one of these.
use Rattle.std.proofs.Common.{◌≡◌, ℕ, ◌<◌, true, Some, None, List, [], ◌∷◌, length, take, refl}
use Rattle.slot_model.specs.Task.{plain_task}
use Rattle.slot_model.specs.declared.sched.Sched.TheVariants.{Edf, Rm}
use Rattle.tree_model.specs.declared.place.Parent.{Parent}
use Rattle.tree_model.specs.declared.place.Parent.TheVariants.{Core, Part}
use Rattle.tree_model.specs.declared.plan.Refusal.{Refusal}
use Rattle.tree_model.specs.View.{PartView, SystemView}
use Rattle.tree_model.specs.System.{IsSystem}
use Rattle.tree_model.specs.Admission.{FirstRefusal}
use Rattle.admission_session.specs.Leaves.{with_guest}
use Rattle.admission_session.specs.Answers.{IsAdmitted}
use Rattle.admission_session.specs.Edits.{IsNewLeaf}
use Rattle.placement.specs.declared.fault.PlaceFault.TheVariants.{Refused, BadGuest, Unplaced}
use Rattle.placement.specs.Placement.{IsFirstFit, IsPlaced}
use Rattle.placement.specs.Answers.{AreRefused, IsNoLeaf, PlaceFails, guest_at}

-- a guest as it is spelled stands on the first core; it is put on another, behind all parts, and
-- nothing else of it is changed
abbrev guest : ℕ → Parent → PartView
guest letter parent =
    record {
      name = letter ∷ [];
      parent = parent;
      sched = Rm;
      period = 10;
      budget = Some 3;
      extra = true;
      tasks = record { name = 116 ∷ []; task = plain_task 10 10 2 } ∷ [];
    }

abbrev host : List PartView → SystemView
host parts = record {
  cores =
      record { name = 99 ∷ []; sched = Edf; supply = None }
      ∷ record { name = 100 ∷ []; sched = Rm; supply = None } ∷ [];
  parts = parts;
}

a_guest_on_the_second_core : with_guest (host (guest 97 (Core 0) ∷ [])) (guest 98 (Part 0)) 1
    ≡ host (guest 97 (Core 0) ∷ guest 98 (Core 1) ∷ [])
a_guest_on_the_second_core = refl

-- no guests leave the system as it is, and a second one is placed in the system that the first
-- makes
no_guests : (sys : SystemView) → IsPlaced sys [] sys
no_guests sys = refl

two_guests : (sys : SystemView) (first second : PartView) (placed : SystemView)
    → IsPlaced sys (first ∷ second ∷ []) placed
    → (c : ℕ) × (d : ℕ) × IsFirstFit sys first c × IsFirstFit (with_guest sys first c) second d
    × (placed ≡ with_guest (with_guest sys first c) second d)
two_guests sys first second placed h = (h.0, h.2.0, h.1, h.2.1, h.2.2)

what_a_first_fit_says : (sys : SystemView) (guest : PartView) (c : ℕ) → IsFirstFit sys guest c
    → IsNewLeaf sys guest × (c < length sys.cores) × IsAdmitted (with_guest sys guest c)
    × ((d : ℕ) → d < c → IsAdmitted (with_guest sys guest d) → ⊥)
what_a_first_fit_says sys guest c fit = (fit.new, fit.is_core, fit.admitted, fit.before)

-- a refused system has its first refusal
a_refused_system : (sys : SystemView) (guests : List PartView) (refusal : Refusal)
    → PlaceFails sys guests (Refused refusal) → FirstRefusal sys refusal
a_refused_system sys guests refusal fails = fails

-- a guest that can be no leaf, and one that fits nowhere: the system is admitted, and those before
-- it are placed
what_a_bad_guest_says : (sys : SystemView) (guests : List PartView) (i : ℕ) → PlaceFails sys guests (BadGuest i)
    → (now : SystemView) × IsAdmitted sys × (i < length guests) × IsPlaced sys (take i guests) now
    × (IsNewLeaf now (guest_at guests i) → ⊥)
what_a_bad_guest_says sys guests i stops =
    (stops.now, stops.admitted, stops.is_guest, stops.placed, stops.fault)

-- and the system with it is none, whatever core it is put on
what_no_leaf_says : (sys : SystemView) (guests : List PartView) (i : ℕ) → IsNoLeaf sys guests (BadGuest i)
    → (now : SystemView) × IsPlaced sys (take i guests) now
    × ((c : ℕ) → IsSystem (with_guest now (guest_at guests i) c) → ⊥)
what_no_leaf_says sys guests i stops = (stops.now, stops.placed, stops.fault)

what_an_unplaced_guest_says : (sys : SystemView) (guests : List PartView) (i : ℕ)
    → PlaceFails sys guests (Unplaced i)
    → (now : SystemView) × IsAdmitted sys × (i < length guests) × IsPlaced sys (take i guests) now
    × IsNewLeaf now (guest_at guests i)
    × ((c : ℕ) → c < length now.cores → IsAdmitted (with_guest now (guest_at guests i) c) → ⊥)
what_an_unplaced_guest_says sys guests i stops =
    (stops.now, stops.admitted, stops.is_guest, stops.placed, stops.fault.0, stops.fault.1)

-- and on each core the system with it has a first refusal
what_each_core_says : (sys : SystemView) (guests : List PartView) (i : ℕ) → AreRefused sys guests (Unplaced i)
    → (now : SystemView) × IsPlaced sys (take i guests) now
    × ((c : ℕ) → c < length now.cores
    → (refusal : Refusal) × FirstRefusal (with_guest now (guest_at guests i) c) refusal)
what_each_core_says sys guests i stops = (stops.now, stops.placed, stops.fault.1)
