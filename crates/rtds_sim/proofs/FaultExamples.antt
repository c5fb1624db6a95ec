-- When a workload is not run. A definition that says less breaks one of these.
use Rattle.std.proofs.Common.{◌≡◌, ℕ, zero, suc, ◌<◌, true, false, Option, Some, None, [], ◌∷◌, length, refl, arith, lit<}
use Rattle.slot_model.specs.declared.sched.Sched.{Sched}
use Rattle.slot_model.specs.declared.sched.Sched.TheVariants.{Edf, Rm, Dm}
use Rattle.tree_model.specs.View.{SystemView}
use Rattle.rtds_sim.specs.declared.fault.RtdsFault.TheVariants.{NotRtds, NoMemory}
use Rattle.rtds_model.specs.Rtds.{is_rtds}
use Rattle.rtds_sim.specs.Fault.{AllRtds, IsFirstOther, IsRtdsFault}

-- a core without a supply and under earliest deadline first is one of RTDS; with a supply, or under
-- a fixed priority, it is none
abbrev one_core : Sched → Option (ℕ × ℕ) → SystemView
one_core sched supply = record { cores = record { name = 99 ∷ []; sched = sched; supply = supply } ∷ []; parts = [] }

cores_of_rtds : (is_rtds (one_core Edf None) 0 ≡ true)
    × (is_rtds (one_core Edf (Some (10, 5))) 0 ≡ false) × (is_rtds (one_core Edf (Some (10, 10))) 0 ≡ false)
    × (is_rtds (one_core Rm None) 0 ≡ false) × (is_rtds (one_core Dm None) 0 ≡ false)
    × (is_rtds (one_core Rm (Some (10, 5))) 0 ≡ false)
cores_of_rtds = (refl, refl, refl, refl, refl, refl)

-- each core by itself: the second is under a fixed priority
abbrev edf_and_rm : SystemView
edf_and_rm =
    record {
      cores =
          record { name = 99 ∷ []; sched = Edf; supply = None }
          ∷ record { name = 100 ∷ []; sched = Rm; supply = None } ∷ [];
      parts = [];
    }

second_core_is_none : (is_rtds edf_and_rm 0 ≡ true) × (is_rtds edf_and_rm 1 ≡ false)
second_core_is_none = (refl, refl)

the_second_is_the_first_other : IsFirstOther edf_and_rm 1
the_second_is_the_first_other = record {
  is_core = lit< tt;
  other = refl;
  before = one;
}
  where
    one : (c : ℕ) → c < 1 → is_rtds edf_and_rm c ≡ true
    one zero h = refl
    one (suc c) h = absurd (omega arith)

-- the first core that is not full or not under earliest deadline first is told, and memory runs out
-- only where there is none
the_faults_of_a_run : (sys : SystemView) (c : ℕ)
    → (IsRtdsFault sys (NotRtds c) → IsFirstOther sys c) × (IsRtdsFault sys NoMemory → AllRtds sys (length sys.cores))
the_faults_of_a_run sys c = (λ h. h, λ h. h)

before_the_first_other_core_there_is_none : (sys : SystemView) (c b : ℕ) → IsFirstOther sys c → b < c
    → is_rtds sys b ≡ true
before_the_first_other_core_there_is_none sys c b other before = other.before b before
