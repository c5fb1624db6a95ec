-- What is answered of all VCPUs of a system.
use Rattle.std.specs.Prelude.{◌≡◌, ℕ, Bool, true, false, List, length, map, All}
use Rattle.std.specs.List.{list_all}
use Rattle.slot_model.specs.Slots.{places_where}
use Rattle.tree_model.specs.View.{SystemView}
use Rattle.tree_model.specs.System.{part_at}
use Rattle.trace_file.specs.Rules.{is_vcpu}
use Rattle.rtds_trace.specs.Printed.{core_of}
use Rattle.isolation.specs.declared.isolation.Isolation.{Isolation}
use Rattle.isolation.specs.declared.isolation.Isolation.TheVariants.{Isolated}
use Rattle.isolation.specs.declared.vcpus.PartIsolation.{PartIsolation}
use Rattle.isolation.specs.Answer.{IsIsolation}

-- the places of the parts that stand on a core, in file order
abbrev pub vcpus_of : SystemView → List ℕ
vcpus_of sys = places_where (is_vcpu sys) (length sys.parts)

-- the core on which a part stands
abbrev pub own_core : SystemView → ℕ → ℕ
own_core sys v = core_of (part_at sys v).parent

-- it is answered so of a part on its core
abbrev pub IsIsolationOf : SystemView → List ℕ → PartIsolation → Type 0
IsIsolationOf sys budgets row =
    IsIsolation sys budgets (own_core sys row.part) row.part row.isolation

-- a row of each of these places, in this order
pub record OneEach {Row : Type 0} (place : Row → ℕ) (Is : Row → Type 0) (places : List ℕ)
    (rows : List Row) : Type 0 where
  pub places_are : map place rows ≡ places
  pub each : All Is rows

-- an answer of each of these parts
abbrev pub AreIsolations : SystemView → List ℕ → List PartIsolation → Type 0
AreIsolations sys budgets =
    OneEach (λ (row : PartIsolation). row.part) (IsIsolationOf sys budgets) (vcpus_of sys)

-- isolated however ties are broken, and each part is so
abbrev pub is_isolated : Isolation → Bool
is_isolated (Isolated last) = true
is_isolated _ = false

abbrev pub are_isolated : List PartIsolation → Bool
are_isolated rows = list_all (λ (row : PartIsolation). is_isolated row.isolation) rows
