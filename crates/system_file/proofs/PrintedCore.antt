-- A printed core is written by the rules, and spells the core.
use Rattle.std.proofs.Common.{◌≡◌, ℕ, true, Option, Some, None, codes, refl}
use Rattle.slot_model.specs.Name.{is_name}
use Rattle.toml.specs.Data.{Data, Members, no_members, string, table, get}
use Rattle.tree_model.specs.declared.pinned_core.Core.{Core as CoreView}
use Rattle.system_file.specs.Document.{spelled_core}
use Rattle.system_file.specs.Written.{IsWrittenCore}
use Rattle.system_file.specs.Printed.{printed_core}
use Rattle.system_file.proofs.PrintedKeys.{sched_written, sched_back}

-- a core with another supply
abbrev supplied : CoreView → Option (ℕ × ℕ) → CoreView
supplied core supply = record core { supply = supply }

abbrev inside : Data → Members
inside (table ms) = ms
inside _ = no_members

pub core_name : (core : CoreView) → get (codes "name") (printed_core core) ≡ Some (string core.name)
core_name core = by core.supply
  where
    by : (supply : Option (ℕ × ℕ)) → get (codes "name") (printed_core (supplied core supply)) ≡ Some (string core.name)
    by None = refl
    by (Some supply) = refl

pub core_spelled : (core : CoreView) → spelled_core (printed_core core) ≡ core
core_spelled core = by core.supply
  where
    by : (supply : Option (ℕ × ℕ)) → spelled_core (printed_core (supplied core supply)) ≡ supplied core supply
    by None = rw (sched_back core.sched)
    by (Some supply) = rw (sched_back core.sched)

pub core_written : (core : CoreView) → is_name core.name ≡ true → IsWrittenCore (printed_core core)
core_written core named = by core.supply
  where
    by : (supply : Option (ℕ × ℕ)) → IsWrittenCore (printed_core (supplied core supply))
    by None = record {
      keys = record { members = inside (printed_core (supplied core None)); is = refl; only = refl };
      name = record { name = core.name; is = refl; valid = named };
      sched = sched_written _ core.sched refl;
      supply = tt;
    }
    by (Some supply) = record {
      keys = record { members = inside (printed_core (supplied core (Some supply))); is = refl; only = refl };
      name = record { name = core.name; is = refl; valid = named };
      sched = sched_written _ core.sched refl;
      supply = ((supply.0, refl), (supply.1, refl));
    }
