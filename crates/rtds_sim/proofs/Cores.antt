-- The cores of a host, of which one is set.
use Rattle.std.proofs.Common.{◌≡◌, ◌≢◌, ℕ, ◌<◌, List, [], length, set, get_or, None, sym, ◌∙◌, subst, inl, inr}
use Rattle.std.proofs.lemmas.Bool.{cases_eq}
use Rattle.std.proofs.lemmas.List.{get_or-set_same, get_or-set_other, get_or_default}
use Rattle.rtds_queues.specs.declared.account.Account.{Account}
use Rattle.rtds_sim.specs.declared.host_core.HostCore.{HostCore}
use Rattle.rtds_sim.specs.inner.Accounts.{core_at}

abbrev no_core : HostCore
no_core = record { vcpus = []; holder = None }

-- a core that none has
abbrev pub idle_core : List Account → HostCore
idle_core accounts = record { vcpus = accounts; holder = None }

-- a core as it was read
pub core_read : (cores : List HostCore) (i : ℕ) (own : HostCore) → i < length cores → own ≡ get_or cores i own
    → own ≡ core_at cores i
core_read cores i own l is = is ∙ get_or_default cores i own no_core l

pub core_here : (cores : List HostCore) (i : ℕ) (new : HostCore) → i < length cores → core_at (set cores i new) i ≡ new
core_here cores i new l = get_or-set_same cores i new no_core l

pub core_there : (cores : List HostCore) (i d : ℕ) (new : HostCore) → d ≢ i
    → core_at (set cores i new) d ≡ core_at cores d
core_there cores i d new ne = get_or-set_other cores i d new no_core ne

-- what holds of the core that is set and of the others holds of all
pub each_core : (P : ℕ → HostCore → Type 0) (cores : List HostCore) (i : ℕ) (new : HostCore) → i < length cores
    → P i new → (d : ℕ) → (d ≢ i → P d (core_at cores d)) → P d (core_at (set cores i new) d)
each_core P cores i new l here d there = elim (cases_eq d i) [
  | inl e ↦
      subst (λ (z : ℕ). P z (core_at (set cores i new) z)) (sym e) (subst (P i) (sym (core_here cores i new l)) here)
  | inr ne ↦ subst (P d) (sym (core_there cores i d new ne)) (there ne)
]
