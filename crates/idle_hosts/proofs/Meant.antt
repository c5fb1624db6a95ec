-- What the rows that were built say of each VCPU.
use Rattle.std.proofs.Common.{◌≡◌, ℕ, suc, ◌<◌, Bool, true, false, cond, List, Some, None, refl, ◌∙◌, ap, lt-ltb}
use Rattle.std.specs.Prelude.{is_some}
use Rattle.std.proofs.lemmas.Bool.{and_from}
use Rattle.tree_model.specs.View.{SystemView}
use Rattle.trace_file.specs.Rules.{is_vcpu}
use Rattle.release_file.specs.declared.workload.Wake.{Wake}
use Rattle.release_file.specs.declared.workload.WakeKind.TheVariants.{Start}
use Rattle.release_file.specs.Workload.{blocks, slot_of, start_of, is_started_at, is_blocked_at}
use Rattle.idle_hosts.specs.Hosts.{StartsAt}
use Rattle.idle_hosts.proofs.Changes.{row_of, is_blocked, has_begun, last_stood}
use Rattle.idle_hosts.proofs.Built.{Built, start_told}

some_where : (b : Bool) (row : Wake) → is_some (cond b (Some row) None) ≡ b
some_where true row = refl
some_where false row = refl

module _ (sys : SystemView) (start : ℕ → ℕ) (wants : ℕ → ℕ → Bool) (t : ℕ) (rows : List Wake)
    (h : Built sys start wants (λ v. t) rows) where
  pub blocked_says : (v y : ℕ) → y < t → is_blocked_at rows v y ≡ is_blocked v (is_vcpu sys v) (start v) (wants v) y
  blocked_says v y l =
      ap blocks ((h.lasts v).each y l) ∙ (last_stood v (is_vcpu sys v) (start v) (wants v) (suc y)).blocked

  pub started_says : (v y : ℕ) → y < t
      → is_started_at rows v y ≡ has_begun v (is_vcpu sys v) (start v) (wants v) (suc y)
  started_says v y l = ap is_some ((h.firsts v).each y l) ∙ some_where _ _

  pub start_says : (v : ℕ) → start_of rows v ≡ slot_of (start_told sys start wants v t)
  start_says v = ap slot_of (h.firsts v).last

  pub starts_says : (v : ℕ) → is_vcpu sys v ≡ true → start v < t → StartsAt rows v (start v)
  starts_says v on l =
      let begun : has_begun v (is_vcpu sys v) (start v) (wants v) t ≡ true
      = and_from (is_vcpu sys v) _ on (lt-ltb (start v) t l) in
      record {
        started = ap is_some (h.firsts v).last ∙ (some_where _ _ ∙ begun);
        at_slot = start_says v ∙ ap (λ (b : Bool). slot_of (cond b (Some (row_of v (start v) Start)) None)) begun;
      }
