-- What is told where a core may go from one VCPU to another.
use Rattle.std.proofs.Common.{◌≡◌, ℕ, ◌<◌, Bool, true, false, cond, List, [], ◌∷◌, ◌++◌, length, Option, Some, None, refl, sym, ◌∙◌, ap}
use Rattle.slot_model.specs.Run.{holds}
use Rattle.trace_file.specs.declared.event.Event.{Event}
use Rattle.trace_file.specs.declared.event.What.TheVariants.{Run}
use Rattle.rtds_queues.specs.declared.account.Account.{Account}
use Rattle.rtds_queues.specs.Accounts.{account_at}
use Rattle.rtds_trace.specs.Printed.{push_some, on_at, on_core_at, stays, going_to, switch_to}
use Rattle.rtds_sim.specs.inner.Accounts.{part_of, InTurn}
use Rattle.rtds_sim.proofs.Members.{holds_part}

-- a core tells where it goes unless it stays, by the parts of its VCPUs
pub told_switch : (accounts : List Account) → InTurn accounts → (holder next : Option ℕ)
    → ((v : ℕ) → holder ≡ Some v → v < length accounts) → ((v : ℕ) → next ≡ Some v → v < length accounts)
    → (c x : ℕ) (told : List Event)
    → cond (stays holder next) told (told ++ on_at c x (going_to (part_of accounts next)) ∷ [])
    ≡ push_some told (on_core_at c x (switch_to (part_of accounts holder) (part_of accounts next)))
told_switch accounts turn None None _ _ c x told = refl
told_switch accounts turn (Some u) None _ _ c x told = refl
told_switch accounts turn None (Some v) _ _ c x told = refl
told_switch accounts turn (Some u) (Some v) has within c x told =
    either (holds (Some u) v)
    ∙ ap (λ (q : Bool). push_some told (on_core_at c x (cond q None (Some (Run part)))))
    (sym (holds_part accounts turn (Some u) has v (within v refl)))
  where
    part : ℕ
    part = (account_at accounts v).part

    either : (q : Bool) → cond q told (told ++ on_at c x (Run part) ∷ [])
        ≡ push_some told (on_core_at c x (cond q None (Some (Run part))))
    either true = refl
    either false = refl
