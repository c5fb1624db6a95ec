use Rattle.std.proofs.Common.{◌≡◌, ◌<◌, ℕ, List, length, refl, ◌∙◌, ap, arith}
use Rattle.std.proofs.lemmas.List.{get_or_default}
use Rattle.rtds_queues.specs.declared.account.Account.{Account}
use Rattle.rtds_queues.specs.Accounts.{no_account, account_at, using, account_eligible}
use Rattle.rtds_queues.proofs.Setting.{vcpus_left}
use Rattle.rtds_queues.proofs.vcpus.Vcpus.use_slots.Goals as goal

pub invariant_of-self : goal.invariant_of-self
invariant_of-self c =
    let in_it = c.self.inside in
    let v : ℕ = c.args.v in
    let room : v < length in_it.accounts.items
    = omega (arith, c.requires.is_vcpu, ap (λ (xs : List Account). length xs) c.self.view_is) in
    let is : c.use_slots.new.self ≡ using (account_at in_it.accounts.items v) c.args.slots
    = c.use_slots.ensures
    ∙ ap (λ (z : Account). using z c.args.slots)
    (c.index_mut.ensures.value ∙ get_or_default in_it.accounts.items v _ no_account room) in
    vcpus_left in_it.accounts.items in_it.queue in_it.by_end.items c.self.invariant v room c.use_slots.new.self _ refl
    (ap (λ (z : Account). z.level) is) (ap (λ (z : Account). z.until) is) (ap account_eligible is)
