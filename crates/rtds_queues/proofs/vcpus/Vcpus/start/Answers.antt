use Rattle.std.proofs.Common.{◌≡◌, ◌+◌, ℕ, List, length, ap, arith, subst}
use Rattle.rtds_queues.specs.declared.account.Account.{Account}
use Rattle.rtds_queues.specs.declared.account.Change.TheVariants.{Start}
use Rattle.rtds_queues.specs.inner.ByEnd.{AreAll}
use Rattle.rtds_queues.proofs.Setting.{change_ordered}
use Rattle.rtds_queues.proofs.vcpus.Vcpus.start.Goals as goal

pub invariant_of-self : goal.invariant_of-self
invariant_of-self c =
    let in_it = c.self.inside in
    let as_many : length c.deref.result.now ≡ length in_it.accounts.items
    = omega (
      arith,
      c.deref.ensures.len,
      c.change.auto.accounts,
      c.deref_mut.ensures.len,
      ap (λ (xs : List Account). length xs) c.deref_mut.ensures.value,
    ) in
    change_ordered in_it.accounts in_it.queue in_it.by_end.items c.self.invariant c.args.v
    (omega (arith, c.requires.is_vcpu, ap (λ (xs : List Account). length xs) c.self.view_is))
    (Start (c.args.at + c.index.result.now.period)) c.deref_mut.result.now c.deref_mut.ensures.value
    c.change.new.accounts
    (omega (arith, c.change.auto.accounts, c.deref_mut.ensures.len)) c.change.ensures.accounts
    c.change.new.self c.change.ensures.are c.change.ensures.inside
    in_it.by_end c.put_in_order.new.vcpus
    (omega (arith, c.put_in_order.auto.vcpus, c.deref_mut-2.ensures.len))
    (subst (λ (n : ℕ). AreAll n c.put_in_order.new.vcpus) as_many c.put_in_order.ensures.all)
    c.deref.result.now c.deref.ensures.value c.put_in_order.ensures.order
