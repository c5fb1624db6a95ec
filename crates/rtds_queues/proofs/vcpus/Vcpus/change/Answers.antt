use Rattle.std.proofs.Common.{◌≡◌, List, length, sym, ap, arith, subst}
use Rattle.rtds_queues.specs.declared.account.Account.{Account}
use Rattle.rtds_queues.specs.Accounts.{account_at, end_at, changed}
use Rattle.rtds_queues.proofs.Setting.{change_kept}
use Rattle.rtds_queues.proofs.vcpus.Vcpus.change.Goals as goal

pub invariant_of-self : goal.invariant_of-self
invariant_of-self c =
    let in_it = c.self.inside in
    change_kept in_it.accounts in_it.queue in_it.by_end.items c.self.invariant c.args.v
    (omega (arith, c.requires.is_vcpu, ap (λ (xs : List Account). length xs) c.self.view_is))
    c.args.change c.deref_mut.result.now c.deref_mut.ensures.value c.change.new.accounts
    (omega (arith, c.change.auto.accounts, c.deref_mut.ensures.len)) c.change.ensures.accounts
    c.change.new.self c.change.ensures.are c.change.ensures.inside
    (subst (λ (xs : List Account). (changed c.args.change (account_at xs c.args.v)).until ≡ end_at xs c.args.v)
    (sym c.self.view_is) c.requires.ends)
