use Rattle.std.proofs.Common.{List, ◌∙◌, ap, subst}
use Rattle.rtds_queues.specs.declared.account.Account.{Account}
use Rattle.rtds_queues.specs.inner.ByEnd.{first_end}
use Rattle.rtds_queues.specs.Vcpus.{IsFirstEnd}
use Rattle.rtds_queues.proofs.Firsts.{first_is}
use Rattle.rtds_queues.proofs.vcpus.Vcpus.first_end.Goals as goal

pub returns : goal.returns
returns c =
    let accounts : List Account = c.self.inside.accounts.items in
    subst (λ (xs : List Account). IsFirstEnd xs c.first_end.result) c.self.view_is
    (first_is accounts c.self.inside.by_end.items c.first_end.result c.self.invariant.ends
    (c.first_end.ensures
    ∙ (ap (first_end c.deref-2.result.now) c.deref.ensures.value
    ∙ ap (λ (xs : List Account). first_end xs c.self.inside.by_end.items) c.deref-2.ensures.value)))
