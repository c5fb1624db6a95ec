-- The first of the queued VCPUs is the one that goes first.
use Rattle.std.proofs.Common.{◌≡◌, ℕ, false, List, Option, sym, ◌∙◌, subst, inl, inr}
use Rattle.std.proofs.lemmas.Bool.{cases_eq}
use Rattle.rtds_queues.specs.declared.account.Account.{Account}
use Rattle.rtds_queues.specs.declared.queue.Queue.{Queue}
use Rattle.rtds_queues.specs.Accounts.{is_ahead}
use Rattle.rtds_queues.specs.inner.Queues.{IsFirstQueued}
use Rattle.rtds_queues.specs.Vcpus.{IsChoice}
use Rattle.rtds_queues.specs.inner.Vcpus.{AreVcpus}
use Rattle.rtds_queues.proofs.FirstOf.{one_way}
use Rattle.rtds_queues.proofs.Queueing.{strict_order}

pub first_choice : (accounts : List Account) (queue : Queue) (by_end : List ℕ) → AreVcpus accounts queue by_end
    → (o : Option ℕ) → IsFirstQueued accounts queue o → IsChoice accounts o
first_choice accounts queue by_end h o f = record {
  idle = λ q u l. sym (h.eligible u l) ∙ f.none q u l;
  within = f.within;
  named = λ v q. sym (h.eligible v (f.within v q)) ∙ f.queued v q;
  first = λ u v q l b. elim (cases_eq u v) [
    | inl e ↦ subst (λ (z : ℕ). is_ahead accounts z v ≡ false) (sym e) ((strict_order accounts).itself v)
    | inr ne ↦
        one_way (is_ahead accounts) v u (strict_order accounts)
        (f.first u v q l (h.eligible u l ∙ b) ne)
  ];
}
