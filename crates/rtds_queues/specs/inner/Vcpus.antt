-- The VCPUs of a core with their two orders, and how a period of one begins.
use Rattle.std.specs.Prelude.{◌≡◌, ℕ, ◌+◌, ◌<◌, List, length, slice_set}
use Rattle.rtds_queues.specs.declared.account.Account.{Account}
use Rattle.rtds_queues.specs.declared.queue.Queue.{Queue}
use Rattle.rtds_queues.specs.Accounts.{account_at, end_at, renewed, account_eligible}
use Rattle.rtds_queues.specs.inner.Queues.{stands_in, AreQueued}
use Rattle.rtds_queues.specs.inner.ByEnd.{AreByEnd}

-- those that are eligible are queued, and all stand in the order in which their periods end
pub record AreVcpus (accounts : List Account) (queue : Queue) (by_end : List ℕ) : Type 0 where
  pub queued : AreQueued accounts queue
  pub eligible : (v : ℕ) → v < length accounts →
      stands_in queue v ≡ account_eligible (account_at accounts v)
  pub ends : AreByEnd accounts by_end

-- a period that ends at slot `at` begins anew, of one VCPU
pub record BeginsOne (at : ℕ) (old new : List Account) : Type 0 where
  pub vcpu : ℕ
  pub is_vcpu : vcpu < length old
  pub ended : end_at old vcpu ≡ at
  pub set_is : new
      ≡ slice_set old vcpu (renewed (account_at old vcpu) (at + (account_at old vcpu).period))
