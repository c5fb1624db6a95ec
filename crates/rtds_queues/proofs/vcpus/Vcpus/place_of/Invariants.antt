use Rattle.std.proofs.Common.{◌≢◌, ◌<◌, ℕ}
use Rattle.rtds_queues.specs.Accounts.{account_at}
use Rattle.rtds_queues.proofs.vcpus.Vcpus.place_of.Given as goal

-- none so far is the part
abbrev pub invariant-loop-v : goal.invariant-loop-v
invariant-loop-v l = (u : ℕ) → u < l.v → (account_at l.self u).part ≢ l.part
