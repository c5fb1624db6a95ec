use Rattle.std.proofs.Common.{◌≡◌, ℕ, ◌<◌}
use Rattle.admission_session.specs.inner.Undone.{moved_to}
use Rattle.admission_session.specs.Answers.{HasRefusal}
use Rattle.admission_session.proofs.cores.seek_core.Given as goal

abbrev pub invariant-loop-c : goal.invariant-loop-c
invariant-loop-c l = record {
  same : (d : ℕ) → moved_to l.sys l.q d ≡ moved_to l.initial.sys l.q d;
  before : (d : ℕ) → d < l.c → HasRefusal (moved_to l.initial.sys l.q d);
}
