use Rattle.std.proofs.Common.{◌≡◌, length}
use Rattle.guest_sched.specs.inner.Ready.{IsReady}
use Rattle.guest_sched.proofs.ready.Ready.give_up.Given as goal

-- some of the jobs that end by now are given up
abbrev pub invariant-loop-at : goal.invariant-loop-at
invariant-loop-at l = record {
  state : IsReady l.self;
  time : l.self.time ≡ l.fn.self.time;
  releases : l.self.releases ≡ l.fn.self.releases;
  released : l.self.released ≡ l.fn.self.released;
  left : l.self.left ≡ l.fn.self.left;
  ends : l.self.ends ≡ l.fn.self.ends;
  keys : l.self.keys ≡ l.fn.self.keys;
}

abbrev pub decreases-loop-at : goal.decreases-loop-at
decreases-loop-at l = length l.self.ready
