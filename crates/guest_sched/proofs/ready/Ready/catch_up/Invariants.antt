use Rattle.std.proofs.Common.{◌≡◌, ◌-◌, length}
use Rattle.guest_sched.specs.inner.Ready.{IsReady, HaveCome}
use Rattle.guest_sched.proofs.ready.Ready.catch_up.Given as goal

-- the jobs so far have come
abbrev pub invariant-loop-self : goal.invariant-loop-self
invariant-loop-self l = record {
  state : IsReady l.self;
  come : HaveCome l.self l.self.time;
  time : l.self.time ≡ l.fn.self.time;
  releases : l.self.releases ≡ l.fn.self.releases;
  left : l.self.left ≡ l.fn.self.left;
  ends : l.self.ends ≡ l.fn.self.ends;
  keys : l.self.keys ≡ l.fn.self.keys;
}

abbrev pub decreases-loop-self : goal.decreases-loop-self
decreases-loop-self l = length l.self.releases.items - l.self.released
