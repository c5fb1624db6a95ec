use Rattle.std.proofs.Common.{◌≡◌, ℕ, ◌<◌, ◌≤◌, List, length, get_or, arith, ap, subst, sym}
use Rattle.std.specs.Prelude.{All}
use Rattle.guest_sched.specs.declared.ready.Ready.{Ready}
use Rattle.guest_sched.specs.inner.Ready.{IsReady}
use Rattle.guest_sched.specs.inner.Places.{RemovesPlace}
use Rattle.guest_sched.proofs.InOrder.{remove_removes}
use Rattle.guest_sched.proofs.State.{all_in_jobs, one_ends}
use Rattle.guest_sched.proofs.ready.Ready.give_up.Goals as goal

-- the ready jobs have ends
have_ends : (s : Ready) (ready ends : List ℕ) → IsReady s → ready ≡ s.ready → ends ≡ s.ends.items
    → All (λ p. p < length ends) ready
have_ends s ready ends h same same_ends k d l = omega (
  arith,
  h.same_jobs,
  all_in_jobs s.releases.items s.released s.keys.all.items s.left.items s.ends.items s.ready s.soonest s.time
      ready h same k d l,
  ap (λ (z : List ℕ). length z) same_ends,
)

pub find_ended-requires : goal.find_ended-requires
find_ended-requires c =
    have_ends c.loop-at.self c.as_slice.result.now c.deref.result.now c.loop-at.invariant.state
    c.as_slice.ensures c.deref.ensures.value

pub soonest_end-self-requires : goal.soonest_end-self-requires
soonest_end-self-requires c =
    have_ends c.loop-at.self c.as_slice-2.result.now c.deref-2.result.now c.loop-at.invariant.state
    c.as_slice-2.ensures c.deref-2.ensures.value

pub loop-at-preserved : goal.loop-at-preserved
loop-at-preserved c =
    let s = c.loop-at.self in
    let i = c.loop-at.invariant in
    let keys = s.keys.all.items in
    let ready = s.ready in
    let ended : (c.in-Some.at < length ready) × (get_or s.ends.items (get_or ready c.in-Some.at 0) 0 ≤ s.time)
    = (
      subst (λ (z : List ℕ). c.in-Some.at < length z) c.as_slice.ensures c.in-Some.ensures.0,
      subst (λ (z : List ℕ). get_or s.ends.items (get_or z c.in-Some.at 0) 0 ≤ s.time)
          c.as_slice.ensures (subst
          (λ (z : List ℕ). get_or z (get_or c.as_slice.result.now c.in-Some.at 0) 0 ≤ s.time)
          c.deref.ensures.value c.in-Some.ensures.1),
    ) in
    record {
      state =
          one_ends s.releases.items s.released keys s.left.items s.ends.items ready s.soonest s.time
          (get_or ready c.in-Some.at 0) c.remove.new.self i.state ended.1
          (subst (RemovesPlace keys ready (get_or ready c.in-Some.at 0)) (sym c.remove.ensures)
          (remove_removes keys ready c.in-Some.at i.state.by_key ended.0));
      time = i.time;
      releases = i.releases;
      released = i.released;
      left = i.left;
      ends = i.ends;
      keys = i.keys;
    }
