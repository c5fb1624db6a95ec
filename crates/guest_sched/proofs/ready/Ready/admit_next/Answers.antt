use Rattle.std.proofs.Common.{◌≡◌, ℕ, ◌+◌, ◌<◌, ◌≤◌, true, false, List, length, get_or, min, ap, sym, subst, arith, ◌∙◌}
use Rattle.std.proofs.lemmas.List.{get_or_read}
use Rattle.std.specs.List.{insert}
use Rattle.slot_model.specs.declared.key.Key.{Key}
use Rattle.guest_sched.specs.declared.releases.Release.{Release}
use Rattle.guest_sched.specs.inner.Releases.{release_at}
use Rattle.guest_sched.specs.inner.Keys.{goes_by_key}
use Rattle.guest_sched.specs.inner.Places.{AddsPlace}
use Rattle.guest_sched.specs.inner.Ready.{IsState}
use Rattle.guest_sched.proofs.KeyOrder.{other_goes}
use Rattle.guest_sched.proofs.InOrder.{insert_adds}
use Rattle.guest_sched.proofs.State.{all_in_jobs, not_yet, one_comes}
use Rattle.guest_sched.proofs.ready.Ready.admit_next.Goals as goal

pub count_before-at-requires-clause-in_keys : goal.count_before-at-requires-clause-in_keys
count_before-at-requires-clause-in_keys c k d l =
    let s = c.args.self.now in
    omega (
      arith,
      c.requires.state.same_keys,
      all_in_jobs s.releases.items s.released s.keys.all.items s.left.items s.ends.items s.ready s.soonest s.time
          c.as_slice.result.now c.requires.state c.as_slice.ensures k d l,
    )

-- the place, the end and the new state as the code reads them
comes : (releases : List Release) (n : ℕ) (keys : List Key) (left ends ready : List ℕ) (soonest now : ℕ)
    (new : List ℕ) (a : Release) (end sooner at : ℕ) → IsState releases n keys left ends ready soonest now
    → n < length releases → a ≡ get_or releases n a → end ≡ get_or ends a.place end → at ≤ length ready
    → ((k : ℕ) → k < at → goes_by_key keys (get_or ready k 0) a.place ≡ true)
    → ((k : ℕ) → at ≤ k → k < length ready → goes_by_key keys (get_or ready k 0) a.place ≡ false)
    → new ≡ insert ready at a.place → sooner ≡ min soonest end
    → IsState releases (n + 1) keys left ends new sooner now
comes releases n keys left ends ready soonest now new a end sooner at h l ea ee within before behind is es =
    let place : a.place ≡ (release_at releases n).place =
    ap (λ (v : Release). v.place) (get_or_read releases n a l ea (record { release = 0; place = 0 })) in
    let in_ends : a.place < length ends = omega (arith, h.in_jobs n l, h.same_jobs, place) in
    let end_is : end ≡ get_or ends (release_at releases n).place 0 =
    get_or_read ends a.place end in_ends ee 0 ∙ ap (λ (z : ℕ). get_or ends z 0) place in
    let later : (k : ℕ) → at ≤ k → k < length ready → goes_by_key keys a.place (get_or ready k 0) ≡ true =
    λ k b m. other_goes keys (get_or ready k 0) a.place
    (λ e. not_yet releases n keys left ends ready soonest now h l (k, m, e ∙ place)) (behind k b m) in
    let adds : AddsPlace keys ready a.place new =
    subst (AddsPlace keys ready a.place) (sym is) (insert_adds keys ready a.place at h.by_key within before later) in
    one_comes releases n keys left ends ready soonest now new sooner h l
    (subst (λ (z : ℕ). AddsPlace keys ready z new) place adds) (omega arith) (omega arith)

pub returns-clause-state : goal.returns-clause-state
returns-clause-state c =
    let s = c.args.self.now in
    let keys = s.keys.all.items in
    let place = c.index.result.now.place in
    let at = c.count_before-at.result in
    comes s.releases.items s.released keys s.left.items s.ends.items s.ready s.soonest s.time
    c.insert.new.self c.index.result.now c.index-2.result.now c.min-self.result at c.requires.state
    c.requires.some c.index.ensures c.index-2.ensures
    (subst (λ (z : List ℕ). at ≤ length z) c.as_slice.ensures c.count_before-at.ensures.within)
    (subst (λ (z : List ℕ). (k : ℕ) → k < at → goes_by_key keys (get_or z k 0) place ≡ true) c.as_slice.ensures
    c.count_before-at.ensures.before)
    (subst (λ (z : List ℕ). (k : ℕ) → at ≤ k → k < length z → goes_by_key keys (get_or z k 0) place ≡ false)
    c.as_slice.ensures c.count_before-at.ensures.behind)
    c.in_ok-insert.ensures c.min-self.ensures
