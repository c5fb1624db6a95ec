use Rattle.std.proofs.Common.{◌≡◌, ℕ, ◌+◌, ◌-◌, ◌<◌, ◌≤◌, List, length, get_or, set, ap, arith, subst, sym}
use Rattle.std.proofs.lemmas.List.{get_or_read}
use Rattle.std.specs.List.{remove}
use Rattle.slot_model.specs.declared.key.Key.{Key}
use Rattle.guest_sched.specs.declared.releases.Release.{Release}
use Rattle.guest_sched.specs.inner.Places.{StandsIn, RemovesPlace}
use Rattle.guest_sched.specs.inner.Ready.{IsState}
use Rattle.guest_sched.proofs.InOrder.{remove_removes}
use Rattle.guest_sched.proofs.State.{ready_in, one_stays, one_done}
use Rattle.guest_sched.proofs.ready.Ready.give.Goals as goal
use Rattle.guest_sched.proofs.ready.Ready.give.Goals.{After-get-place}

-- the place of the job as the code reads it
place_is : (c : After-get-place) → get_or c.args.self.now.ready c.args.at 0 ≡ c.get-place.result
place_is c = sym c.get-place.ensures

stands : (c : After-get-place) → StandsIn c.args.self.now.ready c.get-place.result
stands c = (c.args.at, c.requires.is_ready, place_is c)

in_left : (c : After-get-place) → c.get-place.result < length c.args.self.now.left.items
in_left c =
    let s = c.args.self.now in
    ready_in s.releases.items s.released s.keys.all.items s.left.items s.ends.items s.ready s.soonest s.time
    c.requires.state c.get-place.result (stands c)

pub index-lacks-requires : goal.index-lacks-requires
index-lacks-requires c = omega (arith, in_left (goal.at.index-lacks-requires c).After-get-place)

pub index_mut-requires : goal.index_mut-requires
index_mut-requires c = omega (arith, in_left (goal.at.index_mut-requires c).After-get-place)

-- the slots are no more than it lacks
enough : (c : After-get-place) (lacks slots : ℕ)
    → lacks ≡ get_or c.args.self.now.left.items c.get-place.result lacks → slots ≤ lacks
    → slots ≤ get_or c.args.self.now.left.items (get_or c.args.self.now.ready c.args.at 0) 0
enough c lacks slots e l =
    let left = c.args.self.now.left.items in
    omega (
      arith,
      get_or_read left c.get-place.result lacks (in_left c) e 0,
      ap (λ (z : ℕ). get_or left z 0) (place_is c),
    )

pub returns-then-slots-lacks-clause-enough : goal.returns-then-slots-lacks-clause-enough
returns-then-slots-lacks-clause-enough c =
    omega (
      arith,
      enough (goal.at.returns-then-slots-lacks-clause-enough c).After-get-place c.index-lacks.result.now
          c.min-slots.result c.index-lacks.ensures (omega (arith, c.min-slots.ensures)),
    )

pub returns-else-slots-lacks-clause-enough : goal.returns-else-slots-lacks-clause-enough
returns-else-slots-lacks-clause-enough c =
    omega (
      arith,
      enough (goal.at.returns-else-slots-lacks-clause-enough c).After-get-place c.index-lacks.result.now
          c.min-slots.result c.index-lacks.ensures (omega (arith, c.min-slots.ensures)),
    )

-- what the job lacks as the code reads it
stays : (releases : List Release) (n : ℕ) (keys : List Key) (left ends ready : List ℕ) (soonest now p lacks k later : ℕ)
    → IsState releases n keys left ends ready soonest now → StandsIn ready p → lacks ≡ get_or left p lacks → k < lacks
    → now ≤ later → IsState releases n keys (set left p (lacks - k)) ends ready soonest later
stays releases n keys left ends ready soonest now p lacks k later h s e l after =
    let is : get_or left p 0 ≡ lacks
    = sym (get_or_read left p lacks (ready_in releases n keys left ends ready soonest now h p s) e 0) in
    subst (λ (z : ℕ). IsState releases n keys (set left p (z - k)) ends ready soonest later) is
    (one_stays releases n keys left ends ready soonest now p k later h after s (omega arith))

done : (releases : List Release) (n : ℕ) (keys : List Key) (left ends ready : List ℕ)
    (soonest now p lacks k later : ℕ) (new : List ℕ)
    → IsState releases n keys left ends ready soonest now → StandsIn ready p → lacks ≡ get_or left p lacks → k ≡ lacks
    → now ≤ later → RemovesPlace keys ready p new
    → IsState releases n keys (set left p (lacks - k)) ends new soonest later
done releases n keys left ends ready soonest now p lacks k later new h s e l after removes =
    let is : get_or left p 0 ≡ lacks
    = sym (get_or_read left p lacks (ready_in releases n keys left ends ready soonest now h p s) e 0) in
    subst (λ (z : ℕ). IsState releases n keys (set left p (z - k)) ends new soonest later) is
    (one_done releases n keys left ends ready soonest now p k later new h after s (omega arith) removes)

-- what is left of the ready jobs without it
removed : (c : After-get-place)
    → RemovesPlace c.args.self.now.keys.all.items c.args.self.now.ready c.get-place.result
    (remove c.args.self.now.ready c.args.at)
removed c =
    let s = c.args.self.now in
    subst (λ (z : ℕ). RemovesPlace s.keys.all.items s.ready z (remove s.ready c.args.at)) (place_is c)
    (remove_removes s.keys.all.items s.ready c.args.at c.requires.state.by_key c.requires.is_ready)

pub returns-then-slots-lacks-clause-state : goal.returns-then-slots-lacks-clause-state
returns-then-slots-lacks-clause-state c =
    let s = c.args.self.now in
    let p = (goal.at.returns-then-slots-lacks-clause-state c).After-get-place in
    let place = c.get-place.result in
    done s.releases.items s.released s.keys.all.items s.left.items s.ends.items s.ready s.soonest s.time place
    c.index-lacks.result.now c.min-slots.result (s.time + c.min-slots.result) c.remove.new.self
    c.requires.state (stands p) c.index-lacks.ensures c.if-slots-lacks.true (omega arith)
    (subst (RemovesPlace s.keys.all.items s.ready place) (sym c.remove.ensures) (removed p))

pub returns-else-slots-lacks-clause-state : goal.returns-else-slots-lacks-clause-state
returns-else-slots-lacks-clause-state c =
    let s = c.args.self.now in
    let p = (goal.at.returns-else-slots-lacks-clause-state c).After-get-place in
    stays s.releases.items s.released s.keys.all.items s.left.items s.ends.items s.ready s.soonest s.time
    c.get-place.result c.index-lacks.result.now c.min-slots.result (s.time + c.min-slots.result)
    c.requires.state (stands p) c.index-lacks.ensures
    (omega (arith, c.min-slots.ensures, c.if-slots-lacks.false)) (omega arith)
