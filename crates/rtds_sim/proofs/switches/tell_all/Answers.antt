use Rattle.std.proofs.Common.{◌≡◌, ℕ, ◌+◌, ◌<◌, List, Some, length, replicate, get_or, set, refl, sym, ◌∙◌, ap, arith}
use Rattle.std.specs.Prelude.{slice_get}
use Rattle.std.proofs.lemmas.List.{length-set, get_or-set_same, get_or-set_other}
use Rattle.trace_file.specs.declared.event.Event.{Event}
use Rattle.rtds_sim.specs.inner.Lists.{list_at}
use Rattle.rtds_sim.specs.inner.Soonest.{next_moment}
use Rattle.rtds_sim.proofs.Merging.{told_none, told_one, told_all}
use Rattle.rtds_sim.proofs.Lists.{has_event, moments_more, left_less}
use Rattle.rtds_queues.proofs.Queueing.{alike}
use Rattle.rtds_sim.proofs.switches.tell_all.Goals as goal
use Rattle.rtds_sim.proofs.switches.tell_all.Goals.{In-Some}

pub loop-core-init : goal.loop-core-init
loop-core-init g c = record {
  room = refl;
  room_too = c.set_first_moments.ensures.room;
  moments =
      λ d l. c.set_first_moments.ensures.moments d l
      ∙ sym (ap (next_moment (list_at c.args.lists.now d)) (alike {X = ℕ} 64 d 0));
  so_far =
      λ f x m at_slots are. told_none g.T.EventTaker.has_taken c.args.events.now f x m (length c.args.lists.now)
      (replicate 64 0) (λ d l. alike {X = ℕ} 64 d 0);
}

-- the core that is soonest has an event
in_list : (g : _) (c : In-Some g)
    → get_or c.loop-core.told c.in-Some.core 0 < length (list_at c.args.lists.now c.in-Some.core)
in_list g c =
    let soonest = c.in-Some.ensures in
    has_event (list_at c.args.lists.now c.in-Some.core) (get_or c.loop-core.told c.in-Some.core 0)
    (omega (arith, soonest.some, c.loop-core.invariant.moments c.in-Some.core soonest.is_core))

pub event_at-requires : goal.event_at-requires
event_at-requires g c =
    omega (
      arith,
      in_list g (goal.at.event_at-requires g c).In-Some,
      ap (λ (es : List Event). length es) c.list_of-list.ensures,
    )

pub overflow_add-next : goal.overflow_add-next
overflow_add-next g c =
    omega (
      arith,
      in_list g (goal.at.overflow_add-next g c).In-Some,
      ap (λ (es : List Event). length es) c.list_of-list.ensures,
      c.list_of-list.type_inv,
    )

pub loop-core-smaller : goal.loop-core-smaller
loop-core-smaller g c =
    left_less c.args.lists.now c.loop-core.told (length c.args.lists.now) c.in-Some.core c.in-Some.ensures.is_core
    (omega (arith, c.requires, c.in-Some.ensures.is_core, c.loop-core.invariant.room))
    (in_list g (goal.at.loop-core-smaller g c).In-Some)

pub loop-core-preserved : goal.loop-core-preserved
loop-core-preserved g c =
    let so_far = c.loop-core.invariant in
    let lists = c.args.lists.now in
    let told = c.loop-core.told in
    let core : ℕ = c.in-Some.core in
    let place : ℕ = get_or told core 0 in
    let in_told : core < length told = omega (arith, c.requires, c.in-Some.ensures.is_core, so_far.room) in
    let in_moments : core < length c.loop-core.moments
    = omega (arith, c.requires, c.in-Some.ensures.is_core, so_far.room_too) in
    let is : slice_get (list_at lists core) place ≡ Some c.event_at.result
    = ap (λ (es : List Event). slice_get es place) (sym c.list_of-list.ensures) ∙ c.event_at.ensures in
    record {
      room = length-set told core (place + 1) ∙ so_far.room;
      room_too = length-set c.loop-core.moments core c.next_moment.result ∙ so_far.room_too;
      moments =
          moments_more lists told c.loop-core.moments (length lists) core (place + 1) c.next_moment.result
          so_far.moments in_told in_moments
          (c.next_moment.ensures ∙ ap (λ (es : List Event). next_moment es (place + 1)) c.list_of-list.ensures);
      so_far =
          λ f x m at_slots are. told_one g.T.EventTaker.has_taken f at_slots x m (length lists) lists are told
          c.loop-core.moments so_far.moments c.args.events.now c.loop-core.events
          (so_far.so_far f x m at_slots are) core c.in-Some.ensures c.event_at.result is c.take.new.self
          c.in_ok-take.ensures
          (set told core (place + 1)) (get_or-set_same told core (place + 1) 0 in_told)
          (λ d ne. get_or-set_other told core d (place + 1) 0 ne);
    }

pub returns : goal.returns
returns g c f x m at_slots are =
    told_all g.T.EventTaker.has_taken f at_slots x m (length c.args.lists.now) c.args.lists.now are c.loop-core.told
    c.loop-core.moments c.loop-core.invariant.moments c.args.events.now c.loop-core.events
    (c.loop-core.invariant.so_far f x m at_slots are) c.in_default.ensures
