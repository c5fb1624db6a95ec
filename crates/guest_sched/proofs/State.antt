-- The state of a scheduler when a job comes, when one ends, and when one is served.
use Rattle.std.proofs.Common.{◌≡◌, ◌≢◌, ℕ, ◌+◌, ◌-◌, ◌<◌, ◌≤◌, List, length, get_or, set, refl, sym, ◌∙◌, ap, arith, inl, inr, length-set, get_or-set_same, get_or-set_other}
use Rattle.std.proofs.lemmas.Bool.{cases_eq, cases_lt}
use Rattle.std.proofs.lemmas.List.{get_or_default}
use Rattle.slot_model.specs.declared.key.Key.{Key}
use Rattle.guest_sched.specs.declared.releases.Release.{Release}
use Rattle.guest_sched.specs.inner.Releases.{release_at}
use Rattle.guest_sched.specs.inner.Keys.{AreByKey}
use Rattle.guest_sched.specs.inner.Places.{StandsIn, AddsPlace, RemovesPlace}
use Rattle.guest_sched.specs.inner.Ready.{HasCome, IsState}

-- the next release comes
pub one_comes : (releases : List Release) (n : ℕ) (keys : List Key) (left ends ready : List ℕ)
    (soonest now : ℕ) (new : List ℕ)
    (sooner : ℕ) → IsState releases n keys left ends ready soonest now → n < length releases
    → AddsPlace keys ready (release_at releases n).place new
    → sooner ≤ soonest → sooner ≤ get_or ends (release_at releases n).place 0
    → IsState releases (n + 1) keys left ends new sooner now
one_comes releases n keys left ends ready soonest now new sooner h l adds a b = record {
  in_jobs = h.in_jobs;
  same_jobs = h.same_jobs;
  same_keys = h.same_keys;
  once = h.once;
  in_order = h.in_order;
  some_come = omega arith;
  to_come = λ i m li. h.to_come i (omega arith) li;
  come =
      λ j s. elim (adds.no_more j s) [
        | inl e ↦
            (n, omega arith, sym e)
        | inr old ↦
            let c : HasCome releases n j = h.come j old in (c.0, omega (arith, c.1), c.2)
      ];
  lacks =
      λ j s. elim (adds.no_more j s) [
        | inl e ↦
            omega (arith, ap (λ (z : ℕ). get_or left z 0) e, h.to_come n (omega arith) l)
        | inr old ↦ h.lacks j old
      ];
  all = λ j c some lasts. elim (cases_lt c.0 n) [
    | inl old ↦ adds.kept j (h.all j (c.0, old, c.2) some lasts)
    | inr late ↦
        let e : c.0 ≡ n = omega (arith, c.1) in
        let s : StandsIn new (release_at releases n).place = adds.added in
        (s.0, s.1, s.2 ∙ ap (λ (z : ℕ). (release_at releases z).place) (sym e) ∙ c.2)
  ];
  soon =
      λ j s. elim (adds.no_more j s)
      [ inl e ↦ omega (arith, ap (λ (z : ℕ). get_or ends z 0) e) | inr old ↦ omega (arith, h.soon j old) ];
  by_key = adds.by_key;
}

-- the next one that comes is not ready yet
pub not_yet : (releases : List Release) (n : ℕ) (keys : List Key) (left ends ready : List ℕ) (soonest now : ℕ)
    → IsState releases n keys left ends ready soonest now → n < length releases
    → StandsIn ready (release_at releases n).place → ⊥
not_yet releases n keys left ends ready soonest now h l s =
    let c : HasCome releases n (release_at releases n).place = h.come (release_at releases n).place s in
    omega (arith, c.1, h.once c.0 n (omega (arith, c.1)) l c.2)

pub ready_in : (releases : List Release) (n : ℕ) (keys : List Key) (left ends ready : List ℕ) (soonest now : ℕ)
    → IsState releases n keys left ends ready soonest now → (p : ℕ) → StandsIn ready p → p < length left
ready_in releases n keys left ends ready soonest now h p s =
    let c : HasCome releases n p = h.come p s in
    omega (arith, c.1, c.2, h.some_come, h.in_jobs c.0 (omega (arith, c.1, h.some_come)))

pub all_in_jobs : (releases : List Release) (n : ℕ) (keys : List Key) (left ends ready : List ℕ)
    (soonest now : ℕ) (read : List ℕ)
    → IsState releases n keys left ends ready soonest now → read ≡ ready → (k d : ℕ) → k < length read
    → get_or read k d < length left
all_in_jobs releases n keys left ends ready soonest now read h e k d l =
    let m : k < length ready = omega (arith, l, ap (λ (z : List ℕ). length z) e) in
    omega (
      arith,
      ready_in releases n keys left ends ready soonest now h (get_or ready k 0) (k, m, refl),
      ap (λ (z : List ℕ). get_or z k d) e,
      get_or_default ready k d 0 m,
    )

-- a job ends
pub one_ends : (releases : List Release) (n : ℕ) (keys : List Key) (left ends ready : List ℕ)
    (soonest now p : ℕ) (new : List ℕ)
    → IsState releases n keys left ends ready soonest now → get_or ends p 0 ≤ now → RemovesPlace keys ready p new
    → IsState releases n keys left ends new soonest now
one_ends releases n keys left ends ready soonest now p new h over removes = record {
  in_jobs = h.in_jobs;
  same_jobs = h.same_jobs;
  same_keys = h.same_keys;
  once = h.once;
  in_order = h.in_order;
  some_come = h.some_come;
  to_come = h.to_come;
  come = λ j s. h.come j (removes.no_more j s);
  lacks = λ j s. h.lacks j (removes.no_more j s);
  all = λ j c some lasts. removes.kept j (h.all j c some lasts) (λ e. omega (arith, ap (λ (z : ℕ). get_or ends z 0) e));
  soon = λ j s. h.soon j (removes.no_more j s);
  by_key = removes.by_key;
}

less_left : (left : List ℕ) (p k j : ℕ) → p < length left
    → get_or (set left p (get_or left p 0 - k)) j 0 ≤ get_or left j 0
less_left left p k j l = elim (cases_eq j p) [
  | inl e ↦
      omega (
        arith,
        ap (λ (z : ℕ). get_or (set left p (get_or left p 0 - k)) z 0) e,
        ap (λ (z : ℕ). get_or left z 0) e,
        get_or-set_same left p (get_or left p 0 - k) 0 l,
      )
  | inr ne ↦ omega (arith, get_or-set_other left p j (get_or left p 0 - k) 0 ne)
]

served : (releases : List Release) (n : ℕ) (keys : List Key) (left ends ready : List ℕ)
    (soonest now p k later : ℕ) (new : List ℕ)
    → IsState releases n keys left ends ready soonest now → now ≤ later → StandsIn ready p → AreByKey keys new
    → ((j : ℕ) → StandsIn new j → StandsIn ready j × (1 ≤ get_or (set left p (get_or left p 0 - k)) j 0))
    → ((j : ℕ) → StandsIn ready j → 1 ≤ get_or (set left p (get_or left p 0 - k)) j 0 → StandsIn new j)
    → IsState releases n keys (set left p (get_or left p 0 - k)) ends new soonest later
served releases n keys left ends ready soonest now p k later new h after s up some kept =
    let l : p < length left = ready_in releases n keys left ends ready soonest now h p s in
    let c : HasCome releases n p = h.come p s in
    record {
      in_jobs = λ i m. omega (arith, h.in_jobs i m, length-set left p (get_or left p 0 - k));
      same_jobs = omega (arith, h.same_jobs, length-set left p (get_or left p 0 - k));
      same_keys = omega (arith, h.same_keys, length-set left p (get_or left p 0 - k));
      once = h.once;
      in_order = h.in_order;
      some_come = h.some_come;
      to_come = λ i m li.
          let ne : (release_at releases i).place ≢ p
          = λ e. omega (arith, c.1, h.once i c.0 li (omega (arith, c.1, h.some_come)) (e ∙ sym c.2)) in
          omega (
            arith,
            get_or-set_other left p (release_at releases i).place (get_or left p 0 - k) 0 ne,
            h.to_come i m li,
          );
      come = λ j t. h.come j (some j t).0;
      lacks = λ j t. (some j t).1;
      all = λ j d m lasts. kept j (h.all j d (omega (arith, less_left left p k j l)) (omega arith)) m;
      soon = λ j t. h.soon j (some j t).0;
      by_key = up;
    }

-- a ready job that is served and lacks more
pub one_stays : (releases : List Release) (n : ℕ) (keys : List Key) (left ends ready : List ℕ)
    (soonest now p k later : ℕ)
    → IsState releases n keys left ends ready soonest now → now ≤ later → StandsIn ready p → get_or left p 0 - k ≢ 0
    → IsState releases n keys (set left p (get_or left p 0 - k)) ends ready soonest later
one_stays releases n keys left ends ready soonest now p k later h after s more =
    served releases n keys left ends ready soonest now p k later ready h after s h.by_key
    (λ j t. (
      t,
      elim (cases_eq j p) [
        | inl e ↦
            omega (
              arith,
              ap (λ (z : ℕ). get_or (set left p (get_or left p 0 - k)) z 0) e,
              get_or-set_same left p (get_or left p 0 - k) 0
                  (ready_in releases n keys left ends ready soonest now h p s),
            )
        | inr ne ↦ omega (arith, get_or-set_other left p j (get_or left p 0 - k) 0 ne, h.lacks j t)
      ],
    ))
    (λ j t m. t)

-- a ready job that is served and done
pub one_done : (releases : List Release) (n : ℕ) (keys : List Key) (left ends ready : List ℕ)
    (soonest now p k later : ℕ) (new : List ℕ)
    → IsState releases n keys left ends ready soonest now → now ≤ later → StandsIn ready p → get_or left p 0 - k ≡ 0
    → RemovesPlace keys ready p new → IsState releases n keys (set left p (get_or left p 0 - k)) ends new soonest later
one_done releases n keys left ends ready soonest now p k later new h after s none removes =
    served releases n keys left ends ready soonest now p k later new h after s removes.by_key
    (λ j t. (
      removes.no_more j t,
      elim (cases_eq j p) [
        | inl e ↦ absurd (removes.gone (t.0, t.1, t.2 ∙ e))
        | inr ne ↦ omega (arith, get_or-set_other left p j (get_or left p 0 - k) 0 ne, h.lacks j (removes.no_more j t))
      ],
    ))
    (λ j t m. removes.kept j t (λ e. omega (
      arith,
      m,
      ap (λ (z : ℕ). get_or (set left p (get_or left p 0 - k)) z 0) e,
      get_or-set_same left p (get_or left p 0 - k) 0 (ready_in releases n keys left ends ready soonest now h p s),
    )))
