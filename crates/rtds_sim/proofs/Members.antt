-- The VCPUs of a core, each by the part of the system that it is.
use Rattle.std.proofs.Common.{◌≡◌, ℕ, zero, suc, ◌<◌, ◌≤◌, ◌==◌, nat_lt, Bool, true, false, cond, if◌then◌else◌, ◌&&◌, ◌||◌, List, [], ◌∷◌, length, map, get_or, Option, Some, None, refl, sym, ◌∙◌, ap, arith, subst, inl, inr, eq-eqb, eqb-true, lt-ltb, le-ltb}
use Rattle.std.specs.Prelude.{is_some}
use Rattle.std.proofs.lemmas.Bool.{cases_eq, cases_lt, false≢true, ne_eqb}
use Rattle.std.proofs.lemmas.List.{get_or-map, length-map}
use Rattle.std.proofs.lemmas.Option.{same_Some}
use Rattle.slot_model.specs.Run.{holds}
use Rattle.slot_model.specs.Slots.{count_below, places_where}
use Rattle.slot_model.proofs.FirstRuns.{none_some}
use Rattle.slot_model.proofs.Places.{stands_at, counted_below, length-places_where}
use Rattle.slot_model.proofs.Runs.{count_below-mono, count_below-le}
use Rattle.tree_model.specs.declared.place.Place.TheVariants.{Core}
use Rattle.tree_model.specs.View.{SystemView}
use Rattle.tree_model.specs.System.{IsSystem}
use Rattle.tree_model.specs.Tree.{is_child}
use Rattle.tree_model.specs.Plans.{IsPlan}
use Rattle.release_file.specs.declared.workload.Wake.{Wake as Row}
use Rattle.release_file.specs.Workload.{row_at, starts, is_of, blocks}
use Rattle.csv_rows.proofs.Last.{last_below-zero}
use Rattle.rtds_queues.specs.declared.account.Account.{Account}
use Rattle.rtds_queues.specs.Accounts.{no_account, account_at, account_eligible, goes_ahead}
use Rattle.rtds_queues.specs.Vcpus.{IsPlaceOf, IsChoice, NoneStarted}
use Rattle.rtds_queues.proofs.Membership.{IsPlace, is_place}
use Rattle.rtds_sim.specs.inner.Accounts.{new_account, new_core, part_of, InTurn, HasNumbers, AreOf, AreOn, IsSound, IsReady}

-- the place of the first VCPU that is a part
place_in : List Account → ℕ → ℕ
place_in [] q = 0
place_in (a ∷ accounts) q = if a.part == q then 0 else suc (place_in accounts q)

-- the account of a part
pub by_part : List Account → ℕ → Account
by_part accounts q = account_at accounts (place_in accounts q)

-- VCPUs that stand in turn are of different parts
pub one_place : (accounts : List Account) → InTurn accounts → (q u v : ℕ) → IsPlaceOf accounts q u
    → IsPlaceOf accounts q v → u ≡ v
one_place accounts turn q u v a b = elim (cases_eq u v) [
  | inl e ↦ e
  | inr ne ↦ elim (cases_lt u v) [
    | inl l ↦ absurd (omega (arith, turn u v l b.is_vcpu, a.part_is, b.part_is))
    | inr m ↦ absurd (omega (arith, turn v u (omega (arith, m, ne)) a.is_vcpu, a.part_is, b.part_is))
  ]
]

place_found : (accounts : List Account) (q v : ℕ) → IsPlaceOf accounts q v
    → IsPlaceOf accounts q (place_in accounts q)
unfolding place_in
place_found [] q v h = absurd (omega (arith, h.is_vcpu))
place_found (a ∷ accounts) q v h = go (place_found accounts q) (a.part == q) refl v h.is_vcpu h.part_is
  where
    go : ((v : ℕ) → IsPlaceOf accounts q v → IsPlaceOf accounts q (place_in accounts q))
        → (b : Bool) → (a.part == q) ≡ b → (v : ℕ) → v < suc (length accounts) → (account_at (a ∷ accounts) v).part ≡ q
        → IsPlaceOf (a ∷ accounts) q (cond b 0 (suc (place_in accounts q)))
    go found true e v l is = record { is_vcpu = omega arith; part_is = eqb-true a.part q e }
    go found false e zero l is = absurd (false≢true (sym e ∙ eq-eqb a.part q is))
    go found false e (suc v) l is =
        let rest : IsPlaceOf accounts q (place_in accounts q)
        = found v (record { is_vcpu = omega (arith, l); part_is = is }) in
        record { is_vcpu = omega (arith, rest.is_vcpu); part_is = rest.part_is }

module _ (accounts : List Account) (turn : InTurn accounts) where
  pub by_part_at : (q v : ℕ) → IsPlaceOf accounts q v → by_part accounts q ≡ account_at accounts v
  unfolding by_part
  by_part_at q v h =
      ap (account_at accounts) (one_place accounts turn q (place_in accounts q) v (place_found accounts q v h) h)

  -- what holds of each VCPU and its part holds of each part that is one
  pub each_part : (P : ℕ → Account → Type 0) → ((v : ℕ) → v < length accounts
      → P (account_at accounts v).part (account_at accounts v)) → (q v : ℕ) → IsPlaceOf accounts q v
      → P q (by_part accounts q)
  each_part P each q v h =
      subst (P q) (sym (by_part_at q v h))
      (subst (λ (z : ℕ). P z (account_at accounts v)) h.part_is (each v h.is_vcpu))

  -- they stand in turn as their parts do
  turn_is : (u v : ℕ) → u < length accounts → v < length accounts
      → nat_lt (account_at accounts u).part (account_at accounts v).part ≡ nat_lt u v
  turn_is u v lu lv = elim (cases_lt u v) [
    | inl l ↦
        lt-ltb (account_at accounts u).part (account_at accounts v).part (turn u v l lv) ∙ sym (lt-ltb u v l)
    | inr m ↦ elim (cases_eq u v) [
      | inl e ↦
          le-ltb (account_at accounts u).part (account_at accounts v).part
          (omega (arith, ap (λ (z : ℕ). (account_at accounts z).part) e))
          ∙ sym (le-ltb u v m)
      | inr ne ↦
          le-ltb (account_at accounts u).part (account_at accounts v).part
          (omega (arith, turn v u (omega (arith, m, ne)) lu))
          ∙ sym (le-ltb u v m)
    ]
  ]

  -- what has a core has it as a part
  pub holds_part : (o : Option ℕ) → ((w : ℕ) → o ≡ Some w → w < length accounts) → (v : ℕ) → v < length accounts
      → holds (part_of accounts o) (account_at accounts v).part ≡ holds o v
  holds_part None within v lv = refl
  holds_part (Some w) within v lv = elim (cases_eq w v) [
    | inl e ↦
        eq-eqb (account_at accounts w).part (account_at accounts v).part
        (ap (λ (z : ℕ). (account_at accounts z).part) e)
        ∙ sym (eq-eqb w v e)
    | inr ne ↦
        ne_eqb (account_at accounts w).part (account_at accounts v).part
        (λ e. ne (one_place accounts turn (account_at accounts v).part w v
        (record { is_vcpu = within w refl; part_is = e }) (record { is_vcpu = lv; part_is = refl })))
        ∙ sym (ne_eqb w v ne)
  ]

  -- what is known of the VCPU that has the core, by its part
  pub held_part : (P : Account → Type 0) (o : Option ℕ) → ((w : ℕ) → o ≡ Some w → w < length accounts)
      → ((w : ℕ) → o ≡ Some w → P (account_at accounts w)) → (q : ℕ) → part_of accounts o ≡ Some q
      → P (by_part accounts q)
  held_part P None within each q e = absurd (none_some None q refl e)
  held_part P (Some w) within each q e =
      subst P
      (sym (by_part_at q w
      (record { is_vcpu = within w refl; part_is = same_Some (account_at accounts w).part q e })))
      (each w refl)

-- the part of a VCPU is the same where those of all are
pub part_of_same : (accounts others : List Account) (o : Option ℕ)
    → ((v : ℕ) → o ≡ Some v → (account_at others v).part ≡ (account_at accounts v).part)
    → part_of others o ≡ part_of accounts o
part_of_same accounts others None same = refl
part_of_same accounts others (Some v) same = ap Some (same v refl)

-- accounts that have the same numbers
pub record SameNumbers (a b : Account) : Type 0 where
  pub part : b.part ≡ a.part
  pub period : b.period ≡ a.period
  pub budget : b.budget ≡ a.budget
  pub extra : b.extra ≡ a.extra

module _ (accounts others : List Account) (long : length others ≡ length accounts)
    (same : (v : ℕ) → v < length accounts → SameNumbers (account_at accounts v) (account_at others v)) where
  pub turn_same : InTurn accounts → InTurn others
  turn_same turn u v l lv =
      omega (
        arith,
        turn u v l (omega (arith, lv, long)),
        (same u (omega (arith, l, lv, long))).part,
        (same v (omega (arith, lv, long))).part,
      )

  pub of_same : (sys : SystemView) (budgets : List ℕ) (c : ℕ) → AreOf sys budgets c accounts
      → AreOf sys budgets c others
  of_same sys budgets c h = record {
    parts = λ v l. let m : v < length accounts = omega (arith, l, long) in omega (arith, (same v m).part, h.parts v m);
    on_core =
        λ v l. let m : v < length accounts = omega (arith, l, long) in ap (is_child sys (Core c)) (same v m).part
        ∙ h.on_core v m;
    numbers = λ v l.
        let m : v < length accounts = omega (arith, l, long) in
        let n : HasNumbers sys budgets (account_at accounts v).part (account_at accounts v) = h.numbers v m in
        subst (λ (q : ℕ). HasNumbers sys budgets q (account_at others v)) (sym (same v m).part)
        (record {
          period_is = (same v m).period ∙ n.period_is;
          budget_is = (same v m).budget ∙ n.budget_is;
          extra_is = (same v m).extra ∙ n.extra_is;
        });
    all = λ q l child. let at = h.all q l child in (
      at.0,
      record {
        is_vcpu = omega (arith, at.1.is_vcpu, long);
        part_is = (same at.0 at.1.is_vcpu).part ∙ at.1.part_is;
      },
    );
  }

-- the part that goes first among those of core c
pub record IsChoiceBy (sys : SystemView) (c : ℕ) (its : ℕ → Account) (o : Option ℕ) : Type 0 where
  pub idle : o ≡ None → (q : ℕ) → q < length sys.parts → is_child sys (Core c) q ≡ true
      → account_eligible (its q) ≡ false
  pub within : (q : ℕ) → o ≡ Some q → (q < length sys.parts) × (is_child sys (Core c) q ≡ true)
  pub named : (q : ℕ) → o ≡ Some q → account_eligible (its q) ≡ true
  pub first : (p q : ℕ) → o ≡ Some q → p < length sys.parts → is_child sys (Core c) p ≡ true
      → account_eligible (its p) ≡ true → goes_ahead (its p) p (its q) q ≡ false

pub choice_by : (sys : SystemView) (budgets : List ℕ) (c : ℕ) (accounts : List Account) → AreOf sys budgets c accounts
    → InTurn accounts → (o : Option ℕ) → IsChoice accounts o
    → IsChoiceBy sys c (by_part accounts) (part_of accounts o)
choice_by sys budgets c accounts h turn None choice = record {
  idle = λ e q l child.
      let at = h.all q l child in
      ap account_eligible (by_part_at accounts turn q at.0 at.1) ∙ choice.idle refl at.0 at.1.is_vcpu;
  within = λ q e. absurd (none_some None q refl e);
  named = λ q e. absurd (none_some None q refl e);
  first = λ p q e. absurd (none_some None q refl e);
}
choice_by sys budgets c accounts h turn (Some v) choice = record {
  idle = λ e. absurd (none_some None (account_at accounts v).part refl (sym e));
  within = λ q e.
      let same : (account_at accounts v).part ≡ q = same_Some (account_at accounts v).part q e in (
        subst (λ (z : ℕ). z < length sys.parts) same (h.parts v lv),
        subst (λ (z : ℕ). is_child sys (Core c) z ≡ true) same (h.on_core v lv),
      );
  named = λ q e. ap account_eligible (by_part_at accounts turn q v (is_place_of q e)) ∙ choice.named v refl;
  first = λ p q e l child on.
      let at = h.all p l child in
      let here : by_part accounts p ≡ account_at accounts at.0 = by_part_at accounts turn p at.0 at.1 in
      let there : by_part accounts q ≡ account_at accounts v = by_part_at accounts turn q v (is_place_of q e) in
      ap (λ (a : Account). goes_ahead a p (by_part accounts q) q) here
      ∙ (ap (λ (a : Account). goes_ahead (account_at accounts at.0) p a q) there
      ∙ (ahead (account_at accounts at.0) (account_at accounts v) (nat_lt p q) (nat_lt at.0 v)
      (ap (λ (z : ℕ). nat_lt z q) (sym at.1.part_is)
      ∙ (ap (nat_lt (account_at accounts at.0).part) (sym (is_place_of q e).part_is)
      ∙ turn_is accounts turn at.0 v at.1.is_vcpu lv))
      ∙ choice.first at.0 v refl at.1.is_vcpu (sym (ap account_eligible here) ∙ on)));
}
  where
    lv : v < length accounts
    lv = choice.within v refl

    is_place_of : (q : ℕ) → Some (account_at accounts v).part ≡ Some q → IsPlaceOf accounts q v
    is_place_of q e = record { is_vcpu = lv; part_is = same_Some (account_at accounts v).part q e }

    ahead : (a b : Account) (s t : Bool) → s ≡ t
        → (nat_lt a.level b.level || (a.level == b.level && (nat_lt a.until b.until || (a.until == b.until && s))))
        ≡ (nat_lt a.level b.level || (a.level == b.level && (nat_lt a.until b.until || (a.until == b.until && t))))
    ahead a b s t e =
        ap (λ (z : Bool). nat_lt a.level b.level
        || (a.level == b.level && (nat_lt a.until b.until || (a.until == b.until && z)))) e

-- a core before the first slot
module _ (sys : SystemView) (system : IsSystem sys) (budgets : List ℕ) (plan : IsPlan sys budgets) (c : ℕ) where
  abbrev passes : ℕ → Bool
  passes = is_child sys (Core c)

  abbrev places : List ℕ
  places = places_where passes (length sys.parts)

  abbrev fresh : List Account
  fresh = map (new_account sys budgets) places

  pub few_fresh : length fresh ≤ 512
  few_fresh =
      omega (
        arith,
        length-map places (new_account sys budgets),
        length-places_where passes (length sys.parts),
        count_below-le passes (length sys.parts),
        system.few_parts,
      )

  abbrev part : ℕ → ℕ
  part v = get_or places v 0

  place : (v : ℕ) → v < length fresh → IsPlace passes (length sys.parts) v (part v)
  place v l = is_place passes (length sys.parts) v 0 (omega (arith, l, length-map places (new_account sys budgets)))

  fresh_is : (v : ℕ) → v < length fresh → account_at fresh v ≡ new_account sys budgets (part v)
  fresh_is v l =
      get_or-map (new_account sys budgets) places v 0 no_account
      (omega (arith, l, length-map places (new_account sys budgets)))

  pub fresh_idle : NoneStarted fresh
  fresh_idle = record {
    started = λ v l. ap (λ (a : Account). a.started) (fresh_is v l);
    until = λ v l. ap (λ (a : Account). a.until) (fresh_is v l);
  }

  fresh_turn : InTurn fresh
  fresh_turn u v l lv =
      let lu : u < length fresh = omega (arith, l, lv) in
      elim (cases_lt (part u) (part v)) [
        | inl m ↦
            omega (
              arith,
              m,
              ap (λ (a : Account). a.part) (fresh_is u lu),
              ap (λ (a : Account). a.part) (fresh_is v lv),
            )
        | inr m ↦
            absurd (omega (
              arith,
              l,
              count_below-mono passes (part v) (part u) m,
              (place u lu).counted,
              (place v lv).counted,
            ))
      ]

  fresh_of : AreOf sys budgets c fresh
  fresh_of = record {
    parts = λ v l. omega (arith, ap (λ (a : Account). a.part) (fresh_is v l), (place v l).within);
    on_core =
        λ v l. ap (λ (a : Account). passes a.part) (fresh_is v l) ∙ (place v l).passes_it;
    numbers = λ v l.
        subst (λ (a : Account). HasNumbers sys budgets a.part a) (sym (fresh_is v l))
        (record { period_is = refl; budget_is = refl; extra_is = refl });
    all = λ q l child.
        let v : ℕ = count_below passes q in
        let in_it : v < length fresh
        = omega (
          arith,
          counted_below passes q (length sys.parts) l child,
          length-map places (new_account sys budgets),
          length-places_where passes (length sys.parts),
        ) in (
          v,
          record {
            is_vcpu = in_it;
            part_is =
                ap (λ (a : Account). a.part) (fresh_is v in_it) ∙ stands_at passes q (length sys.parts) 0 l child;
          },
        );
  }

  pub fresh_ready : IsReady 0 (new_core sys budgets c)
  fresh_ready = record {
    sound = λ v l.
        let in_it : part v < length sys.parts = (place v l).within in
        subst (IsSound 0) (sym (fresh_is v l))
        (record {
          numbers = record {
            some_period = (system.parts (part v) in_it).period.0;
            in_limit = (system.parts (part v) in_it).period.1;
            some_budget = plan.some_budget (part v) in_it;
          };
          few = omega arith;
          some_left = omega arith;
        });
    in_turn = fresh_turn;
    ends = λ v l. omega (arith, fresh_idle.until v l);
    holder = λ v e. absurd (none_some None v refl e);
  }

  pub fresh_on : (rows : List Row) (run : List (Option ℕ)) → AreOn sys budgets rows c run 0 0 fresh
  fresh_on rows run = record {
    of = fresh_of;
    each = λ v l. record {
      started =
          fresh_idle.started v l
          ∙ sym (ap is_some (last_below-zero (starts (account_at fresh v).part) (row_at rows)));
      blocked =
          ap (λ (a : Account). a.blocked) (fresh_is v l)
          ∙ sym (ap blocks (last_below-zero (is_of (account_at fresh v).part) (row_at rows)));
      in_period = λ on. absurd (false≢true (sym (fresh_idle.started v l) ∙ on));
    };
  }
