-- Each system, plan, workload and length has exactly one RTDS run.
use Rattle.std.proofs.Common.{◌≡◌, ◌≢◌, ℕ, zero, suc, ◌/◌, ◌<◌, ◌≤◌, Bool, true, false, cond, if◌then◌else◌, ◌&&◌, ◌||◌, nat_lt, leb, List, [], ◌∷◌, ◌++◌, map, length, ltb-true, Option, Some, None, refl, sym, ◌∙◌, ap, arith, subst, inl, inr}
use Rattle.std.specs.List.{range_with_len}
use Rattle.std.proofs.lemmas.Bool.{cases_eq, cases_Bool, both_ways, and_parts}
use Rattle.std.proofs.lemmas.List.{ext_get_or, get_or_append_left, get_or_push, length_push}
use Rattle.std.proofs.lemmas.List.FromFn.{length-map-range_with_len, get_or-map-range_with_len}
use Rattle.std.proofs.lemmas.Option.{same_Some}
use Rattle.slot_model.specs.Run.{held, holds}
use Rattle.slot_model.proofs.FirstRuns.{none_some}
use Rattle.slot_model.proofs.Sums.{sum_below-same}
use Rattle.tree_model.specs.declared.place.Place.TheVariants.{Core}
use Rattle.tree_model.specs.View.{SystemView}
use Rattle.tree_model.specs.System.{part_at}
use Rattle.tree_model.specs.Tree.{is_child, budget_at, run_at}
use Rattle.release_file.specs.declared.workload.Wake.{Wake}
use Rattle.rtds_model.specs.Rtds.{used, level_at, deadline_at, period_from, can_run, is_eligible, goes_before, RtdsEntry, CoreRun, RtdsRun}
use Rattle.rtds_queues.specs.Keys.{goes_first}
use Rattle.rtds_queues.proofs.Order.{first_itself, first_total, first_in_turn}

-- two runs that agree below x
pub Agree : List (Option ℕ) → List (Option ℕ) → ℕ → Type 0
Agree run other x = (y : ℕ) → y < x → held run y ≡ held other y

module _ (sys : SystemView) (budgets : List ℕ) (rows : List Wake) where
  used_agree : (run other : List (Option ℕ)) (v x : ℕ) → Agree run other x
      → used sys rows run v x ≡ used sys rows other v x
  unfolding Agree
  used_agree run other v x h =
      sum_below-same (λ y. cond (leb (period_from sys rows v x) y && holds (held run y) v) 1 0)
      (λ y. cond (leb (period_from sys rows v x) y && holds (held other y) v) 1 0) x
      (λ y l. ap (λ (o : Option ℕ). cond {A = ℕ} (leb (period_from sys rows v x) y && holds o v) 1 0) (h y l))

  eligible_agree : (c : ℕ) (run other : List (Option ℕ)) (v x : ℕ) → Agree run other x
      → is_eligible sys budgets rows c run v x ≡ is_eligible sys budgets rows c other v x
  eligible_agree c run other v x h =
      ap (λ (g : ℕ). can_run sys rows c v x && (nat_lt g (budget_at budgets v) || (part_at sys v).extra))
      (used_agree run other v x h)

  -- which goes first, by what they had
  abbrev by_used : ℕ → ℕ → ℕ → ℕ → ℕ → Bool
  by_used u v x g k =
      goes_first (g / budget_at budgets u) (deadline_at sys rows u x) u (k / budget_at budgets v)
      (deadline_at sys rows v x) v

  before_agree : (run other : List (Option ℕ)) (u v x : ℕ) → Agree run other x
      → goes_before sys budgets rows run x u v ≡ goes_before sys budgets rows other x u v
  before_agree run other u v x h =
      ap (λ (g : ℕ). by_used u v x g (used sys rows run v x)) (used_agree run other u x h)
      ∙ ap (λ (g : ℕ). by_used u v x (used sys rows other u x) g) (used_agree run other v x h)

  -- an entry depends on the run below its slot alone
  pub entry_agree : (c : ℕ) (run other : List (Option ℕ)) (x : ℕ) → Agree run other x → (o : Option ℕ)
      → RtdsEntry sys budgets rows c run x o → RtdsEntry sys budgets rows c other x o
  entry_agree c run other x h o e = record {
    idle = λ q v. sym (eligible_agree c run other v x h) ∙ e.idle q v;
    named = λ v q. sym (eligible_agree c run other v x h) ∙ e.named v q;
    first = λ u v q r. sym (before_agree run other u v x h) ∙ e.first u v q (eligible_agree c run other u x h ∙ r);
  }

  -- the order of the VCPUs of a core at a slot is strict and total
  pub before_itself : (run : List (Option ℕ)) (x v : ℕ) → goes_before sys budgets rows run x v v ≡ false
  before_itself run x v = first_itself (level_at sys budgets rows run v x) (deadline_at sys rows v x) v

  pub before_total : (run : List (Option ℕ)) (x u v : ℕ) → u ≢ v → goes_before sys budgets rows run x u v ≡ false
      → goes_before sys budgets rows run x v u ≡ true
  before_total run x u v ne h =
      first_total (level_at sys budgets rows run u x) (deadline_at sys rows u x) u (level_at sys budgets rows run v x)
      (deadline_at sys rows v x) v ne h

  pub before_in_turn : (run : List (Option ℕ)) (x u w v : ℕ) → goes_before sys budgets rows run x u w ≡ false
      → goes_before sys budgets rows run x v w ≡ true → goes_before sys budgets rows run x u v ≡ false
  before_in_turn run x u w v h g =
      first_in_turn (level_at sys budgets rows run u x) (deadline_at sys rows u x) u (level_at sys budgets rows run w x)
      (deadline_at sys rows w x) w (level_at sys budgets rows run v x) (deadline_at sys rows v x) v h g

  -- there is one entry
  pub entry_unique : (c : ℕ) (run : List (Option ℕ)) (x : ℕ) (o p : Option ℕ) → RtdsEntry sys budgets rows c run x o
      → RtdsEntry sys budgets rows c run x p → o ≡ p
  entry_unique c run x None None e f = refl
  entry_unique c run x None (Some v) e f = absurd (both_ways _ (e.idle refl v) (f.named v refl))
  entry_unique c run x (Some u) None e f = absurd (both_ways _ (f.idle refl u) (e.named u refl))
  entry_unique c run x (Some u) (Some v) e f = elim (cases_eq u v) [
    | inl q ↦ ap Some q
    | inr ne ↦
        absurd (both_ways _ (e.first v u refl (f.named v refl))
        (before_total run x u v ne (f.first u v refl (e.named u refl))))
  ]

  agree_up : (n c : ℕ) (run other : List (Option ℕ)) → CoreRun sys budgets rows n c run
      → CoreRun sys budgets rows n c other → (x : ℕ) → x ≤ n → Agree run other x
  unfolding Agree
  agree_up n c run other a b zero l y m = absurd (omega arith)
  agree_up n c run other a b (suc x) l y m = elim (cases_eq y x) [
    | inr ne ↦ agree_up n c run other a b x (omega arith) y (omega arith)
    | inl e ↦
        subst (λ (z : ℕ). held run z ≡ held other z) (sym e) (entry_unique c other x (held run x) (held other x)
        (entry_agree c run other x (agree_up n c run other a b x (omega arith)) (held run x) (a.each x l))
        (b.each x l))
  ]

  -- there is one run of a core, and one of the system
  pub core_unique : (n c : ℕ) (run other : List (Option ℕ)) → CoreRun sys budgets rows n c run
      → CoreRun sys budgets rows n c other → run ≡ other
  unfolding Agree
  core_unique n c run other a b =
      ext_get_or None run other (a.long ∙ sym b.long)
      (λ i l. agree_up n c run other a b n (omega arith) i (omega (arith, a.long)))

  pub rtds_unique : (n : ℕ) (runs others : List (List (Option ℕ))) → RtdsRun sys budgets rows n runs
      → RtdsRun sys budgets rows n others → runs ≡ others
  rtds_unique n runs others a b =
      ext_get_or [] runs others (a.one_each ∙ sym b.one_each) (λ c l. core_unique n c (run_at runs c) (run_at others c)
      (a.cores c (omega (arith, a.one_each))) (b.cores c (omega (arith, a.one_each))))

  -- the choice among the first n parts
  unfoldable pub better : ℕ → List (Option ℕ) → ℕ → Option ℕ → ℕ → Option ℕ
  better c run x None v = if is_eligible sys budgets rows c run v x then Some v else None
  better c run x (Some u) v =
      if is_eligible sys budgets rows c run v x && goes_before sys budgets rows run x v u then Some v else Some u

  unfoldable pub choice : ℕ → List (Option ℕ) → ℕ → ℕ → Option ℕ
  choice c run x zero = None
  choice c run x (suc v) = better c run x (choice c run x v) v

  -- the entry, as far as the first n parts go
  pub record EntryTo (c : ℕ) (run : List (Option ℕ)) (x n : ℕ) (entry : Option ℕ) : Type 0 where
    pub idle : entry ≡ None → (v : ℕ) → v < n → is_eligible sys budgets rows c run v x ≡ false
    pub named : (v : ℕ) → entry ≡ Some v → is_eligible sys budgets rows c run v x ≡ true
    pub first : (u v : ℕ) → entry ≡ Some v → u < n → is_eligible sys budgets rows c run u x ≡ true
        → goes_before sys budgets rows run x u v ≡ false

  entry_step : (c : ℕ) (run : List (Option ℕ)) (x n : ℕ) (o : Option ℕ) → EntryTo c run x n o → (v : Bool)
      → is_eligible sys budgets rows c run n x ≡ v → EntryTo c run x (suc n) (better c run x o n)
  unfolding better
  entry_step c run x n None h true e =
      subst (EntryTo c run x (suc n)) (sym (ap (λ (b : Bool). cond b (Some n) None) e)) (record {
        idle = λ q. absurd (none_some (Some n) n q refl);
        named = λ v q. subst (λ (z : ℕ). is_eligible sys budgets rows c run z x ≡ true) (same_Some n v q) e;
        first = λ u v q l r. elim (cases_eq u n) [
          | inl same ↦
              subst (λ (z : ℕ). goes_before sys budgets rows run x u z ≡ false) (same_Some n v q)
              (subst (λ (z : ℕ). goes_before sys budgets rows run x z n ≡ false) (sym same) (before_itself run x n))
          | inr ne ↦ absurd (both_ways _ (h.idle refl u (omega arith)) r)
        ];
      })
  entry_step c run x n None h false e =
      subst (EntryTo c run x (suc n)) (sym (ap (λ (b : Bool). cond b (Some n) None) e)) (record {
        idle =
            λ q v l. elim (cases_eq v n) [
              | inl same ↦
                  subst (λ (z : ℕ). is_eligible sys budgets rows c run z x ≡ false) (sym same) e
              | inr ne ↦
                  h.idle refl v (omega arith)
            ];
        named = λ v q. absurd (none_some None v refl q);
        first = λ u v q. absurd (none_some None v refl q);
      })
  entry_step c run x n (Some w) h v e =
      elim (cases_Bool (is_eligible sys budgets rows c run n x && goes_before sys budgets rows run x n w)) [
        | inl b ↦ subst (EntryTo c run x (suc n)) (sym (ap (λ (b : Bool). cond b (Some n) (Some w)) b)) (record {
          idle = λ q. absurd (none_some (Some n) n q refl);
          named =
              λ v q. subst (λ (z : ℕ). is_eligible sys budgets rows c run z x ≡ true) (same_Some n v q)
              (and_parts _ _ b).0;
          first =
              λ u v q l r. subst (λ (z : ℕ). goes_before sys budgets rows run x u z ≡ false) (same_Some n v q)
              (elim (cases_eq u n) [
                | inl same ↦
                    subst (λ (z : ℕ). goes_before sys budgets rows run x z n ≡ false) (sym same) (before_itself run x n)
                | inr ne ↦ before_in_turn run x u w n (h.first u w refl (omega arith) r) (and_parts _ _ b).1
              ]);
        })
        | inr b ↦ subst (EntryTo c run x (suc n)) (sym (ap (λ (b : Bool). cond b (Some n) (Some w)) b)) (record {
          idle = λ q. absurd (none_some (Some w) w q refl);
          named =
              λ v q. subst (λ (z : ℕ). is_eligible sys budgets rows c run z x ≡ true) (same_Some w v q)
              (h.named w refl);
          first =
              λ u v q l r. subst (λ (z : ℕ). goes_before sys budgets rows run x u z ≡ false) (same_Some w v q)
              (elim (cases_eq u n) [
                | inl same ↦
                    subst (λ (z : ℕ). goes_before sys budgets rows run x z w ≡ false) (sym same)
                    (other_false (is_eligible sys budgets rows c run n x) (goes_before sys budgets rows run x n w) b
                    (subst (λ (z : ℕ). is_eligible sys budgets rows c run z x ≡ true) same r))
                | inr ne ↦ h.first u w refl (omega arith) r
              ]);
        })
      ]
    where
      other_false : (a b : Bool) → (a && b) ≡ false → a ≡ true → b ≡ false
      other_false true b e f = e
      other_false false b e f = cc

  choice_is : (c : ℕ) (run : List (Option ℕ)) (x n : ℕ) → EntryTo c run x n (choice c run x n)
  unfolding choice
  choice_is c run x zero =
      record {
        idle = λ q v l. absurd (omega arith);
        named = λ v q. absurd (none_some None v refl q);
        first = λ u v q. absurd (none_some None v refl q);
      }
  choice_is c run x (suc n) =
      entry_step c run x n (choice c run x n) (choice_is c run x n) (is_eligible sys budgets rows c run n x) refl

  -- what is eligible is a part
  pub eligible_runs : (c : ℕ) (run : List (Option ℕ)) (v x : ℕ) → is_eligible sys budgets rows c run v x ≡ true
      → can_run sys rows c v x ≡ true
  eligible_runs c run v x h = (and_parts (can_run sys rows c v x) _ h).0

  pub runs_part : (c v x : ℕ) → can_run sys rows c v x ≡ true → v < length sys.parts
  runs_part c v x h =
      ltb-true _ _ (and_parts (nat_lt v (length sys.parts)) _
      (and_parts (nat_lt v (length sys.parts) && is_child sys (Core c) v) _ h).0).0

  pub eligible_part : (c : ℕ) (run : List (Option ℕ)) (v x : ℕ) → is_eligible sys budgets rows c run v x ≡ true
      → v < length sys.parts
  eligible_part c run v x h = runs_part c v x (eligible_runs c run v x h)

  pub entry_exists : (c : ℕ) (run : List (Option ℕ)) (x : ℕ)
      → RtdsEntry sys budgets rows c run x (choice c run x (length sys.parts))
  entry_exists c run x =
      let h : EntryTo c run x (length sys.parts) (choice c run x (length sys.parts))
      = choice_is c run x (length sys.parts) in
      record {
        idle =
            λ q v. elim (cases_Bool (is_eligible sys budgets rows c run v x))
            [ inr e ↦ e | inl e ↦ absurd (both_ways _ (h.idle q v (eligible_part c run v x e)) e) ];
        named = h.named;
        first = λ u v q r. h.first u v q (eligible_part c run u x r) r;
      }

  -- the run of core c over n slots
  pub core_run : ℕ → ℕ → List (Option ℕ)
  core_run c zero = []
  core_run c (suc n) = core_run c n ++ choice c (core_run c n) n (length sys.parts) ∷ []

  core_run-long : (c n : ℕ) → length (core_run c n) ≡ n
  unfolding core_run
  core_run-long c zero = refl
  core_run-long c (suc n) =
      omega (arith, length_push (core_run c n) (choice c (core_run c n) n (length sys.parts)), core_run-long c n)

  core_run-at : (c n y : ℕ) → y < n → held (core_run c n) y ≡ choice c (core_run c y) y (length sys.parts)
  unfolding core_run
  core_run-at c zero y l = absurd (omega arith)
  core_run-at c (suc n) y l = elim (cases_eq y n) [
    | inl e ↦
        subst (λ (z : ℕ). held (core_run c n ++ choice c (core_run c n) n (length sys.parts) ∷ []) z
        ≡ choice c (core_run c z) z (length sys.parts)) (sym e)
        (get_or_push (core_run c n) (choice c (core_run c n) n (length sys.parts)) None n (core_run-long c n))
    | inr ne ↦
        get_or_append_left (core_run c n) (choice c (core_run c n) n (length sys.parts) ∷ []) None y
        (omega (arith, core_run-long c n)) ∙ core_run-at c n y (omega arith)
  ]

  core_run-is : (n c : ℕ) → CoreRun sys budgets rows n c (core_run c n)
  unfolding Agree
  core_run-is n c = record {
    long = core_run-long c n;
    each =
        λ x l. entry_agree c (core_run c x) (core_run c n) x
        (λ y m. core_run-at c x y m ∙ sym (core_run-at c n y (omega arith))) (held (core_run c n) x)
        (subst (RtdsEntry sys budgets rows c (core_run c x) x) (sym (core_run-at c n x l))
        (entry_exists c (core_run c x) x));
  }

  -- the run of the system
  pub rtds_run : ℕ → List (List (Option ℕ))
  rtds_run n = map (λ c. core_run c n) (range_with_len 0 (length sys.cores))

  pub rtds_run-is : (n : ℕ) → RtdsRun sys budgets rows n (rtds_run n)
  unfolding rtds_run
  rtds_run-is n = record {
    one_each = length-map-range_with_len (λ c. core_run c n) 0 (length sys.cores);
    cores =
        λ c l. subst (CoreRun sys budgets rows n c)
        (sym (get_or-map-range_with_len (λ c. core_run c n) 0 (length sys.cores) c c [] l (omega arith)))
        (core_run-is n c);
  }

  -- a list is the run of a core where the choice at each slot is what it holds
  unfoldable pub chosen : ℕ → List (Option ℕ) → List (Option ℕ)
  chosen c run = map (λ x. choice c run x (length sys.parts)) (range_with_len 0 (length run))

  pub is_run : (c : ℕ) (run : List (Option ℕ)) → chosen c run ≡ run → CoreRun sys budgets rows (length run) c run
  unfolding chosen
  is_run c run same = record {
    long = refl;
    each = λ x l.
        subst (RtdsEntry sys budgets rows c run x)
        (sym (get_or-map-range_with_len (λ x. choice c run x (length sys.parts)) 0 (length run) x x None l
        (omega arith)) ∙ ap (λ (r : List (Option ℕ)). held r x) same)
        (entry_exists c run x);
  }
