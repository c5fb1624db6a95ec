-- One event more, which keeps the rules.
use Rattle.std.proofs.Common.{◌≡◌, ℕ, suc, ◌<◌, ◌≤◌, Bool, true, false, not, cond, nat_lt, ◌||◌, List, [], ◌∷◌, ◌++◌, length, Option, None, refl, sym, ◌∙◌, ap, arith, subst, inl, inr, le-ltb}
use Rattle.std.proofs.lemmas.Bool.{cases_eq}
use Rattle.std.proofs.lemmas.List.{get_or_push, length_push}
use Rattle.csv_rows.proofs.Keeping.{fault_skipped}
use Rattle.trace_file.specs.declared.event.TheConstants.{LAST_MOMENT}
use Rattle.tree_model.specs.View.{SystemView}
use Rattle.trace_file.specs.declared.event.Event.{Event}
use Rattle.trace_file.specs.declared.fault.TraceFault.{TraceFault}
use Rattle.trace_file.specs.declared.fault.TraceFault.TheVariants.{AfterEnd}
use Rattle.trace_file.specs.Events.{event_at, is_start_of, is_change_of, is_end, is_block, switches, runner, has_ended, is_started, is_blocked, holder}
use Rattle.trace_file.specs.Rules.{row_of, fault_if, moment_before, named, is_known, stands_on, what_fault, event_fault, row_fault, RowsKeep, Kept}
use Rattle.trace_file.proofs.Prefix.{moment_same, ended_same, started_same, blocked_same, holder_same, what_same, rules_of, fault_same}
use Rattle.trace_file.proofs.After.{ended_next, started_next, blocked_next, holder_next}

module _ (sys : SystemView) (es : List Event) (e : Event) where
  abbrev more : List Event
  more = es ++ e ∷ []

  event_new : event_at more (length es) ≡ e
  event_new = get_or_push es e _ (length es) refl

  row_old : (i : ℕ) → i < length es → row_fault sys more i ≡ row_fault sys es i
  row_old i l =
      ap (λ (b : Bool). fault_if b (AfterEnd (row_of i)) (event_fault sys more i))
      (ended_same es (e ∷ []) i (omega arith))
      ∙ ap (λ (q : Option TraceFault). fault_if (has_ended es i) (AfterEnd (row_of i)) q)
      (fault_same sys es (e ∷ []) i l)

  -- an event that keeps the rules
  pub record Keeps : Type 0 where
    pub in_limit : e.at ≤ LAST_MOMENT
    pub in_time : moment_before es (length es) ≤ e.at
    pub known : is_known sys e.core e.what ≡ true
    pub on_core : stands_on sys e.core (named e.what) ≡ true
    pub may : what_fault es (length es) e.core e.what ≡ None

  row_new : has_ended es (length es) ≡ false → Keeps → row_fault sys more (length es) ≡ None
  row_new no_end k =
      let n : ℕ = length es in
      let late : n ≤ length es = omega arith in
      fault_skipped (has_ended more n) (AfterEnd (row_of n)) (event_fault sys more n)
      (ended_same es (e ∷ []) n late ∙ no_end)
      (ap (λ (z : Event). rules_of sys n z (moment_before more n) (what_fault more n z.core z.what)) event_new
      ∙ (ap (λ (m : ℕ). rules_of sys n e m (what_fault more n e.core e.what)) (moment_same es (e ∷ []) n late)
      ∙ (ap (rules_of sys n e (moment_before es n)) (what_same es (e ∷ []) n e.core e.what late)
      ∙ fault_skipped (nat_lt LAST_MOMENT e.at) _ _ (le-ltb LAST_MOMENT e.at k.in_limit)
      (fault_skipped (nat_lt e.at (moment_before es n)) _ _ (le-ltb e.at (moment_before es n) k.in_time)
      (fault_skipped (not (is_known sys e.core e.what)) _ _ (ap not k.known)
      (fault_skipped (not (stands_on sys e.core (named e.what))) _ _ (ap not k.on_core) k.may))))))

  rows_more : RowsKeep sys es (length es) → has_ended es (length es) ≡ false → Keeps → RowsKeep sys more (length more)
  rows_more old no_end k i l = elim (cases_eq i (length es)) [
    | inl q ↦ subst (λ (z : ℕ). row_fault sys more z ≡ None) (sym q) (row_new no_end k)
    | inr ne ↦ row_old i (omega (arith, length_push es e)) ∙ old i (omega (arith, length_push es e))
  ]

  long : length more ≡ suc (length es)
  long = omega (arith, length_push es e)

  pub started_more : (v : ℕ) → is_started more (length more) v ≡ (is_start_of v e.what || is_started es (length es) v)
  started_more v =
      ap (λ (n : ℕ). is_started more n v) long
      ∙ (started_next more (length es) v
      ∙ (ap (λ (z : Event). is_start_of v z.what || is_started more (length es) v) event_new
      ∙ ap (λ (b : Bool). is_start_of v e.what || b) (started_same es (e ∷ []) (length es) v (omega arith))))

  pub blocked_more : (v : ℕ)
      → is_blocked more (length more) v ≡ cond (is_change_of v e.what) (is_block e.what) (is_blocked es (length es) v)
  blocked_more v =
      ap (λ (n : ℕ). is_blocked more n v) long
      ∙ (blocked_next more (length es) v
      ∙ (ap (λ (z : Event). cond (is_change_of v z.what) (is_block z.what) (is_blocked more (length es) v))
      event_new
      ∙ ap (λ (b : Bool). cond (is_change_of v e.what) (is_block e.what) b)
      (blocked_same es (e ∷ []) (length es) v (omega arith))))

  pub holder_more : (c : ℕ)
      → holder more (length more) c ≡ cond (switches c e) (runner e.what) (holder es (length es) c)
  holder_more c =
      ap (λ (n : ℕ). holder more n c) long
      ∙ (holder_next more (length es) c
      ∙ (ap (λ (z : Event). cond (switches c z) (runner z.what) (holder more (length es) c)) event_new
      ∙ ap (λ (o : Option ℕ). cond (switches c e) (runner e.what) o)
      (holder_same es (e ∷ []) (length es) c (omega arith))))

  ended_more : has_ended more (length more) ≡ (is_end e.what || has_ended es (length es))
  ended_more =
      ap (λ (n : ℕ). has_ended more n) long
      ∙ (ended_next more (length es)
      ∙ (ap (λ (z : Event). is_end z.what || has_ended more (length es)) event_new
      ∙ ap (λ (b : Bool). is_end e.what || b) (ended_same es (e ∷ []) (length es) (omega arith))))

  moment_more : moment_before more (length more) ≡ e.at
  moment_more = ap (moment_before more) long ∙ ap (λ (z : Event). z.at) event_new

-- what some events leave behind: they keep the rules, no end came, and VCPUs and cores stand so
pub record After (sys : SystemView) (es : List Event) (moment : ℕ) (started blocked : ℕ → Bool) (held : ℕ → Option ℕ) :
    Type 0 where
  pub keep : RowsKeep sys es (length es)
  pub no_end : has_ended es (length es) ≡ false
  pub in_time : moment_before es (length es) ≤ moment
  pub started_is : (v : ℕ) → is_started es (length es) v ≡ started v
  pub blocked_is : (v : ℕ) → is_blocked es (length es) v ≡ blocked v
  pub held_is : (c : ℕ) → c < length sys.cores → holder es (length es) c ≡ held c

-- the same, said otherwise
pub after_same : (sys : SystemView) (es : List Event) (m n : ℕ) (s s' b b' : ℕ → Bool) (h h' : ℕ → Option ℕ) → m ≤ n
    → ((v : ℕ) → s v ≡ s' v) → ((v : ℕ) → b v ≡ b' v) → ((c : ℕ) → c < length sys.cores → h c ≡ h' c)
    → After sys es m s b h → After sys es n s' b' h'
after_same sys es m n s s' b b' h h' l es' eb eh a =
    record {
      keep = a.keep;
      no_end = a.no_end;
      in_time = omega (arith, a.in_time);
      started_is = λ v. a.started_is v ∙ es' v;
      blocked_is = λ v. a.blocked_is v ∙ eb v;
      held_is = λ c p. a.held_is c p ∙ eh c p;
    }

-- one event more
pub after_more : (sys : SystemView) (es : List Event) (m : ℕ) (s b : ℕ → Bool) (h : ℕ → Option ℕ) (e : Event)
    → After sys es m s b h → Keeps sys es e → is_end e.what ≡ false →
    After sys (es ++ e ∷ []) e.at (λ v. is_start_of v e.what || s v)
    (λ v. cond (is_change_of v e.what) (is_block e.what) (b v)) (λ c. cond (switches c e) (runner e.what) (h c))
after_more sys es m s b h e a k no_end = record {
  keep = rows_more sys es e a.keep a.no_end k;
  no_end = ended_more sys es e ∙ (ap (λ (q : Bool). q || has_ended es (length es)) no_end ∙ a.no_end);
  in_time = omega (arith, moment_more sys es e);
  started_is = λ v. started_more sys es e v ∙ ap (λ (q : Bool). is_start_of v e.what || q) (a.started_is v);
  blocked_is =
      λ v. blocked_more sys es e v
      ∙ ap (λ (q : Bool). cond (is_change_of v e.what) (is_block e.what) q) (a.blocked_is v);
  held_is =
      λ c l. holder_more sys es e c ∙ ap (λ (o : Option ℕ). cond (switches c e) (runner e.what) o) (a.held_is c l);
}

-- and the end
pub after_end : (sys : SystemView) (es : List Event) (m : ℕ) (s b : ℕ → Bool) (h : ℕ → Option ℕ) (e : Event)
    → After sys es m s b h → Keeps sys es e → is_end e.what ≡ true → Kept sys (es ++ e ∷ [])
after_end sys es m s b h e a k end =
    record {
      rows = rows_more sys es e a.keep a.no_end k;
      ended = ended_more sys es e ∙ ap (λ (q : Bool). q || has_ended es (length es)) end;
    }
