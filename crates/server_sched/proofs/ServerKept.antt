-- What is kept of a level is kept of a node with some spans, and is so once a child has run.
use Rattle.std.proofs.Common.{◌≡◌, ◌≢◌, ◌⊎◌, ℕ, zero, suc, ◌+◌, ◌-◌, ◌<◌, ◌≤◌, List, [], ◌∷◌, ◌++◌, length, replicate, set, Option, Some, None, refl, sym, ◌∙◌, ap, arith, subst, inl, inr, append_assoc, append-nil, length-set, get_or-set_same, get_or-set_other}
use Rattle.std.proofs.lemmas.Bool.{cases_eq}
use Rattle.std.proofs.lemmas.List.{get_or-map, length-map, get_or_append_left, get_or_push, length_push}
use Rattle.std.proofs.lemmas.List.Concat.{flat_map-append}
use Rattle.std.proofs.lemmas.Option.{same_Some}
use Rattle.slot_model.specs.declared.job.Job.{Job}
use Rattle.slot_model.specs.declared.sched.Sched.{Sched}
use Rattle.slot_model.specs.Task.{SporadicTask, default_task}
use Rattle.slot_model.specs.Slots.{places_where}
use Rattle.slot_model.specs.Order.{before_of}
use Rattle.slot_model.specs.Release.{synchronous}
use Rattle.slot_model.specs.Run.{guest, server, FirstRun}
use Rattle.guest_sched.specs.declared.spans.Span.{Span}
use Rattle.guest_sched.specs.Spans.{Window, AreSpans, span_at, entries_of, end_of, run_of, slots_of}
use Rattle.guest_sched.proofs.SpanByOne.{no_spans}
use Rattle.guest_sched.proofs.Grown.{grown_spans, grown_run}
use Rattle.tree_model.specs.declared.place.Place.{Place}
use Rattle.tree_model.specs.View.{SystemView}
use Rattle.tree_model.specs.Tree.{server_task, server_tasks, is_child}
use Rattle.span_counts.specs.declared.counts.Counts.{Counts}
use Rattle.span_counts.specs.Counts.{AreCounts}
use Rattle.tree_spans.specs.NodeView.{NodeView}
use Rattle.tree_spans.specs.Shares.{AreShares, share_at}
use Rattle.tree_spans.specs.KeptNodes.{IsKeptOf}
use Rattle.server_sched.specs.inner.Kept.{KeptView, IsStillKept}
use Rattle.tree_spans.specs.Levels.{IsServerLevel, IsGuestLevel}
use Rattle.server_sched.specs.inner.Serving.{IsServerTask, AreServerTasks, IsServed}
use Rattle.tree_spans.proofs.Nodes.{run_long}

-- servers release as their jobs arrive, and are due at the end of their period
pub are_servers : (sys : SystemView) (budgets : List ℕ) (place : Place)
    → AreServerTasks (server_tasks sys budgets place)
are_servers sys budgets place i l =
    let places = places_where (is_child sys place) (length sys.parts) in
    subst IsServerTask (sym (get_or-map (server_task sys budgets) places i 0 default_task
    (omega (arith, l, length-map places (server_task sys budgets)))))
    (record { prompt = refl; to_period = refl })

-- each run has its spans
same_option : (a b : Option ℕ) → (a ≡ b) ⊎ (a ≢ b)
same_option None None = inl refl
same_option None (Some b) = inr (λ e. absurd (cc))
same_option (Some a) None = inr (λ e. absurd (cc))
same_option (Some a) (Some b) =
    elim (cases_eq a b) [ inl e ↦ inl (ap (λ (z : ℕ). Some z) e) | inr ne ↦ inr (λ e. ne (same_Some a b e)) ]

record SpansTo (run : List (Option ℕ)) (n : ℕ) : Type 0 where
  spans : List Span
  are : AreSpans spans n
  same : run_of spans ≡ run

one_span : ℕ → Option ℕ → Span
one_span n o = record { from = n; until = suc n; job = o }

entries_one : (n : ℕ) (o : Option ℕ) → entries_of (one_span n o) ≡ o ∷ []
unfolding one_span
entries_one n o = ap (λ (k : ℕ). replicate k o) (let e : suc n - n ≡ 1 = omega arith in e)

pushed_spans : (spans : List Span) (n : ℕ) (o : Option ℕ) → AreSpans spans n
    → ((i : ℕ) → suc i ≡ length spans → (span_at spans i).job ≢ o) → AreSpans (spans ++ one_span n o ∷ []) (suc n)
unfolding one_span
pushed_spans spans n o h differs =
    let new = spans ++ one_span n o ∷ [] in
    let old : (i : ℕ) → i < length spans → span_at new i ≡ span_at spans i
    = λ i l. get_or_append_left spans (one_span n o ∷ []) (record { from = 0; until = 0; job = None }) i l in
    let last : (i : ℕ) → length spans ≡ i → span_at new i ≡ one_span n o
    = λ i e. get_or_push spans (one_span n o) (record { from = 0; until = 0; job = None }) i e in
    let ends : (i : ℕ) → i ≤ length spans → end_of new i ≡ end_of spans i = λ i l. go spans n o i l old in
    record {
      some = λ i l. elim (cases_eq i (length spans)) [
        | inl e ↦ subst (λ (s : Span). s.from < s.until) (sym (last i (sym e))) (omega arith)
        | inr ne ↦
            subst (λ (s : Span). s.from < s.until) (sym (old i (omega (arith, length_push spans (one_span n o)))))
            (h.some i (omega (arith, length_push spans (one_span n o))))
      ];
      join = λ i l. elim (cases_eq i (length spans)) [
        | inl e ↦
            ap (λ (s : Span). s.from) (last i (sym e))
            ∙ (sym h.whole ∙ (ap (end_of spans) (sym e) ∙ sym (ends i (omega arith))))
        | inr ne ↦
            ap (λ (s : Span). s.from) (old i (omega (arith, length_push spans (one_span n o))))
            ∙ (h.join i (omega (arith, length_push spans (one_span n o)))
            ∙ sym (ends i (omega (arith, length_push spans (one_span n o)))))
      ];
      whole =
          ap (end_of new)
          (let e : length new ≡ suc (length spans) = omega (arith, length_push spans (one_span n o)) in e)
          ∙ ap (λ (s : Span). s.until) (last (length spans) refl);
      change = λ i l. elim (cases_eq (i + 1) (length spans)) [
        | inl e ↦
            λ q. differs i (omega arith) (ap (λ (s : Span). s.job) (sym (old i (omega arith)))
            ∙ (q ∙ ap (λ (s : Span). s.job) (last (i + 1) (sym e))))
        | inr ne ↦
            λ q. h.change i (omega (arith, length_push spans (one_span n o)))
            (ap (λ (s : Span). s.job) (sym (old i (omega (arith, length_push spans (one_span n o)))))
            ∙ (q ∙ ap (λ (s : Span). s.job) (old (i + 1) (omega (arith, length_push spans (one_span n o))))))
      ];
    }
  where
    go : (ss : List Span) (m : ℕ) (v : Option ℕ) (i : ℕ) → i ≤ length ss
        → ((k : ℕ) → k < length ss → span_at (ss ++ one_span m v ∷ []) k ≡ span_at ss k)
        → end_of (ss ++ one_span m v ∷ []) i ≡ end_of ss i
    go ss m v zero l same = refl
    go ss m v (suc i) l same = ap (λ (s : Span). s.until) (same i (omega arith))

one_entry : (spans : List Span) (n : ℕ) (o : Option ℕ) → AreSpans spans n → SpansTo (run_of spans ++ o ∷ []) (suc n)
one_entry [] n o h = record {
  spans = [] ++ one_span n o ∷ [];
  are = pushed_spans [] n o h (λ i e. absurd (omega arith));
  same = append-nil (entries_of (one_span n o)) ∙ entries_one n o;
}
one_entry (s ∷ rest) n o h =
    let spans = s ∷ rest in
    let i = length rest in
    let ends : (span_at spans i).until ≡ n = h.whole in
    elim (same_option (span_at spans i).job o) [
      | inl e ↦ record {
        spans = set spans i (record (span_at spans i) { until = suc n });
        are = grown_spans spans i n (suc n) refl h (omega arith);
        same =
            grown_run spans i (suc n) refl (omega (arith, h.some i (omega arith))) (omega (arith, ends))
            ∙ (ap (λ (k : ℕ). run_of spans ++ replicate k (span_at spans i).job)
            (let one : suc n - (span_at spans i).until ≡ 1 = omega (arith, ends) in one)
            ∙ ap (λ (v : Option ℕ). run_of spans ++ v ∷ []) e);
      }
      | inr ne ↦ record {
        spans = spans ++ one_span n o ∷ [];
        are =
            pushed_spans spans n o h
            (λ k q e. ne (ap (λ (z : ℕ). (span_at spans z).job) (let same : i ≡ k = omega (arith, q) in same) ∙ e));
        same =
            flat_map-append entries_of spans (one_span n o ∷ [])
            ∙ ap (λ (v : List (Option ℕ)). run_of spans ++ v)
            (append-nil (entries_of (one_span n o)) ∙ entries_one n o);
      }
    ]

more_entries : (spans : List Span) (n : ℕ) (more : List (Option ℕ)) → AreSpans spans n
    → SpansTo (run_of spans ++ more) (n + length more)
more_entries spans n [] h =
    record {
      spans = spans;
      are = subst (AreSpans spans) (let e : n ≡ n + 0 = omega arith in e) h;
      same = sym (append-nil (run_of spans));
    }
more_entries spans n (o ∷ more) h =
    let one = one_entry spans n o h in
    let all = more_entries one.spans (suc n) more one.are in
    record {
      spans = all.spans;
      are = subst (AreSpans all.spans) (let e : suc n + length more ≡ n + suc (length more) = omega arith in e) all.are;
      same = all.same ∙ (ap (λ (v : List (Option ℕ)). v ++ more) one.same ∙ append_assoc (run_of spans) (o ∷ []) more);
    }

spans_for : (run : List (Option ℕ)) → SpansTo run (length run)
spans_for run =
    subst (SpansTo run) (let e : 0 + length run ≡ length run = omega arith in e) (more_entries [] 0 run no_spans)

-- what is kept of a level is kept of a node
pub server_kept : (sched : Sched) (T : List SporadicTask) (given : List Window) (n : ℕ) (kept : KeptView)
    → IsServed sched T given n kept → IsKeptOf IsStillKept (IsServerLevel sched T given n) kept
server_kept sched T given n kept h =
    let jobs = synchronous T 0 n in
    let s = spans_for h.run in
    let long : length h.run ≡ n = run_long server (before_of sched T) T jobs given n h.run h.first in
    record {
      node = record { spans = s.spans; shares = kept.shares; counts = kept.counts };
      is_node = record {
        spans = subst (AreSpans s.spans) long s.are;
        first =
            subst (λ (r : List (Option ℕ)). FirstRun server (before_of sched T) T jobs (slots_of given n) r)
            (sym s.same) h.first;
        shares =
            subst (λ (r : List (Option ℕ)). AreShares jobs r n (length T) kept.shares) (sym s.same) h.shares;
        counts =
            subst (λ (r : List (Option ℕ)). AreCounts T jobs (slots_of given n) r kept.counts) (sym s.same) h.counts;
      };
      kept = record { counts = refl; one_each = refl; later = λ m l. refl; gone = λ m l. absurd (omega (arith, l)) };
    }

-- and so is what is counted of a run of a leaf's jobs
pub guests_kept : (sched : Sched) (T : List SporadicTask) (jobs : List Job) (given : List Window) (n : ℕ)
    (counts : Counts) (run : List (Option ℕ)) → FirstRun guest (before_of sched T) T jobs (slots_of given n) run
    → AreCounts T jobs (slots_of given n) run counts
    → IsKeptOf IsStillKept (IsGuestLevel sched T jobs given n) (record { shares = []; counts = counts })
guests_kept sched T jobs given n counts run first counted =
    let s = spans_for run in
    let long : length run ≡ n = run_long guest (before_of sched T) T jobs given n run first in
    record {
      node = record { spans = s.spans; shares = []; counts = counts };
      is_node = record {
        spans = subst (AreSpans s.spans) long s.are;
        first =
            subst (λ (r : List (Option ℕ)). FirstRun guest (before_of sched T) T jobs (slots_of given n) r)
            (sym s.same) first;
        no_shares = refl;
        counts = subst (λ (r : List (Option ℕ)). AreCounts T jobs (slots_of given n) r counts) (sym s.same) counted;
      };
      kept = record { counts = refl; one_each = refl; later = λ m l. refl; gone = λ m l. absurd (omega (arith, l)) };
    }

-- once one child more has run
pub still_kept : (kept : KeptView) (node : NodeView) (k : ℕ) → IsStillKept kept node k → k < length kept.shares
    → IsStillKept (record kept { shares = set kept.shares k [] }) node (k + 1)
still_kept kept node k h there = record {
  counts = h.counts;
  one_each = length-set kept.shares k [] ∙ h.one_each;
  later =
      λ m l. get_or-set_other kept.shares k m [] [] (λ e. absurd (omega (arith, l, e)))
      ∙ h.later m (omega (arith, l));
  gone = λ m l. elim (cases_eq m k) [
    | inl now ↦
        subst (λ (z : ℕ). share_at (set kept.shares k []) z ≡ []) (sym now)
        (get_or-set_same kept.shares k [] [] there)
    | inr ne ↦ get_or-set_other kept.shares k m [] [] (λ e. absurd (omega (arith, ne, e))) ∙ h.gone m (omega (arith, l))
  ];
}
