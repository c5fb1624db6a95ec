-- Tallies of periods, and what more periods do to one.
use Rattle.std.proofs.Common.{◌≡◌, ℕ, suc, ◌+◌, ◌<◌, ◌≤◌, ◌⊎◌, Bool, true, false, cond, Option, Some, None, refl, sym, ◌∙◌, ap, subst, arith, inl, inr}
use Rattle.std.proofs.lemmas.Bool.{cases_lt, lt-ltb, le-ltb}
use Rattle.slot_model.specs.Slots.{sum_below, count_below}
use Rattle.slot_model.proofs.Counts.{count_same, count_stretch, count_all}
use Rattle.slot_model.proofs.Runs.{count_below-le}
use Rattle.vcpu_watch.specs.declared.tally.Tally.{Tally}
use Rattle.vcpu_watch.specs.declared.watch.Breach.{Breach}
use Rattle.vcpu_watch.specs.Numbers.{IsNumberOf, IsLeast, IsLeastOf, IsMost, IsMostOf}
use Rattle.vcpu_watch.specs.Watch.{is_short_breach, is_over_breach, lesser, greater, least_if, counted, AreAtMost, IsTimeBelow, IsTallied, no_tally}

pub count_true : (n : ℕ) → count_below (λ _. true) n ≡ n
count_true n = count_all (λ _. true) n (λ _ _. refl)

-- no number has a property
pub none_has : (has : ℕ → Type 0) → ((k : ℕ) → has k → ⊥) → IsNumberOf has 0
none_has has never =
    record {
      test = λ _. true;
      limit = 0;
      have = λ k l _. absurd (omega arith);
      pass = λ k is. absurd (never k is);
      count = sym (count_true 0);
    }

-- the least and the greatest of numbers that have one property or another that comes to the same
pub least_same : (has other : ℕ → Type 0) (o : Option ℕ) → ((x : ℕ) → has x → other x) → ((x : ℕ) → other x → has x)
    → IsLeastOf has o → IsLeastOf other o
least_same has other None to back h = λ x is. h x (back x is)
least_same has other (Some x) to back h = record { is = to x h.is; least = λ y is. h.least y (back y is) }

pub most_same : (has other : ℕ → Type 0) (o : Option ℕ) → ((x : ℕ) → has x → other x) → ((x : ℕ) → other x → has x)
    → IsMostOf has o → IsMostOf other o
most_same has other None to back h = λ x is. h x (back x is)
most_same has other (Some x) to back h = record { is = to x h.is; most = λ y is. h.most y (back y is) }

-- and where one number more has it
least_more : (has other : ℕ → Type 0) (o : Option ℕ) (g : ℕ) → other g → ((x : ℕ) → has x → other x)
    → ((x : ℕ) → other x → has x ⊎ (x ≡ g)) → IsLeastOf has o → IsLeast other (lesser o g)
least_more has other None g own to back h =
    record { is = own; least = λ y is. elim (back y is) [ inl old ↦ absurd (h y old) | inr e ↦ omega (arith, e) ] }
least_more has other (Some x) g own to back h = elim (cases_lt g x) [
  | inl l ↦
      subst (IsLeast other) (ap (λ (z : Bool). cond {A = ℕ} z g x) (sym (lt-ltb g x l)))
      (record {
        is = own;
        least =
            λ y is. elim (back y is) [ inl old ↦ omega (arith, l, h.least y old) | inr e ↦ omega (arith, e) ];
      })
  | inr l ↦
      subst (IsLeast other) (ap (λ (z : Bool). cond {A = ℕ} z g x) (sym (le-ltb g x l)))
      (record {
        is = to x h.is;
        least = λ y is. elim (back y is) [ inl old ↦ h.least y old | inr e ↦ omega (arith, l, e) ];
      })
]

most_more : (has other : ℕ → Type 0) (o : Option ℕ) (g : ℕ) → other g → ((x : ℕ) → has x → other x)
    → ((x : ℕ) → other x → has x ⊎ (x ≡ g)) → IsMostOf has o → IsMost other (greater o g)
most_more has other None g own to back h =
    record { is = own; most = λ y is. elim (back y is) [ inl old ↦ absurd (h y old) | inr e ↦ omega (arith, e) ] }
most_more has other (Some x) g own to back h = elim (cases_lt x g) [
  | inl l ↦
      subst (IsMost other) (ap (λ (z : Bool). cond {A = ℕ} z g x) (sym (lt-ltb x g l)))
      (record {
        is = own;
        most = λ y is. elim (back y is) [ inl old ↦ omega (arith, l, h.most y old) | inr e ↦ omega (arith, e) ];
      })
  | inr l ↦
      subst (IsMost other) (ap (λ (z : Bool). cond {A = ℕ} z g x) (sym (le-ltb x g l)))
      (record {
        is = to x h.is;
        most = λ y is. elim (back y is) [ inl old ↦ h.most y old | inr e ↦ omega (arith, l, e) ];
      })
]

-- m periods more, behind the first n, that are all alike
pub record AreAlike (test : ℕ → Bool) (time : ℕ → ℕ) (breach : ℕ → Option Breach) (n m : ℕ) (j : Bool) (g : ℕ)
    (b : Option Breach) : Type 0 where
  pub some : 1 ≤ m
  pub judged : (k : ℕ) → n ≤ k → k < n + m → test k ≡ j
  pub times : (k : ℕ) → n ≤ k → k < n + m → time k ≡ g
  pub breaches : (k : ℕ) → n ≤ k → k < n + m → breach k ≡ b

time_later : (test : ℕ → Bool) (time : ℕ → ℕ) (n m x : ℕ) → IsTimeBelow test time n x → IsTimeBelow test time (n + m) x
time_later test time n m x is =
    record { k = is.k; below = omega (arith, is.below); passes = is.passes; time_is = is.time_is }

time_earlier : (test : ℕ → Bool) (time : ℕ → ℕ) (n m x : ℕ) (P : Type 0)
    → ((k : ℕ) → n ≤ k → k < n + m → test k ≡ true → x ≡ time k → P) → IsTimeBelow test time (n + m) x
    → IsTimeBelow test time n x ⊎ P
time_earlier test time n m x P new is = elim (cases_lt is.k n) [
  | inl l ↦ inl (record { k = is.k; below = l; passes = is.passes; time_is = is.time_is })
  | inr l ↦ inr (new is.k l is.below is.passes is.time_is)
]

least_alike : (test : ℕ → Bool) (time : ℕ → ℕ) (n m : ℕ) (j : Bool) (g : ℕ) (o : Option ℕ) → 1 ≤ m
    → ((k : ℕ) → n ≤ k → k < n + m → test k ≡ j) → ((k : ℕ) → n ≤ k → k < n + m → time k ≡ g)
    → IsLeastOf (IsTimeBelow test time n) o → IsLeastOf (IsTimeBelow test time (n + m)) (least_if j o g)
least_alike test time n m true g o some judged times h =
    least_more (IsTimeBelow test time n) (IsTimeBelow test time (n + m)) o g
    (record {
      k = n;
      below = omega (arith, some);
      passes = judged n (omega arith) (omega (arith, some));
      time_is = sym (times n (omega arith) (omega (arith, some)));
    })
    (time_later test time n m) (λ x is. time_earlier test time n m x (x ≡ g) (λ k a b _ e. e ∙ times k a b) is) h
least_alike test time n m false g o some judged times h =
    least_same (IsTimeBelow test time n) (IsTimeBelow test time (n + m)) o (time_later test time n m)
    (λ x is. elim (time_earlier test time n m x ⊥
    (λ k a b passes _. let wrong : true ≡ false = sym passes ∙ judged k a b in cc) is)
    [ inl old ↦ old | inr none ↦ absurd none ]) h

pub tallied_more : (test : ℕ → Bool) (time : ℕ → ℕ) (breach : ℕ → Option Breach) (n m : ℕ) (t : Tally) (j : Bool)
    (g : ℕ) (b : Option Breach) → AreAlike test time breach n m j g b → IsTallied test time breach n t
    → IsTallied test time breach (n + m) (counted t m j g b)
tallied_more test time breach n m t j g b a h = record {
  begun = ap (λ (z : ℕ). z + m) h.begun;
  judged = omega (arith, h.judged, count_stretch test j n m a.judged);
  short =
      omega (
        arith,
        h.short,
        count_stretch (λ k. is_short_breach (breach k)) (is_short_breach b) n m
            (λ k l r. ap is_short_breach (a.breaches k l r)),
      );
  over =
      omega (
        arith,
        h.over,
        count_stretch (λ k. is_over_breach (breach k)) (is_over_breach b) n m
            (λ k l r. ap is_over_breach (a.breaches k l r)),
      );
  least = least_alike test time n m j g t.least a.some a.judged a.times h.least;
  most =
      most_more (IsTimeBelow (λ _. true) time n) (IsTimeBelow (λ _. true) time (n + m)) t.most g
      (record {
        k = n;
        below = omega (arith, a.some);
        passes = refl;
        time_is = sym (a.times n (omega arith) (omega (arith, a.some)));
      })
      (time_later (λ _. true) time n m)
      (λ x is. time_earlier (λ _. true) time n m x (x ≡ g) (λ k l r _ e. e ∙ a.times k l r) is) h.most;
}

-- one period more
pub tallied_one : (test : ℕ → Bool) (time : ℕ → ℕ) (breach : ℕ → Option Breach) (n : ℕ) (t : Tally) (j : Bool) (g : ℕ)
    (b : Option Breach) → test n ≡ j → time n ≡ g → breach n ≡ b → IsTallied test time breach n t
    → IsTallied test time breach (suc n) (counted t 1 j g b)
tallied_one test time breach n t j g b ej eg eb h =
    let one : n + 1 ≡ suc n = omega arith in
    subst (λ (z : ℕ). IsTallied test time breach z (counted t 1 j g b)) one
    (tallied_more test time breach n 1 t j g b (record {
      some = omega arith;
      judged = λ k l r. let e : k ≡ n = omega arith in ap test e ∙ ej;
      times = λ k l r. let e : k ≡ n = omega arith in ap time e ∙ eg;
      breaches = λ k l r. let e : k ≡ n = omega arith in ap breach e ∙ eb;
    }) h)

-- of no periods
pub tallied_none : (test : ℕ → Bool) (time : ℕ → ℕ) (breach : ℕ → Option Breach) → IsTallied test time breach 0 no_tally
unfolding sum_below
tallied_none test time breach = record {
  begun = refl;
  judged = refl;
  short = refl;
  over = refl;
  least = λ x is. absurd (omega (arith, is.below));
  most = λ x is. absurd (omega (arith, is.below));
}

-- of periods that are the same
pub tallied_same : (test other : ℕ → Bool) (time another : ℕ → ℕ) (breach third : ℕ → Option Breach) (n : ℕ) (t : Tally)
    → ((k : ℕ) → k < n → test k ≡ other k) → ((k : ℕ) → k < n → time k ≡ another k)
    → ((k : ℕ) → k < n → breach k ≡ third k) → IsTallied test time breach n t → IsTallied other another third n t
tallied_same test other time another breach third n t ej eg eb h = record {
  begun = h.begun;
  judged = h.judged ∙ count_same test other n ej;
  short =
      h.short
      ∙ count_same (λ k. is_short_breach (breach k)) (λ k. is_short_breach (third k)) n
      (λ k l. ap is_short_breach (eb k l));
  over =
      h.over
      ∙ count_same (λ k. is_over_breach (breach k)) (λ k. is_over_breach (third k)) n
      (λ k l. ap is_over_breach (eb k l));
  least = least_same (IsTimeBelow test time n) (IsTimeBelow other another n) t.least
      (λ x is. record {
        k = is.k;
        below = is.below;
        passes = sym (ej is.k is.below) ∙ is.passes;
        time_is = is.time_is ∙ eg is.k is.below;
      })
      (λ x is. record {
        k = is.k;
        below = is.below;
        passes = ej is.k is.below ∙ is.passes;
        time_is = is.time_is ∙ sym (eg is.k is.below);
      }) h.least;
  most = most_same (IsTimeBelow (λ _. true) time n) (IsTimeBelow (λ _. true) another n) t.most
      (λ x is. record { k = is.k; below = is.below; passes = refl; time_is = is.time_is ∙ eg is.k is.below })
      (λ x is. record { k = is.k; below = is.below; passes = refl; time_is = is.time_is ∙ sym (eg is.k is.below) })
      h.most;
}

pub tallied_at_most : (test : ℕ → Bool) (time : ℕ → ℕ) (breach : ℕ → Option Breach) (n limit : ℕ) (t : Tally)
    → n ≤ limit → IsTallied test time breach n t → AreAtMost t limit
tallied_at_most test time breach n limit t l h = record {
  begun = omega (arith, h.begun);
  judged = omega (arith, h.judged, count_below-le test n);
  short = omega (arith, h.short, count_below-le (λ k. is_short_breach (breach k)) n);
  over = omega (arith, h.over, count_below-le (λ k. is_over_breach (breach k)) n);
}
