-- There is one number of those that have a property, and one least and greatest of them.
use Rattle.std.proofs.Common.{◌≡◌, ℕ, ◌+◌, ◌-◌, ◌<◌, ◌≤◌, Bool, true, false, cond, not, ltb, ◌&&◌, Option, Some, None, refl, sym, ◌∙◌, ap, arith, inl, inr}
use Rattle.std.proofs.lemmas.Bool.{cases_Bool, and_parts, and_from, and_left, lt-ltb, le-ltb, ltb-true, false≢true}
use Rattle.slot_model.specs.Slots.{count_below}
use Rattle.slot_model.proofs.Sums.{sum_below-same, sum_below-add}
use Rattle.slot_model.proofs.Counts.{count_same, count_stretch}
use Rattle.vcpu_watch.specs.Numbers.{IsNumberOf, IsLeastOf, IsMostOf}

-- the numbers below a limit that pass a test, and no others
clip : (ℕ → Bool) → ℕ → ℕ → Bool
clip test limit k = ltb k limit && test k

clip_count : (test : ℕ → Bool) (limit more : ℕ) → count_below (clip test limit) (limit + more) ≡ count_below test limit
unfolding clip
clip_count test limit more =
    let past
    = count_stretch (clip test limit) false limit more
    (λ k l _. and_left (ltb k limit) (test k) (le-ltb k limit l)) in
    let within = count_same (clip test limit) test limit (λ k l. ap (λ (z : Bool). z && test k) (lt-ltb k limit l)) in
    omega (arith, past, within)

same_test : (a b : Bool) → (a ≡ true → b ≡ true) → (b ≡ true → a ≡ true) → a ≡ b
same_test true b to back = sym (to refl)
same_test false true to back = back refl
same_test false false to back = refl

clip_passes : (has : ℕ → Type 0) (n k : ℕ) (h : IsNumberOf has n) → has k → clip h.test h.limit k ≡ true
unfolding clip
clip_passes has n k h is = let at = h.pass k is in ap (λ (z : Bool). z && h.test k) (lt-ltb k h.limit at.0) ∙ at.1

clip_has : (has : ℕ → Type 0) (n k : ℕ) (h : IsNumberOf has n) → clip h.test h.limit k ≡ true → has k
unfolding clip
clip_has has n k h e =
    let parts = and_parts (ltb k h.limit) (h.test k) e in h.have k (ltb-true k h.limit parts.0) parts.1

pub one_number : (has : ℕ → Type 0) (n m : ℕ) → IsNumberOf has n → IsNumberOf has m → n ≡ m
one_number has n m a b =
    let same
    = count_same (clip a.test a.limit) (clip b.test b.limit) (a.limit + b.limit)
    (λ k l. same_test (clip a.test a.limit k) (clip b.test b.limit k)
    (λ e. clip_passes has m k b (clip_has has n k a e))
    (λ e. clip_passes has n k a (clip_has has m k b e))) in
    let swap : b.limit + a.limit ≡ a.limit + b.limit = omega arith in
    omega (
      arith,
      a.count,
      b.count,
      clip_count a.test a.limit b.limit,
      clip_count b.test b.limit a.limit,
      same,
      ap (λ (z : ℕ). count_below (clip b.test b.limit) z) swap,
    )

pub one_least : (has : ℕ → Type 0) (o p : Option ℕ) → IsLeastOf has o → IsLeastOf has p → o ≡ p
one_least has None None a b = refl
one_least has None (Some y) a b = absurd (a y b.is)
one_least has (Some x) None a b = absurd (b x a.is)
one_least has (Some x) (Some y) a b =
    ap (λ (z : ℕ). Some z) (let e : x ≡ y = omega (arith, a.least y b.is, b.least x a.is) in e)

pub one_most : (has : ℕ → Type 0) (o p : Option ℕ) → IsMostOf has o → IsMostOf has p → o ≡ p
one_most has None None a b = refl
one_most has None (Some y) a b = absurd (a y b.is)
one_most has (Some x) None a b = absurd (b x a.is)
one_most has (Some x) (Some y) a b =
    ap (λ (z : ℕ). Some z) (let e : x ≡ y = omega (arith, a.most y b.is, b.most x a.is) in e)

-- a property that comes to the same
pub number_same : (has other : ℕ → Type 0) (n : ℕ) → ((k : ℕ) → has k → other k) → ((k : ℕ) → other k → has k)
    → IsNumberOf has n → IsNumberOf other n
number_same has other n to back h = record {
  test = h.test;
  limit = h.limit;
  have = λ k l e. to k (h.have k l e);
  pass = λ k is. h.pass k (back k is);
  count = h.count;
}

-- of those that pass a test some pass another, and the rest do not
apart_one : (p q : Bool) → (q ≡ true → p ≡ true)
    → cond {A = ℕ} p 1 0 ≡ cond {A = ℕ} (p && not q) 1 0 + cond {A = ℕ} q 1 0
apart_one true true to = refl
apart_one true false to = refl
apart_one false true to = absurd (false≢true (to refl))
apart_one false false to = refl

count_apart : (p q : ℕ → Bool) (n : ℕ) → ((k : ℕ) → k < n → q k ≡ true → p k ≡ true)
    → count_below p n ≡ count_below (λ k. p k && not (q k)) n + count_below q n
count_apart p q n to =
    sum_below-same (λ k. cond {A = ℕ} (p k) 1 0)
    (λ k. cond {A = ℕ} (p k && not (q k)) 1 0 + cond {A = ℕ} (q k) 1 0) n (λ k l. apart_one (p k) (q k) (to k l))
    ∙ sum_below-add (λ k. cond {A = ℕ} (p k && not (q k)) 1 0) (λ k. cond {A = ℕ} (q k) 1 0) n

-- where all that have the one property have the other, so many more have the other alone
module _ (has some : ℕ → Type 0) (n m : ℕ) (h : IsNumberOf has n) (s : IsNumberOf some m)
    (all : (k : ℕ) → some k → has k) where
  abbrev of_some : ℕ → Bool
  of_some = clip s.test s.limit

  some_has : (k : ℕ) → of_some k ≡ true → has k
  some_has k e = all k (clip_has some m k s e)

  some_count : m ≡ count_below of_some h.limit
  some_count =
      let swap : s.limit + h.limit ≡ h.limit + s.limit = omega arith in
      let past
      = count_stretch of_some false h.limit s.limit
      (λ k l _. elim (cases_Bool (of_some k)) [
        | inl e ↦ let in_limit = (h.pass k (some_has k e)).0 in absurd (omega (arith, l, in_limit))
        | inr e ↦ e
      ]) in
      let count = s.count in
      omega (
        arith,
        count,
        clip_count s.test s.limit h.limit,
        ap (λ (z : ℕ). count_below (clip s.test s.limit) z) swap,
        past,
      )

  parts : n ≡ count_below (λ k. h.test k && not (of_some k)) h.limit + m
  parts =
      let count = h.count in
      omega (
        arith,
        count,
        count_apart h.test of_some h.limit (λ k _ e. (h.pass k (some_has k e)).1),
        some_count,
      )

  pub number_few : m ≤ n
  number_few = omega (arith, parts)

  pub number_less : IsNumberOf (λ k. has k × (some k → ⊥)) (n - m)
  number_less = record {
    test = λ k. h.test k && not (of_some k);
    limit = h.limit;
    have = λ k l e.
        let both = and_parts (h.test k) (not (of_some k)) e in (
          h.have k l both.0,
          λ is. false≢true (sym (ap not (clip_passes some m k s is)) ∙ both.1),
        );
    pass = λ k is.
        let at = h.pass k is.0 in (
          at.0,
          and_from (h.test k) (not (of_some k)) at.1 (elim (cases_Bool (of_some k)) [
            | inl e ↦ absurd (is.1 (clip_has some m k s e))
            | inr e ↦ ap not e
          ]),
        );
    count = omega (arith, parts);
  }
