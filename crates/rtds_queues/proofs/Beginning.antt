-- Periods that begin at a slot.
use Rattle.std.proofs.Common.{◌≡◌, ◌≢◌, ℕ, suc, ◌+◌, ◌<◌, ◌≤◌, ◌==◌, Bool, true, false, cond, List, length, set, refl, sym, ◌∙◌, ap, arith, subst, inl, inr, eq-eqb}
use Rattle.std.specs.Prelude.{nat_eq}
use Rattle.std.proofs.lemmas.Bool.{cases_eq}
use Rattle.std.proofs.lemmas.Bool.Decides.{nat_tests}
use Rattle.std.proofs.lemmas.List.{length-set}
use Rattle.slot_model.specs.declared.task.TheConstants.{LIMIT}
use Rattle.slot_model.specs.Slots.{count_below}
use Rattle.rtds_queues.specs.declared.account.Account.{Account}
use Rattle.rtds_queues.specs.Accounts.{account_at, end_at, renewed, begun}
use Rattle.rtds_queues.specs.inner.Queues.{place_at}
use Rattle.rtds_queues.specs.inner.ByEnd.{InOrder, AreByEnd}
use Rattle.rtds_queues.specs.Vcpus.{HavePeriods, NoEndBefore, IsFirstEnd}
use Rattle.rtds_queues.specs.inner.Vcpus.{BeginsOne}
use Rattle.rtds_queues.proofs.Setting.{account_here, account_there}
use Rattle.rtds_queues.proofs.Walking.{count_fewer}

-- the periods of the VCPUs that have left the slot have begun
pub record Begins (at : ℕ) (first now : List Account) : Type 0 where
  pub one_each : length now ≡ length first
  pub same : (u : ℕ) → u < length first → end_at now u ≡ at → account_at now u ≡ account_at first u
  pub done : (u : ℕ) → u < length first → end_at now u ≢ at → account_at now u ≡ begun (account_at first u) at
  pub periods : HavePeriods now
  pub later : NoEndBefore now at

-- how many are still to begin
abbrev pub count_ending : ℕ → List Account → ℕ
count_ending at accounts = count_below (λ u. nat_eq (end_at accounts u) at) (length accounts)

-- an account whose period ends at the slot, and one whose period does not
begun_here : (a : Account) (at : ℕ) → a.until ≡ at → begun a at ≡ renewed a (at + a.period)
begun_here a at e = ap (λ (q : Bool). cond q (renewed a (at + a.period)) a) (eq-eqb at a.until (sym e))

pub begun_not : (a : Account) (at : ℕ) → a.until ≢ at → a ≡ begun a at
begun_not a at ne =
    sym (ap (λ (q : Bool). cond q (renewed a (at + a.period)) a) (not_same at a.until (λ e. ne (sym e))))
  where
    not_same : (m n : ℕ) → m ≢ n → (m == n) ≡ false
    not_same m n e = grind (arith, nat_tests)

pub begins_first : (at : ℕ) (accounts : List Account) → HavePeriods accounts → NoEndBefore accounts at
    → Begins at accounts accounts
begins_first at accounts periods later = record {
  one_each = refl;
  same = λ u l e. refl;
  done = λ u l ne. begun_not (account_at accounts u) at ne;
  periods = periods;
  later = later;
}

-- the first in a list of all is a VCPU whose period ends at the slot
pub record FirstIn (accounts : List Account) (list : List ℕ) (at : ℕ) : Type 0 where
  pub some : 0 < length list
  pub within : place_at list 0 < length accounts
  pub ended : end_at accounts (place_at list 0) ≡ at
  pub in_limit : (account_at accounts (place_at list 0)).period ≤ LIMIT

-- the first in the list is one whose period ends first
module _ (accounts : List Account) (list : List ℕ) (h : AreByEnd accounts list) (at : ℕ) (few : at ≤ LIMIT)
    (first : IsFirstEnd accounts at)
  where
    -- one ends at the slot, and so does the first in the list
    ending : (i : ℕ) × (i < length list) × (end_at accounts (place_at list i) ≡ at)
    ending = elim first.is_one [
      | inl past ↦ absurd (omega (arith, past.1, few))
      | inr its ↦
          let place = h.all.all its.0 its.1 in (
            place.0,
            place.1,
            ap (end_at accounts) place.2 ∙ its.2,
          )
    ]

    some : 0 < length list
    some = omega (arith, ending.1)

    within : place_at list 0 < length accounts
    within = h.all.within 0 some

    ended : end_at accounts (place_at list 0) ≡ at
    ended = elim (cases_eq ending.0 0) [
      | inl e ↦ sym (ap (λ (i : ℕ). end_at accounts (place_at list i)) e) ∙ ending.2
      | inr ne ↦
          omega (
            arith,
            h.order 0 ending.0 (omega arith) (omega (arith, ne)) ending.1,
            ending.2,
            first.least (place_at list 0) within,
          )
    ]

    pub first_in : HavePeriods accounts → FirstIn accounts list at
    first_in periods = record {
      some = some;
      within = within;
      ended = ended;
      in_limit = periods.few (place_at list 0) within;
    }

-- once the first has another account, those behind it stand in order still
pub behind_kept : (accounts : List Account) (list : List ℕ) → AreByEnd accounts list → (a : Account)
    → InOrder (set accounts (place_at list 0) a) list 1
behind_kept accounts list h a j k l m n =
    omega (
      arith,
      h.order j k (omega arith) m n,
      same j l (omega (arith, m, n)),
      same k (omega (arith, l, m)) n,
    )
  where
    same : (i : ℕ) → 1 ≤ i → i < length list
        → end_at (set accounts (place_at list 0) a) (place_at list i) ≡ end_at accounts (place_at list i)
    same i some in_list =
        ap (λ (z : Account). z.until)
        (account_there accounts (place_at list 0) (place_at list i) a
        (λ e. omega (arith, some, h.all.once i 0 in_list (omega (arith, some, in_list)) e)))

-- one of them begins its period
module _ (at : ℕ) (old new : List Account) (one : BeginsOne at old new) (periods : HavePeriods old) where
  abbrev v : ℕ
  v = one.vcpu

  abbrev next : Account
  next = renewed (account_at old v) (at + (account_at old v).period)

  long : length new ≡ length old
  long = ap (λ (xs : List Account). length xs) one.set_is ∙ length-set old v next

  here : account_at new v ≡ next
  here = ap (λ (xs : List Account). account_at xs v) one.set_is ∙ account_here old v next one.is_vcpu

  there : (u : ℕ) → u ≢ v → account_at new u ≡ account_at old u
  there u ne = ap (λ (xs : List Account). account_at xs u) one.set_is ∙ account_there old v u next ne

  later : at < end_at new v
  later = omega (arith, ap (λ (a : Account). a.until) here, periods.some v one.is_vcpu)

  end_there : (u : ℕ) → u ≢ v → end_at new u ≡ end_at old u
  end_there u ne = ap (λ (a : Account). a.until) (there u ne)

  -- what ends at the slot still is not the one whose period has begun
  other : (u : ℕ) → end_at new u ≡ at → u ≢ v
  other u e q = omega (arith, e, ap (end_at new) q, later)

  period_same : (u : ℕ) → (account_at new u).period ≡ (account_at old u).period
  period_same u = elim (cases_eq u v) [
    | inl e ↦
        ap (λ (z : ℕ). (account_at new z).period) e
        ∙ (ap (λ (a : Account). a.period) here ∙ ap (λ (z : ℕ). (account_at old z).period) (sym e))
    | inr ne ↦ ap (λ (a : Account). a.period) (there u ne)
  ]

  pub fewer : count_ending at new < count_ending at old
  fewer =
      subst (λ (n : ℕ). count_below (λ u. nat_eq (end_at new u) at) n < count_ending at old) (sym long)
      (count_fewer (λ u. nat_eq (end_at new u) at) (λ u. nat_eq (end_at old u) at) v (length old)
      (λ u its. let e : end_at new u ≡ at = same_number (end_at new u) at its in
      number_same (end_at old u) at (sym (end_there u (other u e)) ∙ e))
      one.is_vcpu
      (number_apart (end_at new v) at (λ e. omega (arith, e, later)))
      (number_same (end_at old v) at one.ended))
    where
      same_number : (m n : ℕ) → nat_eq m n ≡ true → m ≡ n
      same_number m n e = grind (arith, nat_tests)

      number_same : (m n : ℕ) → m ≡ n → nat_eq m n ≡ true
      number_same m n e = grind (arith, nat_tests)

      number_apart : (m n : ℕ) → m ≢ n → nat_eq m n ≡ false
      number_apart m n ne = grind (arith, nat_tests)

  pub begins_on : (start : List Account) → Begins at start old → Begins at start new
  begins_on start b = record {
    one_each = long ∙ b.one_each;
    same = λ u l e. let ne : u ≢ v = other u e in there u ne ∙ b.same u l (sym (end_there u ne) ∙ e);
    done = λ u l ne. elim (cases_eq u v) [
      | inl e ↦
          ap (account_at new) e
          ∙ (here
          ∙ (sym (begun_here (account_at old v) at one.ended)
          ∙ (ap (λ (a : Account). begun a at)
          (b.same v (subst (λ (z : ℕ). z < length start) e l) one.ended)
          ∙ ap (λ (z : ℕ). begun (account_at start z) at) (sym e))))
      | inr nv ↦ there u nv ∙ b.done u l (λ q. ne (end_there u nv ∙ q))
    ];
    periods = record {
      some = λ u l. omega (arith, period_same u, periods.some u (omega (arith, l, long)));
      few = λ u l. omega (arith, period_same u, periods.few u (omega (arith, l, long)));
    };
    later = λ u l. elim (cases_eq u v) [
      | inl e ↦ omega (arith, ap (end_at new) e, later)
      | inr nv ↦ omega (arith, end_there u nv, b.later u (omega (arith, l, long)))
    ];
  }

-- where the first ends past the slot, so do all
pub ends_past : (at end : ℕ) (accounts : List Account) → at ≤ LIMIT
    → IsFirstEnd accounts end → NoEndBefore accounts at → end ≢ at
    → NoEndBefore accounts (suc at)
ends_past at end accounts few first later ne u l = omega (arith, past, first.least u l)
  where
    past : at < end
    past = elim first.is_one [
      | inl none ↦ omega (arith, none.1, few)
      | inr one ↦ omega (arith, later one.0 one.1, one.2, ne)
    ]
