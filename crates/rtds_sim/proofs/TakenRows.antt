-- A row that a core takes.
use Rattle.std.proofs.Common.{◌≡◌, ◌≢◌, ℕ, ◌+◌, ◌<◌, ◌≤◌, List, length, set, refl, sym, ◌∙◌, ap, arith, subst, inl, inr}
use Rattle.std.proofs.lemmas.Bool.{cases_eq}
use Rattle.std.proofs.lemmas.List.{length-set}
use Rattle.tree_model.specs.View.{SystemView}
use Rattle.tree_model.specs.System.{part_at}
use Rattle.trace_file.proofs.Moments.{child_parent}
use Rattle.release_file.specs.declared.workload.Wake.{Wake as Row}
use Rattle.release_file.specs.declared.workload.WakeKind.{WakeKind}
use Rattle.release_file.specs.declared.workload.WakeKind.TheVariants.{Start, Wake, Block}
use Rattle.rtds_queues.specs.declared.account.Account.{Account}
use Rattle.rtds_queues.specs.Accounts.{account_at}
use Rattle.rtds_queues.specs.Vcpus.{IsPlaceOf}
use Rattle.rtds_queues.proofs.Setting.{account_here, account_there}
use Rattle.rtds_sim.specs.declared.host_core.HostCore.{HostCore}
use Rattle.rtds_sim.specs.inner.Accounts.{row_taken, TakesRow, InTurn, AreOf, IsSound, IsReady}
use Rattle.rtds_trace.specs.Printed.{core_of}
use Rattle.rtds_sim.proofs.Members.{SameNumbers, one_place, turn_same}

-- a row changes no numbers, and leaves an account sound
pub taken_numbers : (what : WakeKind) (end : ℕ) (a : Account) → SameNumbers a (row_taken what end a)
taken_numbers Start end a = record { part = refl; period = refl; budget = refl; extra = refl }
taken_numbers Wake end a = record { part = refl; period = refl; budget = refl; extra = refl }
taken_numbers Block end a = record { part = refl; period = refl; budget = refl; extra = refl }

sound_taken : (time end : ℕ) (a : Account) → IsSound time a → (what : WakeKind)
    → IsSound time (row_taken what end a)
sound_taken time end a h Start =
    record { numbers = h.numbers; few = omega arith; some_left = h.numbers.some_budget }
sound_taken time end a h Wake = record { numbers = h.numbers; few = h.few; some_left = h.some_left }
sound_taken time end a h Block = record { numbers = h.numbers; few = h.few; some_left = h.some_left }

-- nor does its period end by a slot after a row, where neither does nor would one that begins
later_taken : (x end : ℕ) (a : Account) → x < end → x < a.until → (what : WakeKind) → x < (row_taken what end a).until
later_taken x end a new old Start = new
later_taken x end a new old Wake = old
later_taken x end a new old Block = old

-- what holds of an account after a row, and of it as it was, holds after the row
pub at_taken : (P : Account → Account → Type 0) (row : Row) (old new : List Account) → TakesRow row old new
    → ((a : Account) → P a a) → ((a : Account) → P a (row_taken row.what (row.at + a.period) a))
    → (v : ℕ) → v < length old → P (account_at old v) (account_at new v)
at_taken P row old new takes same taken v l = elim (cases_eq (account_at old v).part row.vcpu) [
  | inl e ↦ subst (P (account_at old v)) (sym (takes.own v l e)) (taken (account_at old v))
  | inr ne ↦ subst (P (account_at old v)) (sym (takes.other v l ne)) (same (account_at old v))
]

pub takes_numbers : (row : Row) (old new : List Account) → TakesRow row old new → (v : ℕ) → v < length old
    → SameNumbers (account_at old v) (account_at new v)
takes_numbers row old new takes =
    at_taken SameNumbers row old new takes (λ a. record { part = refl; period = refl; budget = refl; extra = refl })
    (λ a. taken_numbers row.what (row.at + a.period) a)

-- a core stands ready after a row
pub ready_taken : (row : Row) (old new : HostCore) → IsReady row.at old → TakesRow row old.vcpus new.vcpus
    → new.holder ≡ old.holder → IsReady row.at new
ready_taken row old new h takes holder = record {
  sound = λ v l.
      let lo : v < length old.vcpus = omega (arith, l, takes.one_each) in
      at_taken (λ a b. IsSound row.at a → IsSound row.at b) row old.vcpus new.vcpus takes (λ a s. s)
      (λ a s. sound_taken row.at (row.at + a.period) a s row.what) v lo (h.sound v lo);
  in_turn =
      turn_same old.vcpus new.vcpus takes.one_each (takes_numbers row old.vcpus new.vcpus takes) h.in_turn;
  ends = λ v l.
      let lo : v < length old.vcpus = omega (arith, l, takes.one_each) in
      omega (
        arith,
        at_taken (λ a b. 1 ≤ a.period → row.at < a.until → row.at < b.until) row old.vcpus new.vcpus takes (λ a s e. e)
            (λ a s e. later_taken row.at (row.at + a.period) a (omega (arith, s)) e row.what) v lo
            (h.sound v lo).numbers.some_period (omega (arith, h.ends v lo)),
      );
  holder = λ v e. omega (arith, h.holder v (sym holder ∙ e), takes.one_each);
}

-- the row of a VCPU is taken where its account is set
pub takes_set : (row : Row) (old new : List Account) → InTurn old → (v : ℕ) → IsPlaceOf old row.vcpu v
    → new ≡ set old v (row_taken row.what (row.at + (account_at old v).period) (account_at old v))
    → TakesRow row old new
takes_set row old new turn v place is =
    let a : Account = row_taken row.what (row.at + (account_at old v).period) (account_at old v) in
    subst (TakesRow row old) (sym is)
    (record {
      one_each = length-set old v a;
      own = λ u l e.
          let same : u ≡ v = one_place old turn row.vcpu u v (record { is_vcpu = l; part_is = e }) place in
          ap (account_at (set old v a)) same
          ∙ (account_here old v a place.is_vcpu
          ∙ ap (λ (z : ℕ). row_taken row.what (row.at + (account_at old z).period) (account_at old z)) (sym same));
      other =
          λ u l ne. account_there old v u a (λ e. ne (ap (λ (z : ℕ). (account_at old z).part) e ∙ place.part_is));
    })

-- and no VCPU takes it that is another part
pub takes_none : (row : Row) (old : List Account) → ((v : ℕ) → v < length old → (account_at old v).part ≢ row.vcpu)
    → TakesRow row old old
takes_none row old none =
    record { one_each = refl; own = λ v l e. absurd (none v l e); other = λ v l ne. refl }

-- nor does a VCPU of another core
pub takes_elsewhere : (sys : SystemView) (budgets : List ℕ) (c : ℕ) (row : Row) (old : List Account)
    → AreOf sys budgets c old → c ≢ core_of (part_at sys row.vcpu).parent → TakesRow row old old
takes_elsewhere sys budgets c row old h ne =
    takes_none row old (λ v l e. ne (sym (ap (λ (q : ℕ). core_of (part_at sys q).parent) (sym e)
    ∙ ap core_of (child_parent sys c (account_at old v).part (h.on_core v l)))))
