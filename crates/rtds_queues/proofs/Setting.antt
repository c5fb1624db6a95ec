-- What is kept of a VCPU is set.
use Rattle.std.proofs.Common.{◌≡◌, ◌≢◌, ℕ, ◌<◌, ◌==◌, Bool, false, not, ◌&&◌, ◌||◌, List, length, set, get_or, Vec, Global, refl, sym, ◌∙◌, ap, arith, subst, inl, inr}
use Rattle.std.specs.Vec.{with_items}
use Rattle.std.proofs.lemmas.Bool.{cases_eq}
use Rattle.std.proofs.lemmas.List.{get_or-set_same, get_or-set_other, length-set, with_items_is}
use Rattle.rtds_queues.specs.declared.account.Account.{Account}
use Rattle.rtds_queues.specs.declared.account.Change.{Change}
use Rattle.rtds_queues.specs.declared.queue.Queue.{Queue}
use Rattle.rtds_queues.specs.Accounts.{no_account, account_at, end_at, account_eligible, changed}
use Rattle.rtds_queues.specs.inner.Queues.{place_at, stands_in, AreQueued}
use Rattle.rtds_queues.specs.inner.ByEnd.{AreAll, InOrder, InOrderBut, AreByEnd}
use Rattle.rtds_queues.specs.Vcpus.{NoneStarted}
use Rattle.rtds_queues.specs.inner.Vcpus.{AreVcpus}
use Rattle.rtds_queues.proofs.Firsts.{order_kept}
use Rattle.rtds_queues.proofs.Queueing.{stands_now, queued_same}

-- one account is set
pub account_here : (accounts : List Account) (v : ℕ) (a : Account) → v < length accounts
    → account_at (set accounts v a) v ≡ a
account_here accounts v a l = get_or-set_same accounts v a no_account l

pub account_there : (accounts : List Account) (v u : ℕ) (a : Account) → u ≢ v
    → account_at (set accounts v a) u ≡ account_at accounts u
account_there accounts v u a ne = get_or-set_other accounts v u a no_account ne

-- what holds of the account and of those before holds of all
pub at_set : (P : Account → Type 0) (accounts : List Account) (v u : ℕ) (a : Account) → v < length accounts
    → (u ≡ v → P a) → P (account_at accounts u) → P (account_at (set accounts v a) u)
at_set P accounts v u a l new old = elim (cases_eq u v) [
  | inl e ↦ subst P (sym (ap (account_at (set accounts v a)) e ∙ account_here accounts v a l)) (new e)
  | inr ne ↦ subst P (sym (account_there accounts v u a ne)) old
]

module _ (accounts : List Account) (queue : Queue) (by_end : List ℕ) (h : AreVcpus accounts queue by_end) (v : ℕ)
    (lv : v < length accounts) (a : Account)
  where
    abbrev new : List Account
    new = set accounts v a

    ends_same : a.until ≡ end_at accounts v → (u : ℕ) → end_at new u ≡ end_at accounts u
    ends_same until u =
        at_set (λ z. z.until ≡ end_at accounts u) accounts v u a lv
        (λ e. until ∙ ap (end_at accounts) (sym e)) refl

    same_by_end : a.until ≡ end_at accounts v → AreByEnd new by_end
    same_by_end e = record {
      all = subst (λ (n : ℕ). AreAll n by_end) (sym (length-set accounts v a)) h.ends.all;
      order = order_kept accounts new by_end 0 (λ i l. ends_same e (place_at by_end i)) h.ends.order;
    }

    -- all but that one stand in the order of their ends still
    pub others_kept : InOrderBut new v by_end
    others_kept j k l in_list nj nk =
        omega (
          arith,
          h.ends.order j k (omega arith) l in_list,
          ap (λ (z : Account). z.until) (account_there accounts v (place_at by_end j) a nj),
          ap (λ (z : Account). z.until) (account_there accounts v (place_at by_end k) a nk),
        )

    module _ (now : List Account) (is : now ≡ new) where
      -- the queue has those that are eligible, and the list of ends is in order
      vcpus_set : (after : Queue) → AreQueued now after → stands_in after v ≡ account_eligible a
          → ((u : ℕ) → u ≢ v → stands_in after u ≡ stands_in queue u)
          → (list : List ℕ) → AreByEnd new list → AreVcpus now after list
      vcpus_set after queued here others list ends =
          subst (λ (xs : List Account). AreVcpus xs after list) (sym is)
          (record {
            queued = subst (λ (xs : List Account). AreQueued xs after) is queued;
            eligible = λ u lu. elim (cases_eq u v) [
              | inl e ↦
                  subst (λ (z : ℕ). stands_in after z ≡ account_eligible (account_at new z)) (sym e)
                  (here ∙ sym (ap account_eligible (account_here accounts v a lv)))
              | inr ne ↦
                  others u ne
                  ∙ (h.eligible u (subst (λ (n : ℕ). u < n) (length-set accounts v a) lu)
                  ∙ sym (ap account_eligible (account_there accounts v u a ne)))
            ];
            ends = ends;
          })

      -- only the slots that are left are others, by which none goes
      pub vcpus_left : a.level ≡ (account_at accounts v).level → a.until ≡ end_at accounts v
          → account_eligible a ≡ account_eligible (account_at accounts v) → AreVcpus now queue by_end
      vcpus_left level until eligible =
          vcpus_set queue
          (subst (λ (xs : List Account). AreQueued xs queue) (sym is)
          (queued_same accounts new queue h.queued (length-set accounts v a)
          (λ u w x y. rw (levels u, levels w, ends_same until u, ends_same until w) refl)))
          (h.eligible v lv ∙ sym eligible) (λ u ne. refl) by_end (same_by_end until)
        where
          levels : (u : ℕ) → (account_at new u).level ≡ (account_at accounts u).level
          levels u =
              at_set (λ z. z.level ≡ (account_at accounts u).level) accounts v u a lv
              (λ e. level ∙ ap (λ (z : ℕ). (account_at accounts z).level) (sym e)) refl

      module _ (after : Queue) (queued : AreQueued now after)
          (inside : after.inside ≡ set queue.inside v (account_eligible a))
        where
          -- the list of ends is put in order
          pub vcpus_ordered : (list : List ℕ) → AreAll (length accounts) list → InOrder now list 0
              → AreVcpus now after list
          vcpus_ordered list all order =
              vcpus_set after queued
              (stands_now accounts queue after v (account_eligible a) h.queued lv inside)
              (λ u ne. ap (λ (bs : List Bool). get_or bs u false) inside
              ∙ get_or-set_other queue.inside v u (account_eligible a) false ne)
              list
              (record {
                all = subst (λ (n : ℕ). AreAll n list) (sym (length-set accounts v a)) all;
                order = subst (λ (xs : List Account). InOrder xs list 0) is order;
              })

          -- or its period ends as before
          pub vcpus_kept : a.until ≡ end_at accounts v → AreVcpus now after by_end
          vcpus_kept e =
              vcpus_ordered by_end h.ends.all
              (subst (λ (xs : List Account). InOrder xs by_end 0) (sym is) (same_by_end e).order)

-- the accounts were written as a slice
pub accounts_written : (own : Vec Account Global) (accounts : List Account) (queue : Queue) (by_end : List ℕ)
    → length accounts ≡ own.len → AreVcpus accounts queue by_end
    → AreVcpus (with_items own accounts).items queue by_end
accounts_written own accounts queue by_end long =
    subst (λ (xs : List Account). AreVcpus xs queue by_end) (sym (with_items_is own accounts long))

-- an account of the slice has changed
pub change_is : (accounts slice now : List Account) (v : ℕ) (change : Change) → slice ≡ accounts
    → now ≡ set slice v (changed change (account_at slice v))
    → now ≡ set accounts v (changed change (account_at accounts v))
change_is accounts slice now v change value is =
    is ∙ ap (λ (xs : List Account). set xs v (changed change (account_at xs v))) value

-- and the queue with it
module _ (own : Vec Account Global) (queue : Queue) (by_end : List ℕ) (h : AreVcpus own.items queue by_end) (v : ℕ)
    (lv : v < length own.items) (change : Change) (slice : List Account) (value : slice ≡ own.items)
    (now : List Account) (long : length now ≡ own.len)
    (is : now ≡ set slice v (changed change (account_at slice v)))
    (after : Queue) (queued : AreQueued now after)
    (inside : after.inside ≡ set queue.inside v (account_eligible (changed change (account_at slice v))))
  where
    abbrev its_new : Account
    its_new = changed change (account_at own.items v)

    new_is : now ≡ set own.items v its_new
    new_is = change_is own.items slice now v change value is

    its_inside : after.inside ≡ set queue.inside v (account_eligible its_new)
    its_inside =
        inside
        ∙ ap (λ (xs : List Account). set queue.inside v (account_eligible (changed change (account_at xs v)))) value

    -- its period ends as before
    pub change_kept : its_new.until ≡ end_at own.items v → AreVcpus (with_items own now).items after by_end
    change_kept e =
        accounts_written own now after by_end long
        (vcpus_kept own.items queue by_end h v lv its_new now new_is after queued its_inside e)

    -- or the list of ends was put in order, as a slice
    pub change_ordered : (ends : Vec ℕ Global) (list : List ℕ) → length list ≡ ends.len → AreAll (length own.items) list
        → (accounts : List Account) → accounts ≡ (with_items own now).items → InOrder accounts list 0
        → AreVcpus (with_items own now).items after (with_items ends list).items
    change_ordered ends list as_long all accounts read order =
        accounts_written own now after (with_items ends list).items long
        (subst (AreVcpus now after) (sym (with_items_is ends list as_long))
        (vcpus_ordered own.items queue by_end h v lv its_new now new_is after queued its_inside list all
        (subst (λ (xs : List Account). InOrder xs list 0) (read ∙ with_items_is own now long) order)))

-- where none is started, any list is in order
pub none_started : (accounts : List Account) (queue : Queue) (by_end : List ℕ) → NoneStarted accounts
    → AreQueued accounts queue → ((v : ℕ) → stands_in queue v ≡ false) → AreAll (length accounts) by_end
    → AreVcpus accounts queue by_end
none_started accounts queue by_end idle queued none all = record {
  queued = queued;
  eligible = λ v l. none v ∙ sym (not_eligible (account_at accounts v) (idle.started v l));
  ends = record {
    all = all;
    order = λ j k a b d. omega (
      arith,
      idle.until (place_at by_end j) (all.within j (omega (arith, b, d))),
      idle.until (place_at by_end k) (all.within k d),
    );
  };
}
  where
    not_eligible : (a : Account) → a.started ≡ false → account_eligible a ≡ false
    not_eligible a off = ap (λ (b : Bool). (b && not a.blocked) && ((a.level == 0) || a.extra)) off
