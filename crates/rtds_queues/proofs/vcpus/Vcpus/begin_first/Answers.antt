use Rattle.std.proofs.Common.{◌≡◌, ◌<◌, ◌+◌, ℕ, List, length, set, sym, ◌∙◌, ap, arith, subst}
use Rattle.std.specs.Vec.{with_items}
use Rattle.std.proofs.lemmas.List.{get_or_default, with_items_is}
use Rattle.rtds_queues.specs.declared.account.Account.{Account}
use Rattle.rtds_queues.specs.declared.account.Change.TheVariants.{Begin}
use Rattle.rtds_queues.specs.Accounts.{no_account, account_at, end_at, renewed}
use Rattle.rtds_queues.specs.inner.ByEnd.{AreAll, InOrder}
use Rattle.rtds_queues.specs.inner.Queues.{place_at}
use Rattle.rtds_queues.specs.Vcpus.{HavePeriods, IsFirstEnd}
use Rattle.rtds_queues.specs.inner.Vcpus.{BeginsOne}
use Rattle.rtds_queues.proofs.Beginning.{FirstIn, first_in, behind_kept}
use Rattle.rtds_queues.proofs.Setting.{change_is, change_ordered}
use Rattle.rtds_queues.proofs.vcpus.Vcpus.begin_first.Goals as goal
use Rattle.rtds_queues.proofs.vcpus.Vcpus.begin_first.Goals.{After-index-v, After-index, After-change}

pub index-v-requires : goal.index-v-requires
index-v-requires c =
    let h : FirstIn c.self.inside.accounts.items c.self.inside.by_end.items c.args.at
    = first_in c.self.inside.accounts.items c.self.inside.by_end.items c.self.invariant.ends c.args.at
    c.requires.in_limit
    (subst (λ (xs : List Account). IsFirstEnd xs c.args.at) (sym c.self.view_is) c.requires.first)
    (subst HavePeriods (sym c.self.view_is) c.requires.periods) in
    omega (arith, h.some, c.self.inside.by_end.ok.0)

-- the first in the list ends first
first : (c : After-index-v) → FirstIn c.self.inside.accounts.items c.self.inside.by_end.items c.args.at
first c =
    first_in c.self.inside.accounts.items c.self.inside.by_end.items c.self.invariant.ends c.args.at
    c.requires.in_limit
    (subst (λ (xs : List Account). IsFirstEnd xs c.args.at) (sym c.self.view_is) c.requires.first)
    (subst HavePeriods (sym c.self.view_is) c.requires.periods)

-- and is the one that is read
is_first : (c : After-index-v) → c.index-v.result.now ≡ place_at c.self.inside.by_end.items 0
is_first c = c.index-v.ensures ∙ get_or_default c.self.inside.by_end.items 0 _ 0 (first c).some

room : (c : After-index-v) → c.index-v.result.now < length c.self.inside.accounts.items
room c = omega (arith, is_first c, (first c).within)

read : (c : After-index)
    → c.index.result.now ≡ account_at c.self.inside.accounts.items c.index-v.result.now
read c =
    c.index.ensures
    ∙ get_or_default c.self.inside.accounts.items c.index-v.result.now _ no_account
    (room (goal.at.After-index c).After-index-v)

pub index-requires : goal.index-requires
index-requires c =
    omega (arith, room (goal.at.index-requires c).After-index-v, c.self.inside.accounts.ok.0)

pub overflow_add-end : goal.overflow_add-end
overflow_add-end c =
    let in_it = c.self.inside in
    omega (
      arith,
      c.requires.in_limit,
      (first (goal.at.overflow_add-end c).After-index-v).in_limit,
      ap (λ (v : ℕ). (account_at in_it.accounts.items v).period) (is_first (goal.at.overflow_add-end c).After-index-v),
      ap (λ (a : Account). a.period) (read (goal.at.overflow_add-end c).After-index),
    )

pub change-requires-clause-is_vcpu : goal.change-requires-clause-is_vcpu
change-requires-clause-is_vcpu c =
    omega (
      arith,
      room (goal.at.change-requires-clause-is_vcpu c).After-index-v,
      ap (λ (xs : List Account). length xs) c.deref_mut.ensures.value,
    )

pub settle-requires-clause-some : goal.settle-requires-clause-some
settle-requires-clause-some c =
    omega (
      arith,
      (first (goal.at.settle-requires-clause-some c).After-index-v).some,
      ap (λ (xs : List ℕ). length xs) c.deref_mut-2.ensures.value,
    )

-- the accounts now
long : (c : After-change) → length c.change.new.accounts ≡ c.self.inside.accounts.len
long c = omega (arith, c.change.auto.accounts, c.deref_mut.ensures.len)

accounts_are : (c : After-change)
    → c.change.new.accounts
    ≡ set c.self.inside.accounts.items c.index-v.result.now
    (renewed (account_at c.self.inside.accounts.items c.index-v.result.now) (c.args.at + c.index.result.now.period))
accounts_are c =
    change_is c.self.inside.accounts.items c.deref_mut.result.now c.change.new.accounts c.index-v.result.now
    (Begin (c.args.at + c.index.result.now.period)) c.deref_mut.ensures.value c.change.ensures.accounts

pub settle-requires-clause-behind : goal.settle-requires-clause-behind
settle-requires-clause-behind c =
    let in_it = c.self.inside in
    let at = goal.at.settle-requires-clause-behind c in
    let end : ℕ = c.args.at + c.index.result.now.period in
    let begun : ℕ → Account = λ v. renewed (account_at in_it.accounts.items v) end in
    let next : Account = begun (place_at in_it.by_end.items 0) in
    let is : c.deref.result.now ≡ set in_it.accounts.items (place_at in_it.by_end.items 0) next
    = c.deref.ensures.value
    ∙ (with_items_is in_it.accounts c.change.new.accounts (long at.After-change)
    ∙ (accounts_are at.After-change
    ∙ ap (λ (v : ℕ). set in_it.accounts.items v (begun v)) (is_first at.After-index-v))) in
    subst (λ (xs : List Account). InOrder xs c.deref_mut-2.result.now 1) (sym is)
    (subst (λ (xs : List ℕ). InOrder (set in_it.accounts.items (place_at in_it.by_end.items 0) next) xs 1)
    (sym c.deref_mut-2.ensures.value)
    (behind_kept in_it.accounts.items in_it.by_end.items c.self.invariant.ends next))

pub invariant_of-self : goal.invariant_of-self
invariant_of-self c =
    let in_it = c.self.inside in
    let at = goal.at.invariant_of-self c in
    change_ordered in_it.accounts in_it.queue in_it.by_end.items c.self.invariant c.index-v.result.now
    (room at.After-index-v) (Begin (c.args.at + c.index.result.now.period))
    c.deref_mut.result.now c.deref_mut.ensures.value c.change.new.accounts
    (long at.After-change) c.change.ensures.accounts c.change.new.self c.change.ensures.are c.change.ensures.inside
    in_it.by_end c.settle.new.vcpus
    (omega (arith, c.settle.auto.vcpus, c.deref_mut-2.ensures.len))
    (c.settle.ensures.all (length in_it.accounts.items)
    (subst (AreAll (length in_it.accounts.items)) (sym c.deref_mut-2.ensures.value) c.self.invariant.ends.all))
    c.deref.result.now c.deref.ensures.value c.settle.ensures.order

pub returns : goal.returns
returns c =
    let in_it = c.self.inside in
    let at = goal.at.returns c in
    let accounts : List Account = in_it.accounts.items in
    let v : ℕ = c.index-v.result.now in
    subst
    (λ (xs : List Account). BeginsOne c.args.at xs (with_items in_it.accounts c.change.new.accounts).items)
    c.self.view_is
    (record {
      vcpu = v;
      is_vcpu = room at.After-index-v;
      ended = ap (end_at accounts) (is_first at.After-index-v) ∙ (first at.After-index-v).ended;
      set_is =
          with_items_is in_it.accounts c.change.new.accounts (long at.After-change)
          ∙ (accounts_are at.After-change
          ∙ ap (λ (a : Account). set accounts v (renewed (account_at accounts v) (c.args.at + a.period)))
          (read at.After-index));
    })
