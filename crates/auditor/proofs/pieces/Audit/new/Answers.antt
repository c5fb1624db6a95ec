use Rattle.std.proofs.Common.{◌∙◌, List, ℕ, refl, subst, sym}
use Rattle.tree_model.specs.Plans.{IsPlan}
use Rattle.auditor.specs.declared.counted.Counted.{Counted}
use Rattle.auditor.specs.inner.Watches.{AreWatched}
use Rattle.auditor.proofs.pieces.Audit.new.Goals as goal

pub new-requires : goal.new-requires
new-requires c = record {
  same = refl;
  system = c.new-watches.ensures.system;
  plan =
      subst (λ (b : List ℕ). IsPlan c.args.sys.now b) (sym (c.in_ok-from_slice.ensures.items ∙ c.budgets.ensures))
      c.requires;
  behind = λ more keep. subst
      (λ (z : Counted). AreWatched z c.args.sys.now c.in_ok-from_slice.field-0.items more 0 c.new-watches.result)
      (sym c.new-watches.ensures.counted) (c.new-watches.ensures.watched c.in_ok-from_slice.field-0.items more);
}

pub returns : goal.returns
returns c = record {
  sys_is = refl;
  system = c.new-watches.ensures.system;
  start = record { plan = c.in_ok-from_slice.field-0.items; watches = c.new-watches.result };
  plan_is = c.in_ok-from_slice.ensures.items ∙ c.budgets.ensures;
  counted_is = c.new-watches.ensures.counted;
  fed = c.in_ok-feed.ensures;
}
