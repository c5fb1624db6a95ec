use Rattle.std.proofs.Common.{rules, ◌≡◌, arith, sym, ◌∙◌, ap, subst}
use Rattle.tree_model.specs.View.{PartView}
use Rattle.tree_model.specs.System.{IsSystem}
use Rattle.admission_session.specs.Leaves.{with_leaf}
use Rattle.admission_session.proofs.MadeSystems.{new_leaf_is}
use Rattle.admission_session.proofs.cores.put_guest.Goals as goal

pub push_leaf-requires : goal.push_leaf-requires
push_leaf-requires c = record {
  system =
      subst (λ (leaf : PartView). IsSystem (with_leaf c.args.sys.now leaf)) (sym c.in_ok-leaf.ensures)
      (new_leaf_is c.args.sys.now c.cores-cores.ensures.system c.args.guest.now 0 c.requires
      (omega (arith, c.cores-cores.ensures.system.some_core)));
}

pub returns-clause-put : goal.returns-clause-put
returns-clause-put c =
    let pushed : c.push_leaf.new.sys ≡ with_leaf c.args.sys.now c.in_ok-leaf.leaf = search rules in
    pushed ∙ ap (with_leaf c.args.sys.now) c.in_ok-leaf.ensures
