use Rattle.std.proofs.Common.{◌≡◌, ℕ, ◌-◌, false, List, [], ◌∷◌, ◌++◌, get_or, Some, None, sym, ap, ◌∙◌, arith}
use Rattle.toml.specs.Data.{Data, boolean}
use Rattle.tree_model.specs.declared.place.Parent.TheVariants.{Part}
use Rattle.tree_model.specs.Lists.{first_of, fault_if}
use Rattle.system_file.specs.declared.fault.SystemFault.TheVariants.{Mixed}
use Rattle.system_file.specs.Document.{is_named, parent_named}
use Rattle.system_file.specs.Faults.{has_tasks, is_parent_faults}
use Rattle.system_file.specs.inner.Reading.{Known}
use Rattle.system_file.proofs.Places.{looked_up, core_found, part_found, none_found, position_within, leaf_at, as_many}
use Rattle.system_file.proofs.parts.parent_of.Goals as goal
use Rattle.system_file.proofs.parts.parent_of.Goals.{After-is_leaf}

pub returns-then-place-cores-clause-ok : goal.returns-then-place-cores-clause-ok
returns-then-place-cores-clause-ok c = λ cores before later so_far own is known.
    let found
    = core_found _ _ _ _ (looked_up cores before later _ _ _ c.args.text.now (Some c.in-Some.place) known
    (sym (c.in-Some.ensures.place so_far own is))) c.if-place-cores.true in
    (ap (is_parent_faults c.args.spot before) found, found)

pub returns-in-None-clause-fault : goal.returns-in-None-clause-fault
returns-in-None-clause-fault c = λ cores before later so_far own is known.
    let found
    = none_found _ _ _ (looked_up cores before later _ _ _ c.args.text.now None known
    (sym (c.in-None.ensures.place so_far own is))) in
    ap (λ o. first_of (is_parent_faults c.args.spot before o)) found

-- a part has the name, and its element has tasks if the part that is read has
named_part : (c : After-is_leaf) (cores before later : List Data) (so_far : List (List ℕ)) (own : List ℕ)
    → c.args.names.now ≡ so_far ++ own ∷ [] → Known cores before later c.args.cores so_far c.args.earlier.now
    → (parent_named cores before c.args.text.now ≡ Some (Part (c.in-Some.place - c.args.cores)))
    × (has_tasks (get_or before (c.in-Some.place - c.args.cores) (boolean false)) ≡ c.is_leaf.result)
named_part c cores before later so_far own is known =
    let few = as_many known in
    let leaf
    = leaf_at cores (before ++ later) before (c.in-Some.place - c.args.cores) c.index-earlier-part.result
    (omega (arith, c.in-Some.ensures.within))
    (c.index-earlier-part.is
    ∙ ap (λ parts. get_or parts (c.in-Some.place - c.args.cores) c.index-earlier-part.result) known.spelled) in (
      part_found _ _ _ _ (λ k e. let lt =
          position_within (is_named c.args.text.now) cores k e in let counted = known.counted in omega arith)
          (looked_up cores before later _ _ _ c.args.text.now (Some c.in-Some.place) known
          (sym (c.in-Some.ensures.place so_far own is))) c.if-place-cores.false,
      sym leaf ∙ sym c.is_leaf.ensures,
    )

pub returns-then-is_leaf-clause-fault : goal.returns-then-is_leaf-clause-fault
returns-then-is_leaf-clause-fault c = λ cores before later so_far own is known.
    let at = (goal.at.returns-then-is_leaf-clause-fault c).After-is_leaf in
    let part = named_part at cores before later so_far own is known in
    ap (λ o. first_of (is_parent_faults c.args.spot before o)) part.0
    ∙ ap (λ b. first_of (fault_if b (Mixed c.args.spot))) (part.1 ∙ c.if-is_leaf.true)

pub returns-else-is_leaf-clause-ok : goal.returns-else-is_leaf-clause-ok
returns-else-is_leaf-clause-ok c = λ cores before later so_far own is known.
    let at = (goal.at.returns-else-is_leaf-clause-ok c).After-is_leaf in
    let part = named_part at cores before later so_far own is known in (
      ap (is_parent_faults c.args.spot before) part.0
          ∙ ap (λ b. fault_if b (Mixed c.args.spot)) (part.1 ∙ c.if-is_leaf.false),
      part.0,
    )
