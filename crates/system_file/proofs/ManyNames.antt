-- How many names elements have.
use Rattle.std.proofs.Common.{◌≡◌, ℕ, List, length, codes, Some, sym, ap, ◌∙◌}
use Rattle.toml.specs.Data.{Data, string, get}
use Rattle.tree_model.proofs.Lists.{length_map}
use Rattle.system_file.specs.inner.Reading.{HaveNames}

-- there are as many names as elements that have them
pub as_many_names : (elements : List Data) (names : List (List ℕ)) → HaveNames elements names
    → length names ≡ length elements
as_many_names elements names have =
    sym (length_map (λ (name : List ℕ). Some (string name)) names)
    ∙ sym (ap length have)
    ∙ length_map (λ (d : Data). get (codes "name") d) elements
