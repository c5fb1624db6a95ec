-- The data that items stand for.
use Rattle.std.specs.Prelude.{ℕ, List, [], ◌∷◌, map}
use Rattle.std.specs.Borrow.{Bor}
use Rattle.toml.specs.Data.{Data, string, integer, float, boolean, datetime, array, table, Items, Members, no_members, member}
use Rattle.toml.specs.View.{items_of}
use Rattle.toml_items.specs.declared.item.Item.{Item, fold-Item}
use Rattle.toml_items.specs.declared.item.Item.TheOpen.{Item-F}

-- data under their keys, in the order in which they stand
abbrev pub members_of : List (Bor (List ℕ) × Data) → Members
members_of [] = no_members
members_of (e ∷ later) = member e.0.now e.1 (members_of later)

-- one level, with each item inside already seen as its data
abbrev pub item_step : Item-F Data → Data
item_step (Item-F.Text s) = string s.now
item_step (Item-F.Number z) = integer z
item_step (Item-F.Flag b) = boolean b
item_step (Item-F.List v) = array (items_of v.items)
item_step (Item-F.Table v) = table (members_of v.items)
item_step (Item-F.Float x) = float x
item_step (Item-F.Date d) = datetime d.now

-- the data of an item
abbrev pub item_view : Item → Data
item_view = fold-Item Data item_step

-- the data of the items of a list, and of the entries of a table
abbrev pub list_view : List Item → Items
list_view items = items_of (map item_view items)

abbrev pub entries_view : List (Bor (List ℕ) × Item) → Members
entries_view entries =
    members_of (map (λ (e : Bor (List ℕ) × Item). (e.0, item_view e.1)) entries)
