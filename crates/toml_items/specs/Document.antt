-- The document that is found in a text.
use Rattle.toml.specs.Data.{Members}
use Rattle.toml.specs.View.{table_view}
use Rattle.toml_items.specs.declared.document.Document.{Document}
use Rattle.toml_items.specs.declared.document.Document.TheVariants.{Entries, Table}
use Rattle.toml_items.specs.Item.{entries_view}

abbrev pub members_in : Document → Members
members_in (Entries entries) = entries_view entries.items
members_in (Table table) = table_view table
