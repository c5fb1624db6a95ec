use Rattle.std.proofs.Common.{[], refl, rules}
use Rattle.toml.specs.Data.{no_members}
use Rattle.toml.specs.Tables.{key_value}
use Rattle.toml_items.specs.Plain.{IsLine, insert_member}
use Rattle.toml_items.proofs.Going.{no_pairs, one_more_pair, table_of_pairs}
use Rattle.system_file.proofs.ToldLines.{none_told}
use Rattle.system_file.proofs.told.told_lines.Goals as goal

pub lines-init : goal.lines-init
lines-init c = record {
  is_text = search rules;
  members = no_members;
  reads = no_pairs c.args.text.now;
  tells = none_told c.args.format _ refl refl refl refl refl;
}

pub returns-then-is_empty : goal.returns-then-is_empty
returns-then-is_empty c path =
    let l = c.lines.invariant in
    record {
      members = l.members;
      reads =
          rw c.after_blank-start.ensures.rest
          (table_of_pairs path c.args.text.now l.members c.lines.rest.now l.reads);
      tells = l.tells;
    }

pub lines-preserved : goal.lines-preserved
lines-preserved c =
    let l = c.lines.invariant in
    let tells = c.in_ok-rest.ensures.tells in
    let rest = c.in_ok-rest.rest in
    let line_is = rw c.after_blank-start.ensures.rest at tells.line in
    let shorter = rw c.after_blank-start.ensures.rest at c.in_ok-rest.ensures.shorter in
    let read : IsLine c.lines.rest.now (([], tells.key), key_value tells.value) rest.now =
    record { is = line_is; shorter = shorter } in
    let (none, more) = tells.adds l.members l.tells in
    record {
      is_text = search rules;
      members = insert_member tells.key tells.value l.members;
      reads = one_more_pair c.args.text.now c.lines.rest.now rest.now tells.key l.members tells.value l.reads read none;
      tells = more;
    }
