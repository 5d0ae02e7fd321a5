-- What a line of the code's table stands for, and what a caller sees of a row.
use Rattle.std.specs.Prelude.{take}
use Rattle.z_instr.specs.declared.table.Line.{Line}
use Rattle.z_instr.specs.declared.row.Row.{Row}
use Rattle.z_instr.specs.Kinds.{operands_of, demand_of}
use Rattle.z_instr.specs.Forms.{format_of}
use Rattle.z_instr.specs.Table.{Entry, is_restricted, is_permitted}

abbrev pub entry_of : Line → Entry
entry_of l =
    record {
      name = take l.count l.letters;
      opcode = l.opcode;
      form = l.form;
      restricted = is_restricted l.usage;
      permitted = is_permitted l.usage;
      kind = l.kind;
      operands = operands_of l.kind;
      demand = demand_of l.kind;
    }

abbrev pub row_of : Entry → Row
row_of e = record {
  name = e.name;
  opcode = e.opcode;
  format = format_of e.form;
  restricted = e.restricted;
  permitted = e.permitted;
}
