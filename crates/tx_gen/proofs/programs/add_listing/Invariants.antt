use Rattle.std.proofs.Common.{◌≡◌, ◌++◌, ◌*◌, ◌+◌}
use Rattle.std.specs.String.{string_bytes}
use Rattle.tx_gen.specs.Draws.{state}
use Rattle.tx_gen.specs.Programs.{for_first, program_of}
use Rattle.tx_gen.proofs.programs.add_listing.Given as goal

-- the programs so far stand there, and two numbers are drawn for each CPU
abbrev pub invariant-loop-cpu : goal.invariant-loop-cpu
invariant-loop-cpu l = record {
  text : string_bytes l.text ≡ string_bytes l.initial.text ++ for_first l.cpu (program_of l.number);
  state : l.draws.state ≡ state l.number (2 * l.cpu + 2);
}
