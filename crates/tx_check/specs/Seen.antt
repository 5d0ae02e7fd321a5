-- A CPU as it is told, with counts of any size.
use Rattle.z_regs.specs.Cpu.{cpu_of}
use Rattle.report_text.specs.Shown.{ShownCpu}
use Rattle.tx_check.specs.declared.writing.Seen.{Seen}
use Rattle.tx_check.specs.Claims.{counts_of}

abbrev pub shown_seen : Seen → ShownCpu
shown_seen s = record {
  cpu = cpu_of s.image;
  attempt = s.attempt;
  pending = s.pending;
  counts = counts_of s.counts;
  finished = s.finished;
}
