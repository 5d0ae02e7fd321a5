-- The short summary of a run of the generator's listing for a number.
use Rattle.std.specs.Prelude.{ℕ, List, ◌++◌, length, codes, sum, sum_by}
use Rattle.std.specs.Fmt.{decimal}
use Rattle.report_text.specs.Digits.{number_line}
use Rattle.report_text.specs.Shown.{ShownCpu}
use Rattle.report_text.specs.Report.{status_of}

unfoldable pub summary_head : ℕ → List ShownCpu → List ℕ
summary_head number cpus =
    number_line (codes "SUMMARY ") number ++ (number_line (codes "CPUS ") (length cpus)
    ++ number_line (codes "STATUS ") (status_of cpus))

-- over all CPUs
unfoldable pub totals_lines : List ShownCpu → List ℕ
totals_lines cpus =
    number_line (codes "TURNS ") (sum_by (λ c. c.counts.turns) cpus)
    ++ (number_line (codes "COMMITS ") (sum_by (λ c. c.counts.commits) cpus)
    ++ number_line (codes "ABORTS ") (sum_by (λ c. c.counts.aborts) cpus))

abbrev pub sum_line : List ℕ → List ℕ
sum_line counters = codes "SUM " ++ (decimal (sum counters) ++ codes "\n")

-- of the number, the CPUs after the run, and the values of the counters
unfoldable pub summary_text : ℕ → List ShownCpu → List ℕ → List ℕ
summary_text number cpus counters =
    summary_head number cpus ++ (totals_lines cpus ++ sum_line counters)
