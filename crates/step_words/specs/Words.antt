-- What is printed for a line that is no command.
use Rattle.std.specs.Prelude.{ℕ, List, ◌++◌, codes}
use Rattle.std.specs.Fmt.{decimal}

-- with its line end
abbrev pub fault_line : ℕ → List ℕ
fault_line number = codes "ztx: step line " ++ (decimal number ++ codes ": bad command\n")
