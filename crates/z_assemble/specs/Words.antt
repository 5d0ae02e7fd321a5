-- What is printed for a fault.
use Rattle.std.specs.Prelude.{ℕ, List, ◌++◌, ◌==◌, if◌then◌else◌, codes}
use Rattle.std.specs.Fmt.{decimal}
use Rattle.z_assemble.specs.declared.fault.ListingFault.{ListingFault}

-- the words for the kind of a number from 1 to 14
unfoldable pub words_of : ℕ → List ℕ
words_of n =
    if n == 1 then codes "listing too long"
    else (if n == 2 then codes "too many lines"
    else (if n == 3 then codes "bad token"
    else (if n == 4 then codes "bad number"
    else (if n == 5 then codes "line too long"
    else (if n == 6 then codes "unknown mnemonic"
    else (if n == 7 then codes "wrong operands"
    else (if n == 8 then codes "out of range"
    else (if n == 9 then codes "unknown label"
    else (if n == 10 then codes "double label"
    else (if n == 11 then codes "overlap"
    else (if n == 12 then codes "bad directive"
    else (if n == 13 then codes "no CPU"
    else codes "bad schedule"))))))))))))

-- the line of a fault, with its line end
abbrev pub fault_line : ListingFault → List ℕ
fault_line f = codes "ztx: line " ++ (decimal f.line ++ (codes ": " ++ (words_of f.kind ++ codes "\n")))
