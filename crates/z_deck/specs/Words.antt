-- What is printed for a fault.
use Rattle.std.specs.Prelude.{ℕ, List, ◌++◌, ◌==◌, if◌then◌else◌, codes}
use Rattle.std.specs.Fmt.{decimal}
use Rattle.z_deck.specs.declared.fault.Kind.{Kind}
use Rattle.z_deck.specs.declared.fault.Kind.TheVariants.{ShortCard, NotACard, RelocationCard, SymbolCard}
use Rattle.z_deck.specs.declared.fault.Kind.TheVariants.{BadCount, OutOfRange, AfterEnd, NoEnd}

-- the numbers of the kinds
abbrev pub number_of : Kind → ℕ
number_of ShortCard = 1
number_of NotACard = 2
number_of RelocationCard = 3
number_of SymbolCard = 4
number_of BadCount = 5
number_of OutOfRange = 6
number_of AfterEnd = 7
number_of NoEnd = 8

-- the words for the kind of a number from 1 to 8
unfoldable pub words_of : ℕ → List ℕ
words_of n =
    if n == 1 then codes "short card"
    else (if n == 2 then codes "not a card"
    else (if n == 3 then codes "relocation card"
    else (if n == 4 then codes "symbol card"
    else (if n == 5 then codes "bad count"
    else (if n == 6 then codes "address out of range"
    else (if n == 7 then codes "card after END"
    else codes "no END"))))))

-- the line of a fault, with its line end
abbrev pub fault_line : ℕ → ℕ → List ℕ
fault_line card kind = codes "ztx: card " ++ (decimal card ++ (codes ": " ++ (words_of kind ++ codes "\n")))
