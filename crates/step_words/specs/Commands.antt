-- Commands, how they are written, and the first line that is none.
use Rattle.std.specs.Prelude.{◌≡◌, ℕ, ◌+◌, ◌<◌, ◌≤◌, ◌^◌, ◌⊎◌, All, not, List, [], ◌∷◌, ◌++◌, length, map, codes}
use Rattle.std.specs.Prelude.{◌==◌}
use Rattle.std.specs.Fmt.{decimal}
use Rattle.std.specs.List.{filter}
use Rattle.step_words.specs.declared.command.StepCommand.{StepCommand}
use Rattle.step_words.specs.declared.command.StepCommand.TheVariants.{Forward, Back, Go, Cpu, Bytes, History}
use Rattle.input_parts.specs.Lines.{lines_of}

-- a letter, and behind a blank each its numbers
abbrev pub command_text : StepCommand → List ℕ
command_text (Forward n) = codes "F " ++ decimal n
command_text (Back n) = codes "B " ++ decimal n
command_text (Go n) = codes "G " ++ decimal n
command_text (Cpu cpu) = codes "C " ++ decimal cpu
command_text (Bytes first count) = codes "M " ++ (decimal first ++ (codes " " ++ decimal count))
command_text History = codes "H"

-- 1 to 256 bytes, all of them accessible
pub record AreBytes (first count : ℕ) : Type 0 where
  pub some : 1 ≤ count
  pub few : count ≤ 256
  pub low : 8192 ≤ first
  pub high : first + count ≤ 1048576

-- its numbers have 64 bits; its CPU is there, its bytes can be looked at
abbrev pub IsKnown : ℕ → StepCommand → Type 0
IsKnown cpus (Forward n) = n < 2 ^ 64
IsKnown cpus (Back n) = n < 2 ^ 64
IsKnown cpus (Go n) = n < 2 ^ 64
IsKnown cpus (Cpu cpu) = cpu < cpus
IsKnown cpus (Bytes first count) = AreBytes first count
IsKnown cpus History = Unit {0}

-- the line is the command
pub record Tells (cpus : ℕ) (line : List ℕ) (command : StepCommand) : Type 0 where
  pub spelled : line ≡ command_text command
  pub known : IsKnown cpus command

pub record IsCommand (cpus : ℕ) (line : List ℕ) : Type 0 where
  pub command : StepCommand
  pub tells : Tells cpus line command

-- ---- all lines

-- an empty line says nothing
abbrev pub filled : List (List ℕ) → List (List ℕ)
filled lines = filter (λ (line : List ℕ). not (length line == 0)) lines

-- the lines that say something are these commands, in their order
pub record AreCommands (cpus : ℕ) (text : List ℕ) (commands : List StepCommand) : Type 0 where
  pub spelled : filled (lines_of text) ≡ map command_text commands
  pub known : All (IsKnown cpus) commands

-- the line says nothing, or it is a command
abbrev pub IsFair : ℕ → List ℕ → Type 0
IsFair cpus line = (line ≡ []) ⊎ IsCommand cpus line

-- the line with this number, counted from 1, is the first that is neither empty nor a command
pub record IsFirstBad (cpus : ℕ) (text : List ℕ) (number : ℕ) : Type 0 where
  pub before : List (List ℕ)
  pub line : List ℕ
  pub behind : List (List ℕ)
  pub lines : lines_of text ≡ before ++ line ∷ behind
  pub fair : All (IsFair cpus) before
  pub bad : ¬ IsFair cpus line
  pub counted : number ≡ length before + 1
