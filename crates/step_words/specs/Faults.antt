-- What a line adds to the commands, and why commands are not read.
use Rattle.std.specs.Prelude.{◌≡◌, ℕ, All, List, [], ◌∷◌, ◌++◌, map}
use Rattle.step_words.specs.declared.command.StepCommand.{StepCommand}
use Rattle.step_words.specs.declared.fault.CommandFault.{CommandFault}
use Rattle.step_words.specs.declared.fault.CommandFault.TheVariants.{Memory, Line}
use Rattle.step_words.specs.Commands.{IsFirstBad, IsKnown, command_text, filled}

-- a line adds its command to those that are there
pub record Adds (cpus : ℕ) (line : List ℕ) (before after : List StepCommand) : Type 0 where
  pub spelled : map command_text after ≡ map command_text before ++ filled (line ∷ [])
  pub known : All (IsKnown cpus) before → All (IsKnown cpus) after

-- for want of memory, which says nothing of the text; or since the line with this number is the first bad one
abbrev pub IsRefused : ℕ → List ℕ → CommandFault → Type 0
IsRefused cpus text Memory = Unit {0}
IsRefused cpus text (Line number) = IsFirstBad cpus text number
