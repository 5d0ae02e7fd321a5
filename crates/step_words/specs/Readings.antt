-- Texts that have commands or a bad line.
use Rattle.std.specs.Prelude.{ℕ, List}
use Rattle.step_words.specs.declared.command.StepCommand.{StepCommand}
use Rattle.step_words.specs.Commands.{AreCommands, IsFirstBad}

pub record HasCommands (cpus : ℕ) (text : List ℕ) : Type 0 where
  pub commands : List StepCommand
  pub are : AreCommands cpus text commands

pub record HasBadLine (cpus : ℕ) (text : List ℕ) : Type 0 where
  pub number : ℕ
  pub first : IsFirstBad cpus text number
